-- Numbers digit by digit: the next digit comes off the digits that are left, a number that is too large stays so, and so many hexadecimal
-- digits stand for less than their power of 16.
use Rattle.std.proofs.Common.{◌≡◌, ℕ, ◌+◌, ◌*◌, ◌^◌, ◌<◌, ◌≤◌, min, Bool, true, false, cond, leb, nat_lt, List, [], ◌∷◌, length, get_or, drop, Some, None, Option, sym, refl, ap, ◌∙◌, subst, arith, mul_assoc}
use Rattle.std.proofs.lemmas.Bool.Decides.{nat_tests}
use Rattle.std.proofs.lemmas.Bool.{leb-true, leb-false, lt-ltb, le-ltb}
use Rattle.std.proofs.lemmas.List.{at_drop_more}
use Rattle.std.proofs.Math.Nat.{le-mul_of_pos_right, pow-succ', pow-le-pow_right}
use Rattle.rack.specs.Hex.{digit_of}
use Rattle.words.specs.Words.{number_behind, digit_below, capped, hexadecimal_of}

-- the largest of a u64
abbrev most : ℕ
most = 18446744073709551615

abbrev by_digit : (ℕ → Option ℕ) → ℕ → ℕ → List ℕ → Option ℕ → Option ℕ
by_digit digit base n bs o = elim o [ Some d ↦ number_behind digit base (n * base + d) bs | None ↦ None ]

-- the digit at place i, of those from i on
pub one_more : (digit : ℕ → Option ℕ) (base n : ℕ) (w : List ℕ) (i b d : ℕ) → i < length w → Some d ≡ digit (get_or w i b) → number_behind digit base n (drop i w) ≡ number_behind digit base (n * base + d) (drop (i + 1) w)
one_more digit base n w i b d h e = at_drop_more (number_behind digit base n) w i b h ∙ ap (by_digit digit base n (drop (i + 1) w)) (sym e)

-- numbers that are the same or both too large stay so
pub capped_alike : (digit : ℕ → Option ℕ) (base m n : ℕ) (w : List ℕ) → 0 < base → min m most ≡ min n most → capped (number_behind digit base m w) ≡ capped (number_behind digit base n w)
capped_alike digit base m n [] some e = ap (λ (k : ℕ). Some k) e
capped_alike digit base m n (b ∷ w) some e = go (λ d. capped_alike digit base (m * base + d) (n * base + d) w some (one_on d (leb most m) refl)) (digit b)
  where
    one_on : (d : ℕ) (large : Bool) → leb most m ≡ large → min (m * base + d) most ≡ min (n * base + d) most
    one_on d true h = omega (arith, e, leb-true most m h, le-mul_of_pos_right {m = base} m some, le-mul_of_pos_right {m = base} n some)
    one_on d false h =
        let few : m < most = leb-false most m h in
        let same : m ≡ n = omega (arith, e, few) in
        ap (λ k. min (k * base + d) most) same

    go : ((d : ℕ) → capped (number_behind digit base (m * base + d) w) ≡ capped (number_behind digit base (n * base + d) w)) → (o : Option ℕ) → capped (by_digit digit base m w o) ≡ capped (by_digit digit base n w o)
    go on None = refl
    go on (Some d) = on d

-- digits that are read alike stand for the same number
alike : (f g : ℕ → Option ℕ) (base n : ℕ) (w : List ℕ) → ((b : ℕ) → f b ≡ g b) → number_behind f base n w ≡ number_behind g base n w
alike f g base n [] e = refl
alike f g base n (b ∷ w) e = ap (by_digit f base n w) (e b) ∙ go (λ d. alike f g base (n * base + d) w e) (g b)
  where
    go : ((d : ℕ) → number_behind f base (n * base + d) w ≡ number_behind g base (n * base + d) w) → (o : Option ℕ) → by_digit f base n w o ≡ by_digit g base n w o
    go on None = refl
    go on (Some d) = on d

-- ---- hexadecimal digits
small : (b d : ℕ) → Some d ≡ digit_of b → d < 16
small b d e = grind (arith, nat_tests)

sixteen : (b : ℕ) → digit_below 16 b ≡ digit_of b
sixteen b = go (digit_of b) refl
  where
    go : (o : Option ℕ) → digit_of b ≡ o → elim o as (λ x. Option ℕ) [ Some d ↦ cond (nat_lt d 16) (Some d) None | None ↦ None ] ≡ o
    go None e = refl
    go (Some d) e = ap (λ t. cond t (Some d) None) (lt-ltb d 16 (small b d (sym e)))

-- a number below k, and digits behind it
below : (w : List ℕ) (n m k : ℕ) → n < k → Some m ≡ number_behind digit_of 16 n w → m < k * 16 ^ length w
below [] n m k h e =
    let is : m ≡ n = cc in
    omega arith
below (b ∷ w) n m k h e = go (λ d. below w (n * 16 + d) m (k * 16)) (digit_of b) refl e
  where
    go : ((d : ℕ) → n * 16 + d < k * 16 → Some m ≡ number_behind digit_of 16 (n * 16 + d) w → m < k * 16 * 16 ^ length w) → (o : Option ℕ) → digit_of b ≡ o → Some m ≡ by_digit digit_of 16 n w o → m < k * 16 ^ length (b ∷ w)
    go on None p f = let z : ◌≡◌ {A = ℕ} 0 1 = cc in absurd (omega arith)
    go on (Some d) p f =
        let is : k * 16 * 16 ^ length w ≡ k * 16 ^ length (b ∷ w) = mul_assoc k 16 (16 ^ length w) ∙ ap (λ j. k * j) (sym (pow-succ' 16 (length w))) in
        subst (λ j. m < j) is (on d (omega (arith, small b d (sym p))) f)

few_are : (w : List ℕ) → length w ≤ 16 → hexadecimal_of w ≡ number_behind digit_of 16 0 w
few_are w few = ap (λ t. cond t None (number_behind digit_of 16 0 w)) (le-ltb 16 (length w) few)

-- four digits are a u16
pub four_fit : (w : List ℕ) (m : ℕ) → length w ≡ 4 → Some m ≡ hexadecimal_of w → m < 65536
four_fit w m long e = subst (λ l. m < 1 * 16 ^ l) long (below w 0 m 1 (omega arith) (e ∙ few_are w (omega (arith, long))))

-- sixteen digits are a u64
pub hexadecimal_is : (w : List ℕ) (o : Option ℕ) → length w ≤ 16 → o ≡ capped (number_behind (digit_below 16) 16 0 w) → o ≡ hexadecimal_of w
hexadecimal_is w o few e = e ∙ ap capped (alike (digit_below 16) digit_of 16 0 w sixteen) ∙ exact (number_behind digit_of 16 0 w) refl ∙ sym (few_are w few)
  where
    exact : (n : Option ℕ) → number_behind digit_of 16 0 w ≡ n → capped n ≡ n
    exact None f = refl
    exact (Some m) f =
        let fits : m < 1 * 16 ^ length w = below w 0 m 1 (omega arith) (sym f) in
        let bound : 16 ^ length w ≤ 16 ^ 16 = pow-le-pow_right (omega arith) few in
        let is : min m most ≡ m = omega (arith, fits, bound) in
        ap (λ (k : ℕ). Some k) is
