-- The binary digits of `&`, `|` and `!`, and that the digits below place k tell two numbers below 2 ^ k apart.
use Rattle.std.proofs.Common.{◌≡◌, ℕ, zero, suc, ◌+◌, ◌-◌, ◌/◌, ◌%◌, ◌^◌, ◌<◌, Bool, true, false, not, ◌&&◌, ◌||◌, eqb, ◌⊎◌, sym, refl, ap, ◌∙◌, inl, inr, le_of_suc-le-suc, not-suc-le-zero, mod-lt, zero-lt-suc, pow-suc, div-one, one-add, arith, pow_pos}
use native.Mathlib.Nat.{zero-div}
use lib.Bits.{bit_and, bit_or, and_shr, or_shr, and_mod, or_mod}
use Rattle.std.proofs.lemmas.Bool.{true≢false, false≢true}
use Rattle.std.proofs.lemmas.Bool.Decides.{eqb_tells}
use Rattle.std.proofs.lemmas.Nat.{shr-shr}
use Rattle.algebra.specs.Models.{bit}

abbrev odd : ℕ → Bool
odd n = eqb (n % 2) 1

not_digit : {A : Type 0} {x : ℕ} → suc (suc x) < 2 → A
not_digit h = absurd (not-suc-le-zero (le_of_suc-le-suc (le_of_suc-le-suc h)))

two_pos : zero < 2
two_pos = zero-lt-suc 1

digit_and : (x y : ℕ) → x < 2 → y < 2 → eqb (bit_and x y) 1 ≡ (eqb x 1 && eqb y 1)
digit_and zero y hx hy = refl
digit_and (suc zero) zero hx hy = refl
digit_and (suc zero) (suc zero) hx hy = refl
digit_and (suc zero) (suc (suc y)) hx hy = not_digit hy
digit_and (suc (suc x)) y hx hy = not_digit hx

digit_or : (x y : ℕ) → x < 2 → y < 2 → eqb (bit_or x y) 1 ≡ (eqb x 1 || eqb y 1)
digit_or zero y hx hy = refl
digit_or (suc zero) zero hx hy = refl
digit_or (suc zero) (suc zero) hx hy = refl
digit_or (suc zero) (suc (suc y)) hx hy = not_digit hy
digit_or (suc (suc x)) y hx hy = not_digit hx

odd_and : (a b : ℕ) → odd (bit_and a b) ≡ (odd a && odd b)
odd_and a b = ap (λ (n : ℕ). eqb n 1) (and_mod a b 1) ∙ digit_and (a % 2) (b % 2) (mod-lt a two_pos) (mod-lt b two_pos)

odd_or : (a b : ℕ) → odd (bit_or a b) ≡ (odd a || odd b)
odd_or a b = ap (λ (n : ℕ). eqb n 1) (or_mod a b 1) ∙ digit_or (a % 2) (b % 2) (mod-lt a two_pos) (mod-lt b two_pos)

pub bit_of_and : (a b i : ℕ) → bit (bit_and a b) i ≡ (bit a i && bit b i)
bit_of_and a b i = ap odd (and_shr a b i) ∙ odd_and (a / 2 ^ i) (b / 2 ^ i)

pub bit_of_or : (a b i : ℕ) → bit (bit_or a b) i ≡ (bit a i || bit b i)
bit_of_or a b i = ap odd (or_shr a b i) ∙ odd_or (a / 2 ^ i) (b / 2 ^ i)

-- of two digits that add up to 1, one is 1 and the other is not
digit_not : (x y : ℕ) → x + y ≡ 1 → eqb x 1 ≡ not (eqb y 1)
digit_not zero zero e = absurd (omega arith)
digit_not zero (suc zero) e = refl
digit_not zero (suc (suc y)) e = absurd (omega arith)
digit_not (suc zero) zero e = refl
digit_not (suc zero) (suc y) e = absurd (omega arith)
digit_not (suc (suc x)) y e = absurd (omega arith)

-- two numbers whose sum is 2 ^ k - 1 have opposite digits at each place below k
opposite : (i k a b : ℕ) → i < k → a + b + 1 ≡ 2 ^ k → bit a i ≡ not (bit b i)
opposite i zero a b h e = absurd (not-suc-le-zero h)
opposite zero (suc k) a b h e =
    let p = pow-suc 2 k in
    ap odd (div-one a) ∙ digit_not (a % 2) (b % 2) (omega arith) ∙ ap (λ (n : ℕ). not (odd n)) (sym (div-one b))
opposite (suc i) (suc k) a b h e =
    let p = pow-suc 2 k in
    let down = λ (n : ℕ). ap odd (ap (λ (m : ℕ). n / 2 ^ m) (sym (one-add i)) ∙ sym (shr-shr n 1 i)) in
    down a ∙ opposite i k (a / 2) (b / 2) (le_of_suc-le-suc h) (omega arith) ∙ ap not (sym (down b))

pub bit_not : (k a i : ℕ) → a < 2 ^ k → i < k → bit (2 ^ k - 1 - a) i ≡ not (bit a i)
bit_not k a i fits h = opposite i k (2 ^ k - 1 - a) a h (omega arith)

zero_bit : (i : ℕ) → bit 0 i ≡ false
zero_bit i = ap odd (zero-div (2 ^ i))

pub bit_all : (i : ℕ) → i < 64 → bit 18446744073709551615 i ≡ true
bit_all i h = bit_not 64 0 i (pow_pos 64) h ∙ ap not (zero_bit i)

-- two digits that are 1 in the same case
digit_same : (x y : ℕ) → x < 2 → y < 2 → eqb x 1 ≡ eqb y 1 → x ≡ y
digit_same x y hx hy e = by (eqb_tells x 1) (eqb_tells y 1)
  where
    by : ((eqb x 1 ≡ true) × (x ≡ 1)) ⊎ ((eqb x 1 ≡ false) × (x ≡ 1 → ⊥)) → ((eqb y 1 ≡ true) × (y ≡ 1)) ⊎ ((eqb y 1 ≡ false) × (y ≡ 1 → ⊥)) → x ≡ y
    by (inl p) (inl q) = omega (arith, p.1, q.1)
    by (inl p) (inr q) = absurd (true≢false (sym p.0 ∙ e ∙ q.0))
    by (inr p) (inl q) = absurd (false≢true (sym p.0 ∙ e ∙ q.0))
    by (inr p) (inr q) = omega (arith, p.1, q.1)

pub bits_same : (k m n : ℕ) → m < 2 ^ k → n < 2 ^ k → ((i : ℕ) → i < k → bit m i ≡ bit n i) → m ≡ n
bits_same zero m n hm hn same = omega arith
bits_same (suc k) m n hm hn same =
    let p = pow-suc 2 k in
    let down = λ (a i : ℕ). ap odd (ap (λ (j : ℕ). a / 2 ^ j) (sym (one-add i)) ∙ sym (shr-shr a 1 i)) in
    let last : m % 2 ≡ n % 2 = digit_same (m % 2) (n % 2) (mod-lt m two_pos) (mod-lt n two_pos) (ap odd (sym (div-one m)) ∙ same 0 (omega arith) ∙ ap odd (div-one n)) in
    let rest : m / 2 ≡ n / 2 = bits_same k (m / 2) (n / 2) (omega arith) (omega arith) (λ i h. sym (down m i) ∙ same (suc i) (omega arith) ∙ down n i) in
    omega arith
