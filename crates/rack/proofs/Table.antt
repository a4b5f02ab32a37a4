-- A rule of a table holds at every entry, by one test that is computed over the whole table.
use Rattle.std.proofs.Common.{◌≡◌, ℕ, zero, suc, ◌+◌, ◌<◌, Bool, true, false, ◌&&◌, eqb, List, [], ◌∷◌, length, get_or, ap, ◌∙◌, arith}
use Rattle.std.proofs.lemmas.Bool.Decides.{nat_tests}

-- each entry is what f says of its place, counted from i
abbrev pub follows : (ℕ → ℕ) → ℕ → List ℕ → Bool
follows f i [] = true
follows f i (x ∷ xs) = eqb x (f i) && follows f (suc i) xs

first : (a b : ℕ) (t : Bool) → (eqb a b && t) ≡ true → a ≡ b
first a b t h = grind (arith, nat_tests)

rest : (s t : Bool) → (s && t) ≡ true → t ≡ true
rest true t h = h
rest false t h = grind arith

pub entry : (f : ℕ → ℕ) (i : ℕ) (xs : List ℕ) → follows f i xs ≡ true → (k : ℕ) → k < length xs → get_or xs k 0 ≡ f (i + k)
entry f i [] h k l = absurd (omega arith)
entry f i (x ∷ xs) h zero l =
    let e : i ≡ i + 0 = omega arith in
    first x (f i) (follows f (suc i) xs) h ∙ ap f e
entry f i (x ∷ xs) h (suc k) l =
    let e : suc i + k ≡ i + suc k = omega arith in
    entry f (suc i) xs (rest (eqb x (f i)) (follows f (suc i) xs) h) k (omega arith) ∙ ap f e

pub at : (f : ℕ → ℕ) (n : ℕ) (xs : List ℕ) → follows f 0 xs ≡ true → length xs ≡ n → (k : ℕ) → k < n → get_or xs k 0 ≡ f k
at f n xs h e k l =
    let within : k < length xs = omega arith in
    let here : 0 + k ≡ k = omega arith in
    entry f 0 xs h k within ∙ ap f here
