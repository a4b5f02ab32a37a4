-- What the finder says of a value is whether some element passes a test that says yes exactly at that value.
use Rattle.std.proofs.Common.{◌≡◌, ℕ, zero, suc, Bool, true, false, ◌||◌, List, [], ◌∷◌, is_some, Some, None, Decides, Option, sym, refl, ap, ◌∙◌, arith, MatchOption}
use Rattle.std.specs.List.{list_any}
use Rattle.rack.specs.First.{FirstAt, Nowhere}

module _ {X : Type 0} (x : X) (t : X → Bool) (exact : (y : X) → Decides (t y) (y ≡ x)) where
  pub differ : (y : X) → (y ≡ x → ⊥) → t y ≡ false
  differ y ne = let h = exact y in grind arith

  passes : (ys : List X) (i : ℕ) → FirstAt ys x i → list_any t ys ≡ true
  passes [] i f = absurd (omega (arith, f.inside))
  passes (y ∷ ys) zero f = ap (λ b. b || list_any t ys) ((exact y).1 f.here)
  passes (y ∷ ys) (suc i) f =
      ap (λ b. b || list_any t ys) (differ y (f.before 0 (omega arith)))
      ∙ passes ys i (record { inside = omega (arith, f.inside); here = f.here; before = λ k m. f.before (suc k) (omega arith) })

  fails : (ys : List X) → Nowhere ys x → list_any t ys ≡ false
  fails [] n = refl
  fails (y ∷ ys) n = ap (λ b. b || list_any t ys) (differ y (n 0 (omega arith))) ∙ fails ys (λ k m. n (suc k) (omega arith))

  pub found_any : (ys : List X) (o : Option ℕ) → MatchOption o (Nowhere ys x) (FirstAt ys x) → is_some o ≡ list_any t ys
  found_any ys None n = sym (fails ys n)
  found_any ys (Some i) f = sym (passes ys i f)
