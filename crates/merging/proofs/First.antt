-- What the finder says of a value is the position at which a test passes first, where the test says yes exactly at that value.
use Rattle.std.proofs.Common.{◌≡◌, ℕ, ◌<◌, ◌≤◌, Bool, ◌⊎◌, List, length, Some, None, Decides, sym, refl, ◌∙◌, inl, inr, arith}
use Rattle.std.specs.List.{position, position_or_len}
use Rattle.std.proofs.lemmas.Bool.{false≢true, lt-ltb, le-ltb, cases_lt}
use Rattle.std.proofs.lemmas.List.Sums.{position_or_len_is, passes_at_first, fails_before_first}
use Rattle.rack.proofs.Found.{differ}
use Rattle.rack.specs.First.{FirstAt, Nowhere}

module _ {X : Type 0} (x : X) (t : X → Bool) (exact : (y : X) → Decides (t y) (y ≡ x)) (ys : List X) where
  pub position_found : (i : ℕ) → FirstAt ys x i → position t ys ≡ Some i
  position_found i h =
      let at : position_or_len t ys ≡ i = position_or_len_is t ys i x (omega (arith, h.inside)) (λ k l. differ x t exact _ (h.before k l)) (λ l. (exact _).1 h.here) in
      rw (at, lt-ltb i (length ys) h.inside) refl

  pub position_none : Nowhere ys x → position t ys ≡ None
  position_none h =
      let at : position_or_len t ys ≡ length ys = position_or_len_is t ys (length ys) x (omega arith) (λ k l. differ x t exact _ (h k l)) (λ l. absurd (omega (arith, l))) in
      rw (at, le-ltb (length ys) (length ys) (omega arith)) refl

  pub first_or_nowhere : ((i : ℕ) × FirstAt ys x i) ⊎ Nowhere ys x
  first_or_nowhere = by (cases_lt (position_or_len t ys) (length ys))
    where
      by : (position_or_len t ys < length ys) ⊎ (length ys ≤ position_or_len t ys) → ((i : ℕ) × FirstAt ys x i) ⊎ Nowhere ys x
      by (inl l) = inl (position_or_len t ys, record { inside = l; here = (exact _).0 (passes_at_first t ys x l); before = λ k h e. false≢true (sym (fails_before_first t ys k x h) ∙ (exact _).1 e) })
      by (inr g) = inr (λ k h e. false≢true (sym (fails_before_first t ys k x (omega (arith, g, h))) ∙ (exact _).1 e))
