-- What follows from the laws of a lattice: the units on the left, the constants that win, and repetition.
use Rattle.std.proofs.Common.{◌≡◌, sym, ap, ◌∙◌}
use Rattle.algebra.specs.Algebra.{Algebra, Lattice}

module _ (A : Algebra) (L : Lattice A) where
  pub join_bottom_left : (a : A.Value) → A.join A.bottom a ≡ a
  join_bottom_left a = L.join_comm A.bottom a ∙ L.join_bottom a

  pub meet_top_left : (a : A.Value) → A.meet A.top a ≡ a
  meet_top_left a = L.meet_comm A.top a ∙ L.meet_top a

  pub meet_bottom_left : (a : A.Value) → A.meet A.bottom a ≡ A.bottom
  meet_bottom_left a = ap (A.meet A.bottom) (sym (join_bottom_left a)) ∙ L.meet_absorbs A.bottom a

  pub meet_bottom : (a : A.Value) → A.meet a A.bottom ≡ A.bottom
  meet_bottom a = L.meet_comm a A.bottom ∙ meet_bottom_left a

  pub join_top_left : (a : A.Value) → A.join A.top a ≡ A.top
  join_top_left a = ap (A.join A.top) (sym (meet_top_left a)) ∙ L.join_absorbs A.top a

  pub join_top : (a : A.Value) → A.join a A.top ≡ A.top
  join_top a = L.join_comm a A.top ∙ join_top_left a

  pub meet_same : (a : A.Value) → A.meet a a ≡ a
  meet_same a = ap (A.meet a) (sym (L.join_bottom a)) ∙ L.meet_absorbs a A.bottom

  pub join_same : (a : A.Value) → A.join a a ≡ a
  join_same a = ap (A.join a) (sym (L.meet_top a)) ∙ L.join_absorbs a A.top

  pub join_left_comm : (a b c : A.Value) → A.join a (A.join b c) ≡ A.join b (A.join a c)
  join_left_comm a b c = sym (L.join_assoc a b c) ∙ ap (λ x. A.join x c) (L.join_comm a b) ∙ L.join_assoc b a c

  pub meet_left_comm : (a b c : A.Value) → A.meet a (A.meet b c) ≡ A.meet b (A.meet a c)
  meet_left_comm a b c = sym (L.meet_assoc a b c) ∙ ap (λ x. A.meet x c) (L.meet_comm a b) ∙ L.meet_assoc b a c

  pub meet_same_left : (a b : A.Value) → A.meet a (A.meet a b) ≡ A.meet a b
  meet_same_left a b = sym (L.meet_assoc a a b) ∙ ap (λ x. A.meet x b) (meet_same a)

  pub join_same_left : (a b : A.Value) → A.join a (A.join a b) ≡ A.join a b
  join_same_left a b = sym (L.join_assoc a a b) ∙ ap (λ x. A.join x b) (join_same a)
