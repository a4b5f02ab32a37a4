-- A Boolean algebra: its values and operations, and its laws in two parts, those of a distributive lattice with a bottom and a top, and
-- those of the complement.
use Rattle.std.specs.Prelude.{◌≡◌}

pub record Algebra : Type 1 where
  pub Value : Type 0
  pub meet : Value → Value → Value
  pub join : Value → Value → Value
  pub bottom : Value
  pub top : Value
  pub complement : Value → Value

pub record Lattice (A : Algebra) : Type 0 where
  pub meet_comm : (a b : A.Value) → A.meet a b ≡ A.meet b a
  pub join_comm : (a b : A.Value) → A.join a b ≡ A.join b a
  pub meet_assoc : (a b c : A.Value) → A.meet (A.meet a b) c ≡ A.meet a (A.meet b c)
  pub join_assoc : (a b c : A.Value) → A.join (A.join a b) c ≡ A.join a (A.join b c)
  pub meet_absorbs : (a b : A.Value) → A.meet a (A.join a b) ≡ a
  pub join_absorbs : (a b : A.Value) → A.join a (A.meet a b) ≡ a
  pub distributes : (a b c : A.Value) → A.meet a (A.join b c) ≡ A.join (A.meet a b) (A.meet a c)
  pub meet_top : (a : A.Value) → A.meet a A.top ≡ a
  pub join_bottom : (a : A.Value) → A.join a A.bottom ≡ a

pub record Complemented (A : Algebra) : Type 0 where
  pub meet_complement : (a : A.Value) → A.meet a (A.complement a) ≡ A.bottom
  pub join_complement : (a : A.Value) → A.join a (A.complement a) ≡ A.top

-- a statement at every Boolean algebra, whoever built it
abbrev pub EveryAlgebra : (Algebra → Type 0) → Type 1
EveryAlgebra P = (A : Algebra) → Lattice A → Complemented A → P A
