-- What an evaluation answers over an algebra, what it leaves in the elements that it was lent, and when it is refused.
-- Elements are of a type X, and value gives the value of each.
use Rattle.std.specs.Prelude.{◌≡◌, ℕ, List, map, length, take, drop, Some, None, Option, Result, MatchResult, ◌==◌, nat_lt, slice_index_or}
use Rattle.rack.specs.declared.refusal.Refusal.{Refusal}
use Rattle.rack.specs.declared.refusal.Refusal.TheVariants.{NoSuchDefinition, WrongSettings, MemoryShort}
use Rattle.definitions.specs.declared.operand.Operand.{Operand}
use Rattle.definitions.specs.declared.operand.Definition.{Definition}
use Rattle.definitions.specs.Operands.{reach}
use Rattle.definitions.specs.Combine.{choose}
use Rattle.script.specs.Script.{known}
use Rattle.algebra.specs.Algebra.{Algebra}
use Rattle.algebra.specs.Worth.{Settings, values, worth}

-- the values of the parts, in the order of their numbers
abbrev pub settings_of : (A : Algebra) → List A.Value → Settings A
settings_of A vs part = slice_index_or vs part A.bottom

-- 11, then 12, then 13
abbrev pub evaluation_refusal : List Definition → Operand → ℕ → ℕ → Option Refusal
evaluation_refusal ds x settings elements = choose (known (length ds) x) (choose (settings == 256) (choose (nat_lt elements (reach x)) (Some MemoryShort) None) (Some WrongSettings)) (Some NoSuchDefinition)

-- n operations turn the elements `was` into `after`: ds are worked out in front, and later elements stay
pub record WorkedOut (A : Algebra) {X : Type 0} (value : X → A.Value) (ds : List Definition) (settings was after : List X) (n : ℕ) : Type 0 where
  pub operations : n ≡ length ds
  pub worked : map value (take (length ds) after) ≡ values A (settings_of A (map value settings)) ds
  pub later : drop (length ds) after ≡ drop (length ds) was

-- an evaluation that is accepted
pub record Evaluated (A : Algebra) {X : Type 0} (value : X → A.Value) (ds : List Definition) (x : Operand) (settings was after : List X) (element : X) (n : ℕ) : Type 0 where
  pub due : evaluation_refusal ds x (length settings) (length was) ≡ None
  pub answer : value element ≡ worth A (settings_of A (map value settings)) ds x
  pub operations : n ≡ reach x
  pub worked : map value (take (reach x) after) ≡ values A (settings_of A (map value settings)) (take (reach x) ds)
  pub later : drop (reach x) after ≡ drop (reach x) was

-- a refused evaluation changes nothing
abbrev pub Evaluation : (A : Algebra) {X : Type 0} (value : X → A.Value) (ds : List Definition) (x : Operand) (settings was after : List X) → Result (X × ℕ) Refusal → Type 0
Evaluation A value ds x settings was after r = MatchResult r (λ p. Evaluated A value ds x settings was after p.0 p.1) (λ e. (evaluation_refusal ds x (length settings) (length was) ≡ Some e) × (after ≡ was))
