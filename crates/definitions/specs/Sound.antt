-- When a list of definitions is sound: no two alike, none with equal operands, none that names a constant, itself or a later one.
use Rattle.std.specs.Prelude.{◌≡◌, ℕ, ◌<◌, ◌≤◌, List, length, ◌≢◌, slice_index_or}
use Rattle.definitions.specs.declared.operand.Operator.TheVariants.{Meet}
use Rattle.definitions.specs.declared.operand.Operand.{Operand}
use Rattle.definitions.specs.declared.operand.Operand.TheVariants.{Never, Always, Works, Out, Defined}
use Rattle.definitions.specs.declared.operand.Definition.{Definition}

-- among n definitions: a definition operand has a number from 1 to n
abbrev pub Legal : ℕ → Operand → Type 0
Legal n Never = Unit {0}
Legal n Always = Unit {0}
Legal n (Works p) = Unit {0}
Legal n (Out p) = Unit {0}
Legal n (Defined k) = (0 < k.0) × (k.0 ≤ n)

abbrev pub Constant : Operand → Type 0
Constant Never = Unit {0}
Constant Always = Unit {0}
Constant (Works p) = ⊥
Constant (Out p) = ⊥
Constant (Defined k) = ⊥

-- what a place past the end is read as
abbrev pub blank : Definition
blank = record { operator = Meet; first = Never; second = Never }

-- places count from 0 and numbers from 1: the definition at place i has number i + 1
pub record Sound (ds : List Definition) : Type 0 where
  pub apart : (i j : ℕ) → i < length ds → j < length ds → slice_index_or ds i blank ≡ slice_index_or ds j blank → i ≡ j
  pub differ : (i : ℕ) → i < length ds → (slice_index_or ds i blank).first ≢ (slice_index_or ds i blank).second
  pub earlier : (i : ℕ) → i < length ds → Legal i (slice_index_or ds i blank).first × Legal i (slice_index_or ds i blank).second
  pub plain : (i : ℕ) → i < length ds → (Constant (slice_index_or ds i blank).first → ⊥) × (Constant (slice_index_or ds i blank).second → ⊥)
