-- What a translation of a table answers, by whichever method: the operand, the number of definitions added and the definitions then, or
-- a refusal. It is told first where the working records are short, and then where the limit is reached.
use Rattle.std.specs.Prelude.{◌≡◌, ℕ, ◌-◌, ◌<◌, List, length, Some, None, Ok, Err, Option, Result, nat_le}
use Rattle.rack.specs.declared.refusal.Refusal.{Refusal}
use Rattle.rack.specs.declared.refusal.Refusal.TheVariants.{LimitReached, MemoryShort}
use Rattle.rack.specs.Way.{Way}
use Rattle.table.specs.Kept.{kept}
use Rattle.definitions.specs.declared.operand.Operand.{Operand}
use Rattle.definitions.specs.declared.operand.Definition.{Definition}
use Rattle.definitions.specs.declared.draft.Draft.{Draft}
use Rattle.definitions.specs.Combine.{State, Writing, choose}
use Rattle.definitions.specs.Writing.{written_in, Grown}
use Rattle.working.specs.declared.record.WorkingRecord.{WorkingRecord}
use Rattle.working.specs.Gather.{needed}

-- the rule of a method: what it writes of a list of ways, within a limit
abbrev pub Rule : Type 0
Rule = ℕ → List Way → Writing

pub data Outcome : Type 0 where
  written : (x : Operand) (added : ℕ) (all : List Definition) → Outcome
  refused : Refusal → Outcome

-- ds were there before
abbrev pub limited : List Definition → Option State → Outcome
limited ds None = refused LimitReached
limited ds (Some s) = written s.answer (length s.all - length ds) s.all

-- ws are the ways entered, and so many working records were lent
abbrev pub outcome : Rule → ℕ → List Way → ℕ → List Definition → Outcome
outcome rule limit ws records ds = choose (nat_le (needed (kept ws)) records) (limited ds (rule limit (kept ws) ds)) (refused MemoryShort)

abbrev pub shown : Result (Operand × ℕ) Refusal → List Definition → Outcome
shown (Ok p) ds = written p.0 p.1 ds
shown (Err e) ds = refused e

-- a method found the draft as it was, and left it as it is after; the working records were `lent` and are `left`.
-- A method that is broken off at the limit may leave definitions behind those that were there; translate takes them back
pub record Translated (rule : Rule) (ws : List Way) (lent left : List WorkingRecord) (was after : Draft) (r : Result (Operand × ℕ) Refusal) : Type 0 where
  pub answer : shown r (written_in after) ≡ outcome rule was.limit ws (length lent) (written_in was)
  pub grown : Grown was after
  pub untouched : length lent < needed (kept ws) → (left ≡ lent) × (after.count ≡ was.count)
