-- The rule of each method, and what a translation leaves: as the method has it, or, where it is refused, the count as it was.
use Rattle.std.specs.Prelude.{◌≡◌, ℕ, true, List, is_err, Option, Result}
use Rattle.std.specs.Option.{unwrap_or}
use Rattle.rack.specs.declared.refusal.Refusal.{Refusal}
use Rattle.rack.specs.Way.{Way}
use Rattle.definitions.specs.declared.operand.Operand.{Operand}
use Rattle.definitions.specs.declared.draft.Draft.{Draft}
use Rattle.working.specs.declared.record.WorkingRecord.{WorkingRecord}
use Rattle.working.specs.Translation.{Rule, Translated}
use Rattle.naive.specs.Naive.{naively}
use Rattle.decomposition.specs.Decomposition.{decomposing}
use Rattle.merging.specs.Merging.{merging}
use Rattle.methods.specs.declared.translate.Method.{Method}
use Rattle.methods.specs.declared.translate.Method.TheVariants as method

abbrev pub rule_of : Method → Rule
rule_of method.Naive = naively
rule_of method.Decomposition = decomposing
rule_of method.NodeMerging = merging

-- ws are the ways entered
pub record Settled (m : Method) (ws : List Way) (lent left : List WorkingRecord) (was after : Draft) (r : Result (Operand × ℕ) Refusal) : Type 0 where
  pub translated : Translated (rule_of m) ws lent left was after r
  pub restored : is_err r ≡ true → after.count ≡ was.count

-- a guard's end puts a count back, if there is one to put back, and leaves the rest of the draft
pub record RolledBack (back : Option ℕ) (was after : Draft) : Type 0 where
  pub count : after.count ≡ unwrap_or back was.count
  pub limit : after.limit ≡ was.limit
  pub slots : after.slots.now ≡ was.slots.now
  pub lender : after.slots.ghost_name ≡ was.slots.ghost_name
