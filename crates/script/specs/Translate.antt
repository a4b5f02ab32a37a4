-- What translate leaves of a script: the definitions of the chosen method's rule, or, where it is refused, the definitions as they were.
use Rattle.std.specs.Prelude.{◌≡◌, ℕ, ◌<◌, true, List, length, is_err, Result}
use Rattle.rack.specs.declared.refusal.Refusal.{Refusal}
use Rattle.rack.specs.Way.{Way}
use Rattle.table.specs.Kept.{kept}
use Rattle.definitions.specs.declared.operand.Operand.{Operand}
use Rattle.working.specs.declared.record.WorkingRecord.{WorkingRecord}
use Rattle.working.specs.Gather.{needed}
use Rattle.working.specs.Translation.{outcome, shown}
use Rattle.methods.specs.declared.translate.Method.{Method}
use Rattle.methods.specs.Methods.{rule_of}
use Rattle.script.specs.declared.script.Script.{Script}
use Rattle.script.specs.Script.{definitions_of}

-- ws are the ways entered; the working records were `lent` and are `left`
pub record WroteTable (was after : Script) (m : Method) (ws : List Way) (lent left : List WorkingRecord) (r : Result (Operand × ℕ) Refusal) : Type 0 where
  pub answer : shown r (definitions_of after) ≡ outcome (rule_of m) was.limit ws (length lent) (definitions_of was)
  pub refused : is_err r ≡ true → definitions_of after ≡ definitions_of was
  pub limit : after.limit ≡ was.limit
  pub untouched : length lent < needed (kept ws) → left ≡ lent
