-- What is written, with the lines that are unsent, is what all of them come to.
use Rattle.std.proofs.Common.{◌≡◌, ◌-◌, ◌++◌, vec_items}
use Rattle.definitions.specs.Operands.{reach}
use Rattle.delivery.specs.Calls.{sources}
use Rattle.preprocess.specs.Answer.{lines_from}
use Rattle.preprocess.proofs.Sending.{unsent_lines}
use Rattle.preprocess.proofs.answer.send.Given as goal

abbrev pub invariant-loop-n : goal.invariant-loop-n
invariant-loop-n l =
    (l.delivery.operand ≡ l.initial.delivery.operand)
    × (vec_items l.out ++ unsent_lines l.delivery ≡ vec_items l.initial.out ++ lines_from (sources l.initial.delivery) 0 (reach l.initial.delivery.operand))

abbrev pub decreases-loop-n : goal.decreases-loop-n
decreases-loop-n l = reach l.delivery.operand - l.delivery.sent
