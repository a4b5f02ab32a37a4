-- The definitions before the turn are worked out, and what is left goes on from them to all values; later elements stay.
use Rattle.std.proofs.Common.{map}
use Rattle.evaluate.specs.Evaluation.{settings_of}
use Rattle.evaluate.proofs.Runs.{Underway}
use Rattle.evaluate.proofs.evaluation.work_out.Given as goal

abbrev pub invariant-loop-i : goal.invariant-loop-i
invariant-loop-i g l =
    let m = g.A.BooleanAlgebra in
    Underway m.algebra m.value (settings_of m.algebra (map m.value l.settings)) l.definitions l.initial.elements l.elements l.i l.operations
