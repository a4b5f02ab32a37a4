-- What is left of the way decides.
use Rattle.std.proofs.Common.{◌≡◌, length}
use Rattle.table.specs.Kept.{contradictory}
use Rattle.table.proofs.kept.is_contradictory.Given as goal

abbrev pub invariant-loop-rest : goal.invariant-loop-rest
invariant-loop-rest l = contradictory l.rest ≡ contradictory l.way

abbrev pub decreases-loop-rest : goal.decreases-loop-rest
decreases-loop-rest l = length l.rest
