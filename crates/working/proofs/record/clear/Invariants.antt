-- The places so far are cleared, and the others are as they were.
use Rattle.std.proofs.Common.{◌≡◌, ◌++◌, map, take, drop}
use Rattle.working.proofs.Places.{cleared}
use Rattle.working.proofs.record.clear.Given as goal

abbrev pub invariant-loop-place : goal.invariant-loop-place
invariant-loop-place l = l.left ≡ map (cleared l.gone) (take l.place-index l.initial.left) ++ drop l.place-index l.initial.left
