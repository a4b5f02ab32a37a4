-- The places so far hold the literals so far, and the others none.
use Rattle.std.proofs.Common.{◌≡◌, [], length, take, drop}
use Rattle.working.specs.Records.{left_in}
use Rattle.working.proofs.gather.whole.Given as goal

abbrev pub invariant-loop-i : goal.invariant-loop-i
invariant-loop-i l = (length l.left ≡ 24) × (left_in (take l.i l.left) ≡ take l.i l.way) × (left_in (drop l.i l.left) ≡ [])
