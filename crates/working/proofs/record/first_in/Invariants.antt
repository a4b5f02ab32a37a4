-- What is left of the places gives the first literal.
use Rattle.std.proofs.Common.{◌≡◌, drop}
use Rattle.working.specs.Records.{left_in, first_of}
use Rattle.working.proofs.record.first_in.Given as goal

abbrev pub invariant-loop-place : goal.invariant-loop-place
invariant-loop-place l = first_of (left_in (drop l.place-index l.left)) ≡ first_of (left_in l.left)
