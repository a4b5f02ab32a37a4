-- The places from here on, with what is met so far, give what the whole way gives.
use Rattle.std.proofs.Common.{drop}
use Rattle.definitions.specs.declared.operand.Operand.TheVariants.{Always}
use Rattle.definitions.proofs.Written.{Underway}
use Rattle.working.specs.Records.{left_in}
use Rattle.naive.specs.Naive.{meeting}
use Rattle.naive.proofs.plain.meet_places.Given as goal

abbrev pub invariant-loop-place : goal.invariant-loop-place
invariant-loop-place l = Underway l.initial.draft l.draft (meeting l.initial.draft.limit l.sofar (left_in (drop l.place-index l.left))) (meeting l.initial.draft.limit Always (left_in l.left))
