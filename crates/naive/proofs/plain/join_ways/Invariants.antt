-- The ways from here on, with what is joined so far, give what all of them give.
use Rattle.std.proofs.Common.{drop}
use Rattle.definitions.specs.declared.operand.Operand.TheVariants.{Never}
use Rattle.definitions.proofs.Written.{Underway}
use Rattle.working.specs.Records.{ways_in}
use Rattle.naive.specs.Naive.{joining}
use Rattle.naive.proofs.plain.join_ways.Given as goal

abbrev pub invariant-loop-record : goal.invariant-loop-record
invariant-loop-record l = Underway l.initial.draft l.draft (joining l.initial.draft.limit l.sofar (ways_in (drop l.record-index l.list))) (joining l.initial.draft.limit Never (ways_in l.list))
