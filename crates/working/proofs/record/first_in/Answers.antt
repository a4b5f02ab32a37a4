-- An empty place is passed over.
use Rattle.std.proofs.Common.{None, sym, ◌∙◌, arith}
use Rattle.std.proofs.lemmas.List.{at_drop_all}
use Rattle.working.specs.Records.{left_in, first_of}
use Rattle.working.proofs.Places.{first_at, first_later}
use Rattle.working.proofs.record.first_in.Goals as goal

pub returns-in-Some : goal.returns-in-Some
returns-in-Some c =
    sym (first_at c.args.left.now c.loop-place.place-index None (omega arith) c.in-Some.literal c.in-Some.is) ∙ c.loop-place.invariant

pub loop-place-preserved : goal.loop-place-preserved
loop-place-preserved c =
    sym (first_later c.args.left.now c.loop-place.place-index None (omega arith) c.in_default.is) ∙ c.loop-place.invariant

pub returns : goal.returns
returns c =
    sym (at_drop_all (λ s. first_of (left_in s)) c.args.left.now c.loop-place.place-index (omega arith)) ∙ c.loop-place.invariant
