-- An empty place is passed over; a literal is met with what there is so far.
use Rattle.std.proofs.Common.{◌+◌, drop, sym}
use Rattle.definitions.specs.declared.operand.Operator.TheVariants.{Meet}
use Rattle.definitions.specs.Combine.{combining}
use Rattle.definitions.proofs.Written.{at_first_limit, begun, goes_on, ends, breaks, renamed, moved}
use Rattle.working.specs.Records.{left_in}
use Rattle.naive.specs.Naive.{meeting}
use Rattle.naive.proofs.Turns.{at_literal, at_none, at_end}
use Rattle.naive.proofs.plain.meet_places.Goals as goal
use Rattle.naive.proofs.plain.meet_places.Goals.{in-Some+in_ok-sofar, in_default}

pub loop-place-init : goal.loop-place-init
loop-place-init c = begun

pub loop-place-preserved : goal.loop-place-preserved
loop-place-preserved c =
    let limit = c.args.draft.now.limit in
    let ps = c.args.left.now in
    let i = c.loop-place.place-index in
    let sofar = c.loop-place.sofar in
    let so = c.loop-place.invariant in
    elim c.match-place.branch [
      | in-Some+in_ok-sofar w ↦
          moved (λ x. meeting limit x (left_in (drop (i + 1) ps))) w.draft-is w.sofar-is
          (goes_on (λ m. meeting limit m (left_in (drop (i + 1) ps))) (renamed (sym (at_literal limit sofar ps i _ w.in-Some.literal w.from.result c.loop-place-test.true w.in-Some.is w.from.ensures)) so) (at_first_limit (λ k. combining k Meet sofar w.from.result) so.grown w.in_ok-sofar.ensures))
      | in_default w ↦ moved (λ x. meeting limit x (left_in (drop (i + 1) ps))) w.draft-is w.sofar-is (renamed (sym (at_none limit sofar ps i _ c.loop-place-test.true w.in_default.is)) so)
    ]

pub returns : goal.returns
returns c = ends c.loop-place.sofar (renamed (sym (at_end c.args.draft.now.limit c.loop-place.sofar c.args.left.now c.loop-place.place-index c.loop-place-test.false)) c.loop-place.invariant)

pub returns-in_err-sofar : goal.returns-in_err-sofar
returns-in_err-sofar c =
    let limit = c.args.draft.now.limit in
    let so = c.loop-place.invariant in
    breaks _ (λ m. meeting limit m (left_in (drop (c.loop-place.place-index + 1) c.args.left.now))) c.from_residual.ensures.0
    (renamed (sym (at_literal limit c.loop-place.sofar c.args.left.now c.loop-place.place-index _ c.in-Some.literal c.from.result c.loop-place-test.true c.in-Some.is c.from.ensures)) so)
    (at_first_limit (λ k. combining k Meet c.loop-place.sofar c.from.result) so.grown c.in_err-sofar.ensures)
