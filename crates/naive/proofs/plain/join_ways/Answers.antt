-- A way is met first, and then joined with what there is so far.
use Rattle.std.proofs.Common.{sym}
use Rattle.definitions.proofs.Written.{begun, ends, renamed}
use Rattle.naive.proofs.Turns.{past_ways, met, not_met, joined, not_joined}
use Rattle.naive.proofs.plain.join_ways.Goals as goal

pub loop-record-init : goal.loop-record-init
loop-record-init c = begun

pub loop-record-preserved : goal.loop-record-preserved
loop-record-preserved c =
    let rs = c.args.list.now in
    let i = c.loop-record.record-index in
    joined c.loop-record.sofar rs i c.in_ok-met.met (met c.loop-record.sofar rs i c.loop-record.invariant c.loop-record-test.true c.places.ensures c.in_ok-met.ensures) c.in_ok-sofar.ensures

pub returns : goal.returns
returns c = ends c.loop-record.sofar (renamed (sym (past_ways c.args.draft.now.limit c.loop-record.sofar c.args.list.now c.loop-record.record-index c.loop-record-test.false)) c.loop-record.invariant)

pub returns-in_err-met : goal.returns-in_err-met
returns-in_err-met c = not_met c.loop-record.sofar c.args.list.now c.loop-record.record-index c.loop-record.invariant c.loop-record-test.true c.places.ensures _ c.from_residual.ensures.0 c.in_err-met.ensures

pub returns-in_err-sofar : goal.returns-in_err-sofar
returns-in_err-sofar c =
    let rs = c.args.list.now in
    let i = c.loop-record.record-index in
    not_joined c.loop-record.sofar rs i c.in_ok-met.met (met c.loop-record.sofar rs i c.loop-record.invariant c.loop-record-test.true c.places.ensures c.in_ok-met.ensures) _ c.from_residual-in_err-sofar.ensures.0 c.in_err-sofar.ensures
