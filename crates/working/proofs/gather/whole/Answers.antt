-- A literal goes into the place of its own number.
use Rattle.std.proofs.Common.{◌∙◌, arith}
use Rattle.std.proofs.lemmas.List.{length-set}
use Rattle.working.proofs.Gathering.{filled, open_behind, filled_all}
use Rattle.working.proofs.gather.whole.Goals as goal

pub loop-i-preserved : goal.loop-i-preserved
loop-i-preserved c = (
  length-set c.loop-i.left c.loop-i.i _ ∙ c.loop-i.invariant.0,
  filled c.loop-i.left c.args.way.now c.loop-i.i _ c.loop-i-test.true (omega (arith, c.loop-i.invariant.0, c.requires)) c.loop-i.invariant.1,
  open_behind c.loop-i.left c.args.way.now c.loop-i.i _ c.loop-i-test.true (omega (arith, c.loop-i.invariant.0, c.requires)) c.loop-i.invariant.2,
)

pub returns : goal.returns
returns c = filled_all c.loop-i.left c.args.way.now c.loop-i.i c.loop-i-test.false c.loop-i.invariant.1 c.loop-i.invariant.2
