-- Each kept way takes two records and one for each of its literals, and the first record is taken at the start.
use Rattle.std.proofs.Common.{refl, arith}
use Rattle.std.proofs.lemmas.Bool.{false≢true}
use Rattle.working.proofs.Gathering.{spent, passed, lacks, none_left}
use Rattle.working.proofs.gather.serves.Goals as goal
use Rattle.working.proofs.gather.serves.Goals.{then-is_kept+else-spare-needed, else-is_kept}

pub returns-then-spare-needed : goal.returns-then-spare-needed
returns-then-spare-needed c = (
  λ e. absurd (false≢true e),
  λ h. absurd (lacks c.args.ways.now c.loop-i.i _ c.literals-way.result.now c.loop-i-test.true c.literals-way.ensures.value _ c.args.records c.loop-i.spare c.if-is_kept.ensures c.loop-i.invariant c.if-spare-needed.true h),
)

pub loop-i-preserved : goal.loop-i-preserved
loop-i-preserved c =
    elim c.if-is_kept.branch [
      | then-is_kept+else-spare-needed w ↦ spent c.args.ways.now c.loop-i.i _ c.literals-way.result.now c.loop-i-test.true c.literals-way.ensures.value _ c.args.records c.loop-i.spare c.if-is_kept.spare w.if-is_kept.ensures c.loop-i.invariant (omega (arith, w.spare-is, w.if-spare-needed.false))
      | else-is_kept w ↦ passed c.args.ways.now c.loop-i.i _ c.literals-way.result.now c.loop-i-test.true c.literals-way.ensures.value _ c.args.records c.loop-i.spare c.if-is_kept.spare w.if-is_kept.ensures c.loop-i.invariant w.spare-is
    ]

pub returns : goal.returns
returns c = (λ e. omega (arith, c.loop-i.invariant, none_left c.args.ways.now c.loop-i.i c.loop-i-test.false), λ h. refl)
