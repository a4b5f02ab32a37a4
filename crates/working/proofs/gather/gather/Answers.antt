-- The need leaves a place for every kept way, and each goes behind those before it.
use Rattle.std.proofs.Common.{◌≡◌, ◌+◌, ◌<◌, ◌++◌, length, take, refl, ◌∙◌, arith}
use Rattle.table.specs.Kept.{kept, ways_of}
use Rattle.working.specs.Records.{ways_in}
use Rattle.working.proofs.Gathering.{onward, has_place, put, skip, all_put, so_many}
use Rattle.working.proofs.gather.gather.Goals as goal
use Rattle.working.proofs.gather.gather.Goals.{then-is_kept, else-is_kept}

pub bounds-work-n : goal.bounds-work-n
bounds-work-n c =
    has_place c.args.ways.now c.loop-i.i _ c.literals-way.result.now c.loop-i-test.true c.literals-way.ensures.value c.loop-i.work c.loop-i.n _ c.loop-i.invariant.0 c.loop-i.invariant.1 c.if-is_kept.ensures
    (omega (arith, c.if-not-serves.ensures.0 refl, c.loop-i.auto.work))

pub loop-i-preserved : goal.loop-i-preserved
loop-i-preserved c =
    let rs = c.args.ways.now in
    let i = c.loop-i.i in
    elim c.if-is_kept.branch [
      | then-is_kept w ↦
          let place : c.loop-i.n < length c.loop-i.work = has_place rs i _ c.literals-way.result.now c.loop-i-test.true c.literals-way.ensures.value c.loop-i.work c.loop-i.n _ c.loop-i.invariant.0 c.loop-i.invariant.1 w.if-is_kept.ensures (omega (arith, c.if-not-serves.ensures.0 refl, c.loop-i.auto.work)) in (
            omega (arith, w.n-is, c.if-is_kept.auto.work),
            (λ j. ways_in (take (w.n-is j) (w.work-is j)) ++ onward rs (i + 1)) ∙ put rs i _ c.literals-way.result.now c.loop-i-test.true c.literals-way.ensures.value c.loop-i.work c.loop-i.n _ c.loop-i.invariant.0 c.loop-i.invariant.1 w.whole.result place w.whole.ensures w.if-is_kept.ensures,
          )
      | else-is_kept w ↦ (
        omega (arith, w.n-is, c.if-is_kept.auto.work, c.loop-i.invariant.0),
        (λ j. ways_in (take (w.n-is j) (w.work-is j)) ++ onward rs (i + 1)) ∙ skip rs i _ c.literals-way.result.now c.loop-i-test.true c.literals-way.ensures.value c.loop-i.work c.loop-i.n _ c.loop-i.invariant.0 c.loop-i.invariant.1 w.if-is_kept.ensures,
      )
    ]

pub returns : goal.returns
returns c =
    let front : ways_in (take c.loop-i.n c.loop-i.work) ≡ kept (ways_of c.args.ways.now) = all_put c.args.ways.now c.loop-i.i c.loop-i.work c.loop-i.n _ c.loop-i-test.false c.loop-i.invariant.1 in
    record { serves = c.if-not-serves.ensures.0 refl; many = so_many c.loop-i.work c.loop-i.n _ c.loop-i.invariant.0 front; front = front }
