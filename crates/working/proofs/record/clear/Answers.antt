-- The places so far are cleared, and the others are as they were.
use Rattle.std.proofs.Common.{◌≡◌, get_or, None, sym, ◌∙◌, rules}
use Rattle.working.proofs.Places.{is_at, is_at_where, clears, spares_place, cleared_all}
use Rattle.working.proofs.record.clear.Goals as goal
use Rattle.working.proofs.record.clear.Goals.{then-eq, else-eq}

pub loop-place-preserved : goal.loop-place-preserved
loop-place-preserved c =
    let m = c.args.gone in
    let i = c.loop-place.place-index in
    let at : c.eq.result ≡ is_at m (get_or c.loop-place.left i None) = c.eq.ensures ∙ is_at_where m _ (λ l. search rules) _ in
    elim c.if-eq.branch [
      | then-eq w ↦ clears m c.args.left.now c.loop-place.left c.if-eq.left i None c.loop-place-test.true c.loop-place.invariant (sym at ∙ w.if-eq.true) w.left-is
      | else-eq w ↦ spares_place m c.args.left.now c.loop-place.left c.if-eq.left i None c.loop-place-test.true c.loop-place.invariant (sym at ∙ w.if-eq.false) w.left-is
    ]

pub returns : goal.returns
returns c = cleared_all c.args.gone c.args.left.now c.loop-place.left c.loop-place.place-index c.loop-place-test.false c.loop-place.invariant
