-- Each line comes off the lines that are unsent.
use Rattle.std.proofs.Common.{◌++◌, vec_items, ap, ◌∙◌}
use Rattle.preprocess.proofs.Sending.{unsent_lines, unsent_lines-next}
use Rattle.preprocess.proofs.answer.send.Goals as goal

pub loop-n-preserved : goal.loop-n-preserved
loop-n-preserved c =
    let e = c.next.new.self in
    let went = c.in-Ok.ensures in (
      went.operand_is ∙ c.loop-n.invariant.0,
      ap (λ t. t ++ unsent_lines e) c.in_ok-extend_from_slice-2.ensures.items ∙ unsent_lines-next _ e _ _ _ (vec_items c.loop-n.out) went ∙ c.loop-n.invariant.1,
    )
