-- Each digit comes off the digits that are left; once a number is too large it stays so.
use Rattle.std.proofs.Common.{◌+◌, ◌*◌, ◌≡◌, Some, get_or, drop, sym, ap, ◌∙◌, arith}
use Rattle.words.specs.Words.{digit_below, capped}
use Rattle.words.proofs.Numbers.{one_more, capped_alike}
use Rattle.words.proofs.number.Goals as goal

pub loop-b-preserved : goal.loop-b-preserved
loop-b-preserved c =
    let base = c.args.base in
    let n = c.loop-b.n in
    let i = c.loop-b.b-index in
    let d = c.in_ok-d.d in
    let digit = digit_below base in
    let is : Some d ≡ digit (get_or c.args.word.now i 0) = c.in_ok-d.ensures.digit in (
      capped_alike digit base _ (n * base + d) (drop (i + 1) c.args.word.now) c.requires (omega (arith, c.with_digit-n.ensures))
          ∙ sym (ap capped (one_more digit base n c.args.word.now i 0 d c.loop-b-test.true is))
          ∙ c.loop-b.invariant.0,
      omega (arith, c.with_digit-n.ensures),
    )
