-- The line is refused neither by its length nor by its digits, and all its bytes are decoded.
use Rattle.std.proofs.Common.{ap, ◌∙◌, arith}
use Rattle.text.specs.Digits.{decoded}
use Rattle.text.specs.Frames.{followed, by_kind}
use Rattle.text.proofs.Pairs.{all_decoded}
use Rattle.text.proofs.line.Line.frame.Goals as goal

pub returns-clause-frame : goal.returns-clause-frame
returns-clause-frame c =
    let line = c.args.self.number.0 in
    let bs = c.args.self.bytes.now in
    c.by_kind.ensures.frame
    ∙ ap (by_kind line bs) (all_decoded bs c.decode-n.new.into c.decode-n.result 50 c.decode-n.ensures.many (omega (arith, c.in_ok-check.ensures.long.1)) c.decode-n.ensures.bytes)
    ∙ ap (λ r. followed r (λ _. by_kind line bs (decoded bs))) c.in_ok-check.ensures.refusal
