-- Four digits fit a definition's number.
use Rattle.std.proofs.Common.{◌≡◌, length, take, drop, arith}
use Rattle.std.proofs.lemmas.List.{length-take, length-drop}
use Rattle.words.proofs.Numbers.{four_fit}
use Rattle.words.proofs.operand.Goals as goal

pub overflow_cast-number : goal.overflow_cast-number
overflow_cast-number c =
    let w = take 4 (drop 2 c.args.word.now) in
    let long : length w ≡ 4 = omega (arith, length-take 4 (drop 2 c.args.word.now), length-drop 2 c.args.word.now, c.if-word-ne6.false) in
    omega (arith, four_fit w _ long c.in_ok-number.ensures)
