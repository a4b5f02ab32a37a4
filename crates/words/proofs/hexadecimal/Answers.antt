-- Up to sixteen digits fit.
use Rattle.words.proofs.Numbers.{hexadecimal_is}
use Rattle.words.proofs.hexadecimal.Goals as goal

pub returns : goal.returns
returns c = hexadecimal_is c.args.word.now _ c.if-word-gt16.false c.number.ensures
