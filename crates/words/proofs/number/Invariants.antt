-- What the digits from here on stand for, behind those that were read, is what all of them stand for.
use Rattle.std.proofs.Common.{◌≡◌, ◌≤◌, drop}
use Rattle.words.specs.Words.{number_behind, digit_below, capped}
use Rattle.words.proofs.number.Given as goal

abbrev pub invariant-loop-b : goal.invariant-loop-b
invariant-loop-b l = (capped (number_behind (digit_below l.base) l.base l.n (drop l.b-index l.word)) ≡ capped (number_behind (digit_below l.base) l.base 0 l.word)) × (l.n ≤ 18446744073709551615)
