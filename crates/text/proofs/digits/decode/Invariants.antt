-- The front holds the bytes so far, and the rest is as it was.
use Rattle.std.proofs.Common.{◌≡◌, length, take, drop}
use Rattle.text.specs.Digits.{decoded}
use Rattle.text.proofs.digits.decode.Given as goal

abbrev pub invariant-loop-i : goal.invariant-loop-i
invariant-loop-i l = record {
  long : length l.into ≡ length l.initial.into;
  front : take l.i l.into ≡ take l.i (decoded l.digits);
  rest : drop l.i l.into ≡ drop l.i l.initial.into;
}
