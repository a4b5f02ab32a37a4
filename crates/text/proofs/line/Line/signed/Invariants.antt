-- The places so far hold the literals of the pairs so far, and the pairs from here on give the others.
use Rattle.std.proofs.Common.{◌≡◌, length, take, drop}
use Rattle.text.specs.Frames.{literals_from}
use Rattle.text.proofs.Pairs.{behind, literals_of}
use Rattle.text.proofs.line.Line.signed.Given as goal

abbrev pub invariant-loop-k : goal.invariant-loop-k
invariant-loop-k l = record {
  long : length l.places ≡ 24;
  all : behind (take l.k l.places) (literals_of l.self.number.0 l.k (drop l.k l.pairs)) ≡ literals_from l.self.number.0 0 l.body;
}
