-- The ways from here on fit the room that is left, and give what all of them give from the start.
use Rattle.std.proofs.Common.{◌≡◌, ◌≤◌, drop}
use Rattle.working.specs.Records.{ways_in, size}
use Rattle.merging.specs.Marks.{marks, spare}
use Rattle.merging.specs.Trie.{entering_all}
use Rattle.merging.proofs.trie.Trie.fill.Given as goal

abbrev pub invariant-loop-way : goal.invariant-loop-way
invariant-loop-way l = (size (ways_in (drop l.way-index l.ways)) ≤ spare l.self) × (entering_all (ways_in (drop l.way-index l.ways)) (marks l.self) ≡ entering_all (ways_in l.ways) (marks l.fn.self))
