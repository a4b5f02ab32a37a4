-- What is left to enter from here fits the room, and gives what the whole way gives from the root.
use Rattle.std.proofs.Common.{◌≡◌, ◌+◌, ◌≤◌, length, drop}
use Rattle.working.specs.Records.{left_in}
use Rattle.merging.specs.Marks.{marks, spare}
use Rattle.merging.specs.Trie.{entering}
use Rattle.merging.proofs.trie.Trie.enter.Given as goal

abbrev pub invariant-loop-place : goal.invariant-loop-place
invariant-loop-place l = (spare l.fn.self + length (left_in (drop l.place-index l.left)) ≤ spare l.self + length (left_in l.left)) × (entering (left_in (drop l.place-index l.left)) l.node.0 (marks l.self) ≡ entering (left_in l.left) 0 (marks l.fn.self))
