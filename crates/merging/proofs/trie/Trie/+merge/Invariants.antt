-- The depth falls with each call, and the records from here on give what the node gives.
use Rattle.std.proofs.Common.{◌-◌, drop}
use Rattle.definitions.proofs.Written.{Underway}
use Rattle.merging.specs.Marks.{marks}
use Rattle.merging.specs.Trie.{join_at, merge_at}
use Rattle.merging.proofs.trie.Trie.+merge.Given as goal

abbrev pub decreases-merge : goal.decreases-merge
decreases-merge l = l.height

abbrev pub invariant-loop-place : goal.invariant-loop-place
invariant-loop-place l =
    let rs = marks l.self in
    let limit = l.fn.draft.limit in
    Underway l.initial.draft l.draft (join_at limit (merge_at limit (l.height - 1) rs) l.node.0 l.place l.sofar (drop l.place rs)) (merge_at limit l.height rs l.node.0)
