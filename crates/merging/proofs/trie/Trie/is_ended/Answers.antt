-- The finder finds the end of a node exactly where one is among the marks.
use Rattle.std.proofs.Common.{refl, ◌∙◌}
use Rattle.rack.proofs.Found.{found_any}
use Rattle.merging.specs.Marks.{marks}
use Rattle.merging.specs.Trie.{same_mark, end_at}
use Rattle.merging.proofs.Marks.{decides_mark}
use Rattle.merging.proofs.trie.Trie.is_ended.Goals as goal

pub returns : goal.returns
returns c =
    let end = end_at c.args.node.0 in
    c.is_some.ensures ∙ found_any end (λ q. same_mark q end) (λ q. decides_mark q end refl) (marks c.args.self.now) c.find_first.result (rw c.marks.ensures at c.find_first.ensures)
