-- The trie of the ways stands in the room, and its merging is the rule.
use Rattle.std.proofs.Common.{length, sym, ap, ◌∙◌}
use Rattle.definitions.proofs.Written.{like}
use Rattle.working.specs.Records.{ways_in}
use Rattle.merging.specs.Trie.{merge_at}
use Rattle.merging.proofs.Linked.{linked}
use Rattle.merging.proofs.Depth.{deep_enough}
use Rattle.merging.proofs.trie.ByBeginningWriter.write.Goals as goal

pub returns : goal.returns
returns c =
    let limit = c.args.draft.now.limit in
    let ws = ways_in c.args.ways.now in
    let h = length c.args.room.now in
    like (deep_enough limit h ws c.requires ∙ sym (linked limit h ws) ∙ sym (ap (λ rs. merge_at limit h rs 0) c.fill.ensures)) c.merge.ensures
