-- A place with a literal goes one branch further; a place with none changes nothing.
use Rattle.std.proofs.Common.{◌≡◌, ◌+◌, ◌∷◌, length, drop, ap, ◌∙◌, arith}
use Rattle.std.proofs.lemmas.List.{at_drop_more}
use Rattle.working.specs.Records.{left_in}
use Rattle.merging.proofs.trie.Trie.enter.Goals as goal
use Rattle.merging.proofs.trie.Trie.enter.Goals.{in-Some, in_default}

pub loop-place-preserved : goal.loop-place-preserved
loop-place-preserved c =
    let ps = c.args.left.now in
    let i = c.loop-place.place-index in
    let more = at_drop_more left_in ps i _ c.loop-place-test.true in
    elim c.match-place.branch [
      | in-Some w ↦
          let here : left_in (drop i ps) ≡ w.in-Some.literal ∷ left_in (drop (i + 1) ps) = more ∙ ap (λ o. left_in (o ∷ drop (i + 1) ps)) w.in-Some.is in
          rw (w.self-is, w.node-is) (omega (arith, ap length here, w.reach-node.ensures.room, c.loop-place.invariant.0), rw (w.reach-node.ensures.node, w.reach-node.ensures.marks) (rw here at c.loop-place.invariant.1))
      | in_default w ↦
          let passed : left_in (drop i ps) ≡ left_in (drop (i + 1) ps) = more ∙ ap (λ o. left_in (o ∷ drop (i + 1) ps)) w.in_default.is in
          rw (w.self-is, w.node-is, ← passed) c.loop-place.invariant
    ]
