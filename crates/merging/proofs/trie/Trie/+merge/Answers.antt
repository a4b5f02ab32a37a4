-- The marks one at a time: what a call wrote comes off what is left to write.
use Rattle.std.proofs.Common.{◌+◌, ◌-◌, drop, refl}
use Rattle.definitions.specs.declared.operand.Operand.{Operand}
use Rattle.definitions.specs.Combine.{Writing}
use Rattle.definitions.proofs.Written.{moved}
use Rattle.merging.specs.Marks.{marks}
use Rattle.merging.specs.Trie.{join_at, merge_at}
use Rattle.merging.proofs.Turns.{passes, joins, below_breaks, met_breaks, join_breaks}
use Rattle.merging.proofs.trie.Trie.+merge.Goals as goal
use Rattle.merging.proofs.trie.Trie.+merge.Goals.{in-Some+in_ok-below+in_ok-met+in_ok-sofar, in_default}

pub returns-in_err-below : goal.returns-in_err-below
returns-in_err-below t c =
    let at = c.loop-place in
    below_breaks (c.args.height - 1) c.args.node.0 _ at.place at.sofar at.invariant c.marks-mark-items.ensures c.loop-place-test.true _ c.in-Some.ensures refl
    _ c.from_residual.ensures.0 c.in_err-below.ensures

pub returns-in_err-met : goal.returns-in_err-met
returns-in_err-met t c =
    let at = c.loop-place in
    met_breaks (c.args.height - 1) c.args.node.0 _ at.place at.sofar at.invariant c.marks-mark-items.ensures c.loop-place-test.true _ c.in-Some.ensures c.from.ensures
    c.in_ok-below.ensures _ c.from_residual-in_err-met.ensures.0 c.in_err-met.ensures

pub returns-in_err-sofar : goal.returns-in_err-sofar
returns-in_err-sofar t c =
    let at = c.loop-place in
    join_breaks (c.args.height - 1) c.args.node.0 _ at.place at.sofar at.invariant c.marks-mark-items.ensures c.loop-place-test.true _ c.in-Some.ensures c.from.ensures
    c.in_ok-below.ensures c.in_ok-met.ensures _ c.from_residual-in_err-sofar.ensures.0 c.in_err-sofar.ensures

pub loop-place-preserved : goal.loop-place-preserved
loop-place-preserved t c =
    let h = c.args.height - 1 in
    let node = c.args.node.0 in
    let at = c.loop-place in
    let limit = c.args.draft.now.limit in
    let rs = marks c.args.self.now in
    let rest : Operand → Writing = λ j. join_at limit (merge_at limit h rs) node (at.place + 1) j (drop (at.place + 1) rs) in
    elim c.match-branch_of.branch [
      | in-Some+in_ok-below+in_ok-met+in_ok-sofar w ↦
          moved rest w.draft-is w.sofar-is
          (joins h node _ at.place at.sofar at.invariant c.marks-mark-items.ensures c.loop-place-test.true _ w.in-Some.ensures w.from.ensures w.in_ok-below.ensures w.in_ok-met.ensures w.in_ok-sofar.ensures)
      | in_default w ↦
          moved rest w.draft-is w.sofar-is (passes h node _ at.place at.sofar at.invariant c.marks-mark-items.ensures c.loop-place-test.true _ w.in_default.ensures)
    ]
