-- The operand is known, and its definitions are worked out.
use Rattle.std.proofs.Common.{◌≡◌, List, map, take, sym, ap, ◌∙◌, subst, arith}
use Rattle.definitions.specs.declared.operand.Definition.{Definition}
use Rattle.definitions.specs.Operands.{reach}
use Rattle.algebra.specs.Worth.{operand_worth}
use Rattle.evaluate.specs.Evaluation.{settings_of, WorkedOut}
use Rattle.evaluate.proofs.Accepted.{accepted}
use Rattle.evaluate.proofs.evaluation.evaluate.Goals as goal

pub returns : goal.returns
returns g c =
    let m = g.A.BooleanAlgebra in
    let x = c.args.operand in
    let settings = c.args.settings.now in
    let was = c.args.elements.now in
    let after = c.work_out-operations.new.elements in
    let n = c.work_out-operations.result in
    let all = c.definitions.ensures in
    let needed : c.from-needed.result ≡ reach x = c.from-needed.ensures ∙ c.reach.ensures in
    accepted m.algebra m.value _ x settings was after n c.operand_element-answer.result (sym c.knows.ensures ∙ c.if-not-knows.false) (omega arith) (omega arith)
    (subst (λ (ds : List Definition). WorkedOut m.algebra m.value ds settings was after n) (λ i. take (needed i) (all i)) c.work_out-operations.ensures)
    (c.operand_element-answer.ensures ∙ ap (λ k. operand_worth m.algebra (settings_of m.algebra (map m.value settings)) (map m.value (take k after)) x) needed)
