-- A turn works one definition out, by those before it; after the last there are no more to go on with.
use Rattle.std.proofs.Common.{◌≡◌, ◌+◌, length, map, take, drop, sym, ap, ◌∙◌, arith}
use Rattle.std.proofs.lemmas.List.{at_drop_all}
use Rattle.algebra.specs.Worth.{values_after}
use Rattle.evaluate.specs.Evaluation.{settings_of}
use Rattle.evaluate.proofs.Runs.{values_more, later_more}
use Rattle.evaluate.proofs.evaluation.work_out.Goals as goal

pub loop-i-preserved : goal.loop-i-preserved
loop-i-preserved g c =
    let m = g.A.BooleanAlgebra in
    let i = c.loop-i.i in
    let was = c.loop-i.elements in
    let new = c.definition_element.result in
    record {
      counted = ap (λ n. n + 1) c.loop-i.invariant.counted;
      onward = values_more m.algebra m.value _ was c.args.definitions.now i new (omega arith) (omega arith) c.definition_element.ensures ∙ c.loop-i.invariant.onward;
      later = later_more i was c.args.elements.now new c.loop-i.invariant.later;
    }

pub returns : goal.returns
returns g c =
    let m = g.A.BooleanAlgebra in
    let s = settings_of m.algebra (map m.value c.args.settings.now) in
    let i = c.loop-i.i in
    let after = c.loop-i.elements in
    let ds = c.args.definitions.now in
    let end : length ds ≡ i = omega arith in
    record {
      operations = c.loop-i.invariant.counted ∙ sym end;
      worked = ap (λ n. map m.value (take n after)) end ∙ sym (at_drop_all (values_after m.algebra s (map m.value (take i after))) ds i (omega arith)) ∙ c.loop-i.invariant.onward;
      later = ap (λ n. drop n after) end ∙ c.loop-i.invariant.later ∙ ap (λ n. drop n c.args.elements.now) (sym end);
    }
