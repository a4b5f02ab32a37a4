-- A sign of 00 or 01 makes a literal of its pair; any other is refused where it stands.
use Rattle.std.proofs.Common.{Err, sym, refl, ap, ◌∙◌, arith}
use Rattle.std.proofs.lemmas.List.{length-set}
use Rattle.rack.specs.declared.refusal.Refusal.TheVariants.{UnknownSign}
use Rattle.text.proofs.Pairs.{at_first, wrong_sign, one_literal, all_literals}
use Rattle.text.proofs.line.Line.signed.Goals as goal

pub loop-k-init : goal.loop-k-init
loop-k-init c = record { long = refl; all = at_first c.args.self.number.0 c.args.body.now c.as_chunks.result.0.now c.as_chunks.ensures.front }

pub returns-in_default : goal.returns-in_default
returns-in_default c =
    ap (λ p. Err (UnknownSign p)) c.at.ensures
    ∙ wrong_sign c.args.self.number.0 c.as_chunks.result.0.now c.loop-k.k _ c.loop-k-test.true _ _ _ (sym c.in_default.is ∙ c.try_from.ensures) c.loop-k.invariant.all

pub loop-k-preserved : goal.loop-k-preserved
loop-k-preserved c = record {
  long = length-set c.loop-k.places c.loop-k.k _ ∙ c.loop-k.invariant.long;
  all = one_literal c.args.self.number.0 c.as_chunks.result.0.now c.loop-k.k _ c.loop-k-test.true _ c.loop-k.places c.in-Ok.sign (omega arith) (sym c.in-Ok.is ∙ c.try_from.ensures) c.loop-k.invariant.all;
}

pub returns : goal.returns
returns c = all_literals c.args.self.number.0 c.as_chunks.result.0.now c.loop-k.k _ c.loop-k.places (omega arith) (omega arith) c.loop-k.invariant.all
