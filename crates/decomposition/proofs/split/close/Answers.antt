-- The four combines, one after another; a refusal ends them.
use Rattle.definitions.specs.declared.operand.Operator.TheVariants.{Join, Meet}
use Rattle.definitions.specs.declared.operand.Operand.TheVariants.{Out}
use Rattle.definitions.specs.declared.operand.Operand.{Operand}
use Rattle.definitions.specs.Combine.{Writing, and_then, combining}
use Rattle.definitions.proofs.Written.{stop}
use Rattle.std.proofs.Common.{ℕ}
use Rattle.rack.specs.declared.part.Part.{Part}
use Rattle.decomposition.proofs.Decomposed.{next}
use Rattle.decomposition.proofs.split.close.Goals as goal

-- what is left to write behind the first three
abbrev fourth : Operand → ℕ → Operand → Writing
fourth c limit j = combining limit Join j c

abbrev third : Operand → Operand → ℕ → Operand → Writing
third c m limit n = and_then (combining limit Join m n) (fourth c limit)

abbrev second : Part → Operand → Operand → ℕ → Operand → Writing
second v b c limit m = and_then (combining limit Meet (Out v) b) (third c m limit)

pub returns-in_err-fails : goal.returns-in_err-fails
returns-in_err-fails c =
    next (second c.args.part c.args.out c.args.rest) c.in_ok-works.ensures
    (stop _ (third c.args.rest c.in_ok-works.works _) c.from_residual-in_err-fails.ensures.0 c.in_err-fails.ensures)

pub returns-in_err-either : goal.returns-in_err-either
returns-in_err-either c =
    next (second c.args.part c.args.out c.args.rest) c.in_ok-works.ensures
    (next (third c.args.rest c.in_ok-works.works) c.in_ok-fails.ensures
    (stop _ (fourth c.args.rest _) c.from_residual-in_err-either.ensures.0 c.in_err-either.ensures))

pub returns : goal.returns
returns c =
    next (second c.args.part c.args.out c.args.rest) c.in_ok-works.ensures
    (next (third c.args.rest c.in_ok-works.works) c.in_ok-fails.ensures
    (next (fourth c.args.rest) c.in_ok-either.ensures c.combine-4.ensures))
