-- The values are equal digit by digit.
use mathlib.Core.Path.{fun_ext}
use Rattle.algebra.proofs.Bitwise.{bit_of_or}
use Rattle.algebra.proofs.sampled.SampledStatesBooleanAlgebra.join.Goals as goal

pub returns-clause-value : goal.returns-clause-value
returns-clause-value c = fun_ext λ i. fun_ext λ h. bit_of_or c.args.self.bits c.args.other.bits i
