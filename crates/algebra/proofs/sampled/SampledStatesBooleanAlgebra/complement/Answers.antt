-- The values are equal digit by digit.
use Rattle.std.proofs.Common.{arith}
use mathlib.Core.Path.{fun_ext}
use Rattle.algebra.proofs.Bitwise.{bit_not}
use Rattle.algebra.proofs.sampled.SampledStatesBooleanAlgebra.complement.Goals as goal

pub returns-clause-value : goal.returns-clause-value
returns-clause-value c = fun_ext λ i. fun_ext λ h. bit_not 64 c.args.self.bits i (omega arith) h
