-- The values are equal in each state: every digit is 1.
use mathlib.Core.Path.{fun_ext}
use Rattle.algebra.proofs.Bitwise.{bit_all}
use Rattle.algebra.proofs.sampled.SampledStatesBooleanAlgebra.top.Goals as goal

pub returns-clause-value : goal.returns-clause-value
returns-clause-value c = fun_ext λ i. fun_ext λ h. bit_all i h
