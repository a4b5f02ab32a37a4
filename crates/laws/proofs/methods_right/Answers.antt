-- By the laws of the lattice alone.
use Rattle.laws.proofs.Shown.{methods_right}
use Rattle.laws.proofs.methods_right.Goals as goal

pub returns : goal.returns
returns g c = methods_right g.A.BooleanAlgebra.algebra g.met.A.BooleanAlgebra.lattice
