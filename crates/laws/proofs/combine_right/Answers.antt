-- By the laws of the lattice alone.
use Rattle.laws.proofs.Shown.{combine_right}
use Rattle.laws.proofs.combine_right.Goals as goal

pub returns : goal.returns
returns g c = combine_right g.A.BooleanAlgebra.algebra g.met.A.BooleanAlgebra.lattice
