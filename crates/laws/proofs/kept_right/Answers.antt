-- By the laws of the lattice, and that the meet with the complement is bottom.
use Rattle.laws.proofs.Shown.{kept_right}
use Rattle.laws.proofs.kept_right.Goals as goal

pub returns : goal.returns
returns g c = kept_right g.A.BooleanAlgebra.algebra g.met.A.BooleanAlgebra.lattice g.met.A.BooleanAlgebra.complemented
