-- The method is right of the kept ways, and these are worth what all ways are.
use Rattle.laws.proofs.Shown.{translation_right}
use Rattle.laws.proofs.translation_right.Goals as goal

pub returns : goal.returns
returns g c = translation_right g.A.BooleanAlgebra.algebra g.met.A.BooleanAlgebra.lattice g.met.A.BooleanAlgebra.complemented
