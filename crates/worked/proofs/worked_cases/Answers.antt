-- By computing, and the law that the join with the complement is top.
use Rattle.worked.proofs.Computed.{worked}
use Rattle.worked.proofs.worked_cases.Goals as goal

pub returns : goal.returns
returns g c = worked g.A.BooleanAlgebra.algebra g.met.A.BooleanAlgebra.complemented
