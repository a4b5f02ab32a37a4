-- The ways so far stand divided.
use Rattle.decomposition.proofs.Divided.{Divides}
use Rattle.decomposition.proofs.split.divide.Given as goal

abbrev pub invariant-loop-i : goal.invariant-loop-i
invariant-loop-i l = Divides l.literal l.initial.list l.list l.room l.held l.left l.i
