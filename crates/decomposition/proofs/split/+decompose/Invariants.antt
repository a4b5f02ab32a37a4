-- Each of the three kinds is smaller than the whole.
use Rattle.working.specs.Records.{ways_in, size}
use Rattle.decomposition.proofs.split.+decompose.Given as goal

abbrev pub decreases-decompose : goal.decreases-decompose
decreases-decompose l = size (ways_in l.list.now)
