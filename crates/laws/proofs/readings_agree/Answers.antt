-- No kept way is contradictory, and of such ways both readings write the same.
use Rattle.laws.proofs.Readings.{readings_agree}
use Rattle.laws.proofs.readings_agree.Goals as goal

pub returns : goal.returns
returns c = readings_agree
