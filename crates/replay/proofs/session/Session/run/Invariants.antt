-- The lines that are left fall.
use Rattle.std.proofs.Common.{length}
use Rattle.replay.proofs.session.Session.run.Given as goal

abbrev pub decreases-loop-line : goal.decreases-loop-line
decreases-loop-line l = length l.self.lines
