-- The lines that are left fall.
use Rattle.std.proofs.Common.{◌≤◌, length}
use Rattle.replay.proofs.session.Session.deliver.Given as goal

abbrev pub invariant-loop-self : goal.invariant-loop-self
invariant-loop-self l = length l.self.lines ≤ length l.initial.self.lines

abbrev pub decreases-loop-self : goal.decreases-loop-self
decreases-loop-self l = length l.self.lines
