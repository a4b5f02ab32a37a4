-- What is spare, and what the ways from here on ask for, differ as at the start.
use Rattle.std.proofs.Common.{◌≡◌, ◌+◌, take, drop}
use Rattle.table.specs.Kept.{kept, kept_after, ways_of}
use Rattle.working.specs.Gather.{needed}
use Rattle.working.proofs.gather.serves.Given as goal

abbrev pub invariant-loop-i : goal.invariant-loop-i
invariant-loop-i l = needed (kept_after (ways_of (take l.i l.ways)) (ways_of (drop l.i l.ways))) + l.records ≡ needed (kept (ways_of l.ways)) + l.spare + 1
