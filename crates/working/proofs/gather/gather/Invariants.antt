-- The front of the records holds the kept ways so far, and those from here on come behind them.
use Rattle.std.proofs.Common.{◌≡◌, ◌≤◌, ◌++◌, length, take, drop}
use Rattle.table.specs.Kept.{kept, kept_after, ways_of}
use Rattle.working.specs.Records.{ways_in}
use Rattle.working.proofs.gather.gather.Given as goal

abbrev pub invariant-loop-i : goal.invariant-loop-i
invariant-loop-i l = (l.n ≤ length l.work) × (ways_in (take l.n l.work) ++ kept_after (ways_of (take l.i l.ways)) (ways_of (drop l.i l.ways)) ≡ kept (ways_of l.ways))
