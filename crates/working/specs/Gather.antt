-- How many working records a list of kept ways needs, and the kept ways of a table at the front of them.
use Rattle.std.specs.Prelude.{◌≡◌, ℕ, ◌+◌, ◌*◌, ◌<◌, ◌≤◌, List, length, take, Option, MatchOption}
use Rattle.rack.specs.Way.{Way}
use Rattle.table.specs.Kept.{kept, literals}
use Rattle.working.specs.declared.record.WorkingRecord.{WorkingRecord}
use Rattle.working.specs.Records.{ways_in}

-- one, two for each way, and one for each of their literals
abbrev pub needed : List Way → ℕ
needed ws = 1 + 2 * length ws + literals ws

-- the records serve, and the first n of them hold the kept ways
pub record Held (ws : List Way) (was after : List WorkingRecord) (n : ℕ) : Type 0 where
  pub serves : needed (kept ws) ≤ length was
  pub many : n ≡ length (kept ws)
  pub front : ways_in (take n after) ≡ kept ws

-- where the records do not serve, they are as they were
pub record Short (ws : List Way) (was after : List WorkingRecord) : Type 0 where
  pub few : length was < needed (kept ws)
  pub same : after ≡ was

abbrev pub Gathered : List Way → List WorkingRecord → List WorkingRecord → Option ℕ → Type 0
Gathered ws was after r = MatchOption r (Short ws was after) (Held ws was after)
