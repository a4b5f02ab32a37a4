-- The calls of a table: what each answers, which record it writes, and what stays.
use Rattle.std.specs.Prelude.{◌≡◌, ℕ, ◌+◌, ◌<◌, List, length, take, drop, IfErr, Ok, Err, Result, MatchResult, slice_set}
use Rattle.rack.specs.declared.refusal.Refusal.{Refusal}
use Rattle.rack.specs.declared.way.WayNumber.{WayNumber}
use Rattle.rack.specs.declared.way.WayRecord.{WayRecord}
use Rattle.rack.specs.Way.{Way, way_of}
use Rattle.text.specs.Frames.{start_at}
use Rattle.table.specs.declared.table.OpenTable.{OpenTable}
use Rattle.table.specs.declared.table.Table.{Table}
use Rattle.table.specs.declared.table.Unread.{Unread}
use Rattle.table.specs.Kept.{ways_of}
use Rattle.table.specs.Reading.{entering, closing, Reading, Reading.closed, Reading.stopped, read_body}

-- an open table stays as it was, over the same records with the same contents
pub record Stays (was after : OpenTable) : Type 0 where
  pub number : after.number ≡ was.number
  pub count : after.entered ≡ was.entered
  pub contents : after.records.now ≡ was.records.now

-- open, where it is accepted and where it is refused: the records are as they were lent
pub record Opened (lent : List WayRecord) (bs : List ℕ) (t : OpenTable) : Type 0 where
  pub line : start_at 1 bs ≡ Ok t.number.0
  pub none : t.entered ≡ 0
  pub contents : t.records.now ≡ lent

pub record Unopened (lent : List WayRecord) (bs : List ℕ) (u : Unread) : Type 0 where
  pub line : start_at 1 bs ≡ Err u.refusal
  pub none : u.entered ≡ 0
  pub contents : u.records.now ≡ lent

-- enter, where it is accepted: the way goes into the next record, and all others are as before
pub record Entered (was after : OpenTable) (bs : List ℕ) (n : WayNumber) : Type 0 where
  pub written : WayRecord
  pub line : entering was.entered (length was.records.now) bs ≡ Ok (way_of written)
  pub room : was.entered < length was.records.now
  pub number_is : n.0 ≡ was.entered + 1
  pub number : after.number ≡ was.number
  pub count : after.entered ≡ was.entered + 1
  pub contents : after.records.now ≡ slice_set was.records.now was.entered written

pub record Unentered (was after : OpenTable) (bs : List ℕ) (e : Refusal) : Type 0 where
  pub line : entering was.entered (length was.records.now) bs ≡ Err e
  pub stays : Stays was after

abbrev pub Entering : OpenTable → OpenTable → List ℕ → Result WayNumber Refusal → Type 0
Entering was after bs r = MatchResult r (Entered was after bs) (Unentered was after bs)

-- close, where it is accepted: the table has the ways entered; a refused close gives the open table back as it was
pub record Closed (was : OpenTable) (bs : List ℕ) (t : Table) : Type 0 where
  pub line : closing was.entered bs ≡ Ok tt
  pub number : t.number ≡ was.number
  pub contents : t.ways.now ≡ take was.entered was.records.now

pub record Unclosed (was : OpenTable) (bs : List ℕ) (p : Refusal × OpenTable) : Type 0 where
  pub line : closing was.entered bs ≡ Err p.0
  pub stays : Stays was p.1

-- what a reading hands back
abbrev pub read_table : Table → Reading
read_table t = closed t.number.0 (ways_of t.ways.now)

abbrev pub unread_table : Unread → Reading
unread_table u = stopped u.refusal (ways_of (take u.entered u.records.now))

abbrev pub reading : Result Table Unread → Reading
reading (Ok t) = read_table t
reading (Err u) = unread_table u

-- the ways entered so far
abbrev pub ways_so_far : OpenTable → List Way
ways_so_far t = ways_of (take t.entered t.records.now)

-- ways were entered behind those that were there, and the records behind them are as before
pub record Filled (was after : OpenTable) : Type 0 where
  pub number : after.number ≡ was.number
  pub long : length after.records.now ≡ length was.records.now
  pub behind : drop after.entered after.records.now ≡ drop after.entered was.records.now

-- what the lines from here on come to
abbrev pub body_from : OpenTable → List (List ℕ) → Reading
body_from t ls = read_body (length t.records.now) t.number.0 (ways_so_far t) ls

-- the lines after the start were entered up to the end, or to a refusal
abbrev pub Filling : OpenTable → List (List ℕ) → OpenTable → Result Unit Refusal → Type 0
Filling was ls after r = MatchResult r (λ _. body_from was ls ≡ closed after.number.0 (ways_so_far after)) (λ e. body_from was ls ≡ stopped e (ways_so_far after))

-- a reading that is refused leaves the records behind the ways entered as they were lent
abbrev pub LeftBehind : List WayRecord → Result Table Unread → Type 0
LeftBehind lent r = IfErr r (λ u. drop u.entered u.records.now ≡ drop u.entered lent)
