-- Tables: what a line that is due says, and what a whole text comes to: a closed table's number and ways, or the first refusal with the
-- ways entered before it.
use Rattle.std.specs.Prelude.{ℕ, ◌+◌, Bool, true, false, ◌&&◌, if◌then◌else◌, List, [], ◌∷◌, ◌++◌, length, Ok, Err, Result, ◌==◌, nat_lt}
use Rattle.rack.specs.declared.refusal.Refusal.{Refusal}
use Rattle.rack.specs.declared.refusal.Refusal.TheVariants.{NotDue, TableFull, WrongCount}
use Rattle.rack.specs.Way.{Way}
use Rattle.text.specs.Frames.{followed, at, Seen, Seen.start, Seen.way, Seen.end, frame_at, not_due, start_at, end_of, end_at, way_of_frame, way_at}

-- the line that is due: the start is line 1, and each way entered is one more
abbrev pub due_line : ℕ → ℕ
due_line entered = entered + 2

-- 8: a way finds a record, and is one of the first 256
abbrev pub housed : ℕ → ℕ → Way → Result Way Refusal
housed entered room w = (if nat_lt entered room && nat_lt entered 256 then Ok w else Err (TableFull (at (due_line entered) 1)))

-- what enter makes of a line
abbrev pub entering : ℕ → ℕ → List ℕ → Result Way Refusal
entering entered room bs = followed (way_at (due_line entered) bs) (housed entered room)

-- 9: the end's count is that of the ways entered
abbrev pub tallied : ℕ → ℕ → Result Unit Refusal
tallied entered n = (if n == entered then Ok tt else Err (WrongCount (at (due_line entered) 3)))

-- what close makes of a line
abbrev pub closing : ℕ → List ℕ → Result Unit Refusal
closing entered bs = followed (end_at (due_line entered) bs) (tallied entered)

-- what a line may say while a table is open: a way, or the end
pub data Body : Type 0 where
  enters : Way → Body
  ends : Body

abbrev pub entered_by : Result Way Refusal → Result Body Refusal
entered_by (Ok w) = Ok (enters w)
entered_by (Err e) = Err e

abbrev pub ended_by : Result Unit Refusal → Result Body Refusal
ended_by (Ok done) = Ok ends
ended_by (Err e) = Err e

abbrev pub body_of : ℕ → ℕ → Seen → Result Body Refusal
body_of entered room (start p ds) = not_due (due_line entered)
body_of entered room (way p ds) = entered_by (followed (way_of_frame (due_line entered) (way p ds)) (housed entered room))
body_of entered room (end p ds) = ended_by (followed (end_of (due_line entered) (end p ds)) (tallied entered))

-- a line after the start, where `entered` ways are entered of room for `room`: all of 1 to 9, in their order
abbrev pub body_at : ℕ → ℕ → List ℕ → Result Body Refusal
body_at entered room bs = followed (frame_at (due_line entered) bs) (body_of entered room)

-- the lines after the end: the first is refused by 1 to 3, and then by 4
abbrev pub tail_at : ℕ → List (List ℕ) → Result Unit Refusal
tail_at line [] = Ok tt
tail_at line (l ∷ ls) = followed (frame_at line l) (λ _. not_due line)

pub data Reading : Type 0 where
  closed : ℕ → List Way → Reading
  stopped : Refusal → List Way → Reading

abbrev pub by_tail : ℕ → List Way → Result Unit Refusal → Reading
by_tail number ws (Ok done) = closed number ws
by_tail number ws (Err e) = stopped e ws

-- ls are the lines after the end
abbrev pub after_end : ℕ → List Way → List (List ℕ) → Reading
after_end number ws ls = by_tail number ws (tail_at (length ws + 3) ls)

-- the lines after the start, where ws are entered: a way is one more, the end must be the last, and no end is refused by 4
abbrev pub read_body : ℕ → ℕ → List Way → List (List ℕ) → Reading
read_body room number ws [] = stopped (NotDue (at (due_line (length ws)) 1)) ws
read_body room number ws (l ∷ ls) =
    elim (body_at (length ws) room l) [
      | Ok b ↦ elim b [ enters w ↦ read_body room number (ws ++ w ∷ []) ls | ends ↦ after_end number ws ls ]
      | Err e ↦ stopped e ws
    ]

-- a whole text, by its lines: a text with none ends before its start
abbrev pub read_lines : ℕ → List (List ℕ) → Reading
read_lines room [] = stopped (NotDue (at 1 1)) []
read_lines room (l ∷ ls) = elim (start_at 1 l) [ Ok number ↦ read_body room number [] ls | Err e ↦ stopped e [] ]

-- whether a line reads as an end
abbrev pub is_end : Result Seen Refusal → Bool
is_end (Ok (start p ds)) = false
is_end (Ok (way p ds)) = false
is_end (Ok (end p ds)) = true
is_end (Err e) = false
