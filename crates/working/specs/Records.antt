-- What a working record holds: a way, by the literals that are left of it.
use Rattle.std.specs.Prelude.{ℕ, ◌+◌, Bool, true, false, not, ◌||◌, List, [], ◌∷◌, map, length, Some, None, filter, Option}
use Rattle.rack.specs.declared.part.Literal.{Literal}
use Rattle.rack.specs.Way.{Way}
use Rattle.table.specs.Kept.{same_literal, literals}
pub use Rattle.definitions.specs.Operands.{signed, operand_of}
use Rattle.working.specs.declared.record.WorkingRecord.{WorkingRecord}
use Rattle.working.specs.declared.record.WorkingRecord.TheVariants as record_of

abbrev pub left_in : List (Option Literal) → Way
left_in [] = []
left_in (None ∷ s) = left_in s
left_in (Some l ∷ s) = l ∷ left_in s

-- a branch or a mark of the trie is no way, and is read as an empty one
abbrev pub way_in : WorkingRecord → Way
way_in (record_of.Way left) = left_in left
way_in (record_of.Branch p l) = []
way_in (record_of.End n) = []

abbrev pub ways_in : List WorkingRecord → List Way
ways_in rs = map way_in rs

-- a way without a literal
abbrev pub lacking : Literal → Way → Way
lacking h w = filter (λ l. not (same_literal l h)) w

abbrev pub first_of : Way → Option Literal
first_of [] = None
first_of (l ∷ w) = Some l

abbrev pub is_empty : Way → Bool
is_empty [] = true
is_empty (l ∷ w) = false

abbrev pub has_empty : List Way → Bool
has_empty [] = false
has_empty (w ∷ ws) = is_empty w || has_empty ws

-- ways and literals
abbrev pub size : List Way → ℕ
size ws = length ws + literals ws
