-- What a table's text is answered with, as bytes: the lines of the whole delivery of its translation into a new script, one behind the
-- other, or the line that tells the first refusal.
use Rattle.std.specs.Prelude.{◌≡◌, ℕ, zero, suc, ◌%◌, List, [], ◌∷◌, ◌++◌, Some, None, Option, Result, OnOk}
use Rattle.rack.specs.declared.refusal.Position.{Position}
use Rattle.rack.specs.declared.refusal.Refusal.{Refusal}
use Rattle.rack.specs.Hex.{hex_byte, hex_word}
use Rattle.rack.specs.Refusals.{number_of, position_of}
use Rattle.table.specs.Reading.{Reading, Reading.closed, Reading.stopped}
use Rattle.definitions.specs.declared.operand.Operand.{Operand}
use Rattle.definitions.specs.declared.operand.Definition.{Definition}
use Rattle.definitions.specs.Operands.{reach}
use Rattle.definitions.specs.Combine.{counted}
use Rattle.working.specs.Translation.{Outcome, Outcome.written, Outcome.refused, outcome}
use Rattle.methods.specs.declared.translate.Method.{Method}
use Rattle.methods.specs.Methods.{rule_of}
use Rattle.delivery.specs.Lines.{start_line, end_line}
use Rattle.delivery.specs.Calls.{next_line}

-- four digits of line and two of column
abbrev pub place_digits : Option Position → List ℕ
place_digits None = hex_word 0 ++ hex_byte 0
place_digits (Some at) = hex_word (at.line.0 % 65536) ++ hex_byte (at.column.0 % 256)

-- `7F`, the number and the place
abbrev pub refusal_line : Refusal → List ℕ
refusal_line e = 55 ∷ 70 ∷ hex_byte (number_of e) ++ (place_digits (position_of e) ++ 10 ∷ [])

-- the lines of n definitions, from place i on
abbrev pub lines_from : List Definition → ℕ → ℕ → List ℕ
lines_from ds i zero = []
lines_from ds i (suc n) = next_line ds i ++ lines_from ds (suc i) n

-- the definitions that the operand needs, and the end
abbrev pub behind_start : List Definition → Operand → List ℕ
behind_start ds x = lines_from ds 0 (reach x) ++ end_line x

abbrev pub delivery_of : List Definition → Operand → List ℕ
delivery_of ds x = start_line (reach x) ++ behind_start ds x

abbrev pub told : Outcome → List ℕ
told (written x added all) = delivery_of all x
told (refused e) = refusal_line e

-- so many working records are lent, and the new script has the limit
abbrev pub answer_to : Method → ℕ → ℕ → Reading → List ℕ
answer_to m limit records (closed number ws) = told (outcome (rule_of m) (counted limit) ws records [])
answer_to m limit records (stopped e ws) = refusal_line e

-- bytes stand behind what was there, unless memory is wanting
abbrev pub Adds : {X Y : Type 0} → Result X Y → List ℕ → List ℕ → List ℕ → Type 0
Adds r was after bytes = OnOk r (after ≡ was ++ bytes)
