-- The lines of a delivery, as bytes, each with its 0A.
use Rattle.std.specs.Prelude.{ℕ, List, [], ◌∷◌, ◌++◌, length, drop}
use Rattle.rack.specs.Hex.{hex_byte, hex_word}
use Rattle.definitions.specs.declared.operand.Operand.{Operand}
use Rattle.definitions.specs.declared.operand.Definition.{Definition}
use Rattle.definitions.specs.Operands.{kind, number, code}

-- two digits of kind and four of number
abbrev pub operand_digits : Operand → List ℕ
operand_digits x = hex_byte (kind x) ++ hex_word (number x)

-- `40` and the number of definitions
abbrev pub start_line : ℕ → List ℕ
start_line m = 52 ∷ 48 ∷ hex_word m ++ 10 ∷ []

-- `50`, the operator and the two operands
abbrev pub definition_line : Definition → List ℕ
definition_line d = 53 ∷ 48 ∷ hex_byte (code d.operator) ++ (operand_digits d.first ++ (operand_digits d.second ++ 10 ∷ []))

-- `60` and the operand
abbrev pub end_line : Operand → List ℕ
end_line x = 54 ∷ 48 ∷ operand_digits x ++ 10 ∷ []

-- a line at the front of a buffer, whose later bytes stay
abbrev pub over : List ℕ → List ℕ → List ℕ
over line buffer = line ++ drop (length line) buffer
