-- The digits of a line, and the bytes that they stand for.
use Rattle.std.specs.Prelude.{ℕ, ◌+◌, ◌*◌, List, [], ◌∷◌}
use Rattle.std.specs.Option.{unwrap_or}
use Rattle.rack.specs.Hex.{digit_of}

-- what a byte is worth as a digit, and 0 where it is none
abbrev pub value_of : ℕ → ℕ
value_of b = unwrap_or (digit_of b) 0

-- two digits, the high one first
abbrev pub byte_of : ℕ → ℕ → ℕ
byte_of high low = value_of high * 16 + value_of low

-- the bytes of a line's digits, two to a byte
abbrev pub decoded : List ℕ → List ℕ
decoded [] = []
decoded (a ∷ []) = []
decoded (a ∷ b ∷ cs) = byte_of a b ∷ decoded cs
