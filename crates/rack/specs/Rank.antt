-- The part order: the rank of a part, and the weight by which the literals of a way are ordered.
-- A weight takes the ranks as a parameter: it rests on no more of them than that no two parts share one.
use Rattle.std.specs.Prelude.{◌≡◌, ℕ, ◌+◌, ◌*◌, ◌/◌, ◌%◌, ◌<◌}
use Rattle.rack.specs.declared.part.Literal.{Literal}
use Rattle.rack.specs.Sign.{sign_code}

-- a part's two digits exchanged
abbrev pub rank_of : ℕ → ℕ
rank_of part = part % 16 * 16 + part / 16

-- no two of the 256 parts share a rank
abbrev pub Apart : (ℕ → ℕ) → Type 0
Apart rank = (p q : ℕ) → p < 256 → q < 256 → rank p ≡ rank q → p ≡ q

abbrev pub weight_of : (ℕ → ℕ) → Literal → ℕ
weight_of rank l = 2 * rank l.part.0 + sign_code l.sign
