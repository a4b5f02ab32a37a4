-- A text cut at a byte, and cut into lines at its 0A bytes.
use Rattle.std.specs.Prelude.{ℕ, true, false, List, [], ◌∷◌, ◌==◌}
use Rattle.std.specs.List.{before_first, after_first}

-- the bytes before the first that is m
abbrev pub up_to : ℕ → List ℕ → List ℕ
up_to m bs = before_first (λ b. b == m) bs

-- the bytes behind it
abbrev pub behind : ℕ → List ℕ → List ℕ
behind m bs = after_first (λ b. b == m) bs

-- one more byte at the front of the first line
abbrev pub before : ℕ → List (List ℕ) → List (List ℕ)
before b [] = (b ∷ []) ∷ []
before b (l ∷ ls) = (b ∷ l) ∷ ls

-- a line ends with 0A; bytes after the last 0A are a line too
abbrev pub lines_of : List ℕ → List (List ℕ)
lines_of [] = []
lines_of (b ∷ bs) = elim (b == 10) [ true ↦ [] ∷ lines_of bs | false ↦ before b (lines_of bs) ]
