-- Which ways of a table are kept: those that hold no part both working and out, and equal no earlier way, in the order entered.
-- The ways are any lists of literals, sorted or not.
use Rattle.std.specs.Prelude.{ℕ, ◌+◌, Bool, true, false, cond, not, ◌&&◌, ◌||◌, List, [], ◌∷◌, ◌++◌, map, length, ◌==◌}
use Rattle.rack.specs.declared.part.Literal.{Literal}
use Rattle.rack.specs.declared.way.WayRecord.{WayRecord}
use Rattle.rack.specs.Sign.{sign_code, turned}
use Rattle.rack.specs.Way.{Way, way_of}

-- part and sign agree
abbrev pub same_literal : Literal → Literal → Bool
same_literal l h = l.part.0 == h.part.0 && sign_code l.sign == sign_code h.sign

abbrev pub holds : Literal → Way → Bool
holds h [] = false
holds h (l ∷ w) = same_literal l h || holds h w

-- the same part with the other sign
abbrev pub opposed : Literal → Literal
opposed l = record { part = l.part; sign = turned l.sign }

-- some part both working and out
abbrev pub contradictory : Way → Bool
contradictory [] = false
contradictory (l ∷ w) = holds (opposed l) w || contradictory w

abbrev pub same_way : Way → Way → Bool
same_way [] [] = true
same_way [] (h ∷ v) = false
same_way (l ∷ w) [] = false
same_way (l ∷ w) (h ∷ v) = same_literal l h && same_way w v

abbrev pub among : Way → List Way → Bool
among w [] = false
among w (v ∷ vs) = same_way v w || among w vs

-- whether w is kept, where `earlier` were entered before it
abbrev pub keeps : Way → List Way → Bool
keeps w earlier = not (contradictory w) && not (among w earlier)

-- those of ws that are kept, where `earlier` were entered before them
abbrev pub kept_after : List Way → List Way → List Way
kept_after earlier [] = []
kept_after earlier (w ∷ ws) = cond (keeps w earlier) (w ∷ kept_after (earlier ++ w ∷ []) ws) (kept_after (earlier ++ w ∷ []) ws)

abbrev pub kept : List Way → List Way
kept ws = kept_after [] ws

-- T of a list of ways: their literals added up, way by way
abbrev pub literals : List Way → ℕ
literals [] = 0
literals (w ∷ ws) = length w + literals ws

abbrev pub ways_of : List WayRecord → List Way
ways_of rs = map way_of rs
