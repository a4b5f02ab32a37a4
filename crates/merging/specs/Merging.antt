-- Merging, over lists of ways: an empty way gives always; otherwise the heads are taken in the order of their first appearance, and of
-- each what its rests give is written first, then the meet of its operand with that, then the join with what came before.
use Rattle.std.specs.Prelude.{ℕ, zero, suc, max, Bool, false, ◌||◌, List, [], ◌∷◌, ◌++◌, length}
use Rattle.rack.specs.declared.part.Literal.{Literal}
use Rattle.rack.specs.Way.{Way}
use Rattle.table.specs.Kept.{same_literal}
use Rattle.definitions.specs.declared.operand.Operator.TheVariants.{Meet, Join}
use Rattle.definitions.specs.declared.operand.Operand.{Operand}
use Rattle.definitions.specs.declared.operand.Operand.TheVariants.{Never, Always}
use Rattle.definitions.specs.Combine.{Writing, give, and_then, choose, combining}
use Rattle.working.specs.Records.{has_empty, operand_of}
use Rattle.working.specs.Translation.{Rule}

-- the rests of the lists that begin with h, by a test of sameness
abbrev pub rests_by : {L : Type 0} → (L → L → Bool) → L → List (List L) → List (List L)
rests_by same h [] = []
rests_by same h ([] ∷ ws) = rests_by same h ws
rests_by same h ((g ∷ w) ∷ ws) = choose (same g h) (w ∷ rests_by same h ws) (rests_by same h ws)

-- whether h is one of gs
abbrev pub is_in : {L : Type 0} → (L → L → Bool) → L → List L → Bool
is_in same h [] = false
is_in same h (g ∷ gs) = same g h || is_in same h gs

-- gs, and behind them the heads of ws that are not there yet, each where it first appears
abbrev pub heads_after : {L : Type 0} → (L → L → Bool) → List L → List (List L) → List L
heads_after same gs [] = gs
heads_after same gs ([] ∷ ws) = heads_after same gs ws
heads_after same gs ((h ∷ w) ∷ ws) = choose (is_in same h gs) (heads_after same gs ws) (heads_after same (gs ++ h ∷ []) ws)

-- the rests of the ways that begin with h
abbrev pub rests_of : Literal → List Way → List Way
rests_of h ws = rests_by same_literal h ws

-- the heads of the ways, in the order of first appearance
abbrev pub heads : List Way → List Literal
heads ws = heads_after same_literal [] ws

-- one head after another, each by `sub` of its rests
abbrev pub join_heads : ℕ → (List Way → Writing) → List Way → Operand → List Literal → Writing
join_heads limit sub ws sofar [] = give sofar
join_heads limit sub ws sofar (h ∷ hs) =
    and_then (sub (rests_of h ws)) (λ b. and_then (combining limit Meet (operand_of h) b) (λ m. and_then (combining limit Join sofar m) (λ j. join_heads limit sub ws j hs)))

-- the rule, so many literals deep
abbrev pub merge_in : ℕ → ℕ → List Way → Writing
merge_in limit zero ws = choose (has_empty ws) (give Always) (give Never)
merge_in limit (suc n) ws = choose (has_empty ws) (give Always) (join_heads limit (merge_in limit n) ws Never (heads ws))

-- n, or the length of a way of ws that is longer
abbrev pub longer : ℕ → List Way → ℕ
longer n [] = n
longer n (w ∷ ws) = longer (max n (length w)) ws

-- the length of the longest way
abbrev pub longest : List Way → ℕ
longest ws = longer 0 ws

-- the rule, as deep as the longest way; a greater depth gives the same
abbrev pub merging : Rule
merging limit ws = merge_in limit (longest ws) ws
