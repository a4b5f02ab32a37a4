-- Decomposition read another way: the ways that hold the part out are taken from all ways, and not only from those that do not hold it
-- working. Both readings write the same where no way is contradictory, and so of kept ways; of a contradictory way they do not.
use Rattle.std.specs.Prelude.{◌≡◌, ℕ, zero, suc, false, List, [], ◌∷◌, length, Some, None, Option}
use Rattle.std.specs.List.{AllByRecursion}
use Rattle.rack.specs.declared.part.Part.{Part}
use Rattle.rack.specs.Way.{Way}
use Rattle.table.specs.Kept.{contradictory, kept}
use Rattle.definitions.specs.declared.operand.Operand.{Operand}
use Rattle.definitions.specs.declared.operand.Operand.TheVariants.{Never, Always}
use Rattle.definitions.specs.Operands.{numbered}
use Rattle.definitions.specs.Combine.{State, Writing, give, and_then, choose}
use Rattle.working.specs.Records.{has_empty, size}
use Rattle.working.specs.Translation.{Rule}
use Rattle.decomposition.specs.Decomposition.{working_of, out_of, under, beside, closing, decomposing}

abbrev pub by_part_from_all : ℕ → (List Way → Writing) → Part → List Way → Writing
by_part_from_all limit sub v ws =
    and_then (sub (under (working_of v) ws)) (λ a. and_then (sub (under (out_of v) ws)) (λ b. and_then (sub (beside (out_of v) (beside (working_of v) ws))) (λ c. closing limit v a b c)))

-- at most so many levels deep
abbrev pub decompose_from_all_in : ℕ → ℕ → List Way → Writing
decompose_from_all_in limit zero ws = give Never
decompose_from_all_in limit (suc n) [] = give Never
decompose_from_all_in limit (suc n) ([] ∷ ws) = give Always
decompose_from_all_in limit (suc n) ((l ∷ w) ∷ ws) = choose (has_empty ws) (give Always) (by_part_from_all limit (decompose_from_all_in limit n) l.part ((l ∷ w) ∷ ws))

abbrev pub decomposing_from_all : Rule
decomposing_from_all limit ws = decompose_from_all_in limit (size ws) ws

-- no part both working and out
abbrev pub Clean : Way → Type 0
Clean w = contradictory w ≡ false

-- the answer, and how many definitions there are
abbrev pub tally : Option State → Option (Operand × ℕ)
tally None = None
tally (Some st) = Some (st.answer, length st.all)

-- one way: part 1 working, part 1 out, part 2 working
abbrev pub clashing : List Way
clashing = (working_of (record { 0 = 1 }) ∷ out_of (record { 0 = 1 }) ∷ working_of (record { 0 = 2 }) ∷ []) ∷ []

pub record ReadingsAgree : Type 0 where
  pub same : (limit : ℕ) (ws : List Way) → AllByRecursion Clean ws → decomposing_from_all limit ws ≡ decomposing limit ws
  pub clean : (ws : List Way) → AllByRecursion Clean (kept ws)
  pub same_kept : (limit : ℕ) (ws : List Way) → decomposing_from_all limit (kept ws) ≡ decomposing limit (kept ws)
  -- three literals: the bound of two definitions does not hold of the other reading
  pub from_all : tally (decomposing_from_all 4096 clashing []) ≡ Some (numbered 5, 5)
  pub from_rest : tally (decomposing 4096 clashing []) ≡ Some (numbered 2, 2)
