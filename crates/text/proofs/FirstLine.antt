-- The first line of a text is what stands before its first 0A, and the other lines are those of what follows it.
use Rattle.std.proofs.Common.{◌≡◌, ℕ, ◌<◌, List, [], ◌∷◌, length, arith}
use Rattle.std.proofs.lemmas.Grind.{common_steps}
use Rattle.text.specs.Lines.{up_to, behind, lines_of}

lines_of-cons : (b : ℕ) (bs : List ℕ) → lines_of (b ∷ bs) ≡ up_to 10 (b ∷ bs) ∷ lines_of (behind 10 (b ∷ bs))
lines_of-cons b [] = grind (arith, common_steps)
lines_of-cons b (c ∷ bs) = let rest = lines_of-cons c bs in grind (arith, common_steps)

pub first_line : (bs first others : List ℕ) → 0 < length bs → first ≡ up_to 10 bs → others ≡ behind 10 bs → lines_of bs ≡ first ∷ lines_of others
first_line [] first others some e f = absurd (omega arith)
first_line (b ∷ bs) first others some e f = rw (e, f) (lines_of-cons b bs)
