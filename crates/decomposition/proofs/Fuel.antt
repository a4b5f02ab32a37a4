-- More levels than the size of the list change nothing, so that `decomposing` is given by what the ways begin with.
use Rattle.std.proofs.Common.{◌≡◌, ℕ, zero, suc, ◌<◌, ◌≤◌, List, [], ◌∷◌, ControlFlow, Continue, Break, sym, refl, ap, ◌∙◌, arith}
use Rattle.rack.specs.declared.part.Part.{Part}
use Rattle.rack.specs.Way.{Way}
use Rattle.definitions.specs.declared.operand.Operand.{Operand}
use Rattle.definitions.specs.Combine.{Writing, give, and_then}
use Rattle.working.specs.Records.{size}
use Rattle.decomposition.specs.Decomposition.{working_of, out_of, under, beside, start_of, closing, by_part, by_start, decompose_in, decomposing}
use Rattle.decomposition.proofs.Parted.{working_falls, out_falls, rest_falls}

abbrev three : ℕ → Part → Writing → Writing → Writing → Writing
three limit v x y z = and_then x (λ a. and_then y (λ b. and_then z (λ c. closing limit v a b c)))

-- two ways to write the smaller lists that agree give the same of the whole
same_start : (limit : ℕ) (f g : List Way → Writing) (ws : List Way) → ((us : List Way) → size us < size ws → f us ≡ g us) → (s : ControlFlow Operand Part) → start_of ws ≡ s → by_start limit f ws s ≡ by_start limit g ws s
same_start limit f g ws h (Break x) e = refl
same_start limit f g ws h (Continue v) e =
    let others = beside (working_of v) ws in
    let e1 = h (under (working_of v) ws) (working_falls v ws e) in
    let e2 = h (under (out_of v) others) (out_falls v ws e) in
    let e3 = h (beside (out_of v) others) (rest_falls v ws e) in
    λ i. three limit v (e1 i) (e2 i) (e3 i)

same_fuel : (limit n m : ℕ) (ws : List Way) → size ws ≤ n → size ws ≤ m → decompose_in limit n ws ≡ decompose_in limit m ws
same_fuel limit zero zero ws p q = refl
same_fuel limit zero (suc m) [] p q = refl
same_fuel limit zero (suc m) (w ∷ ws) p q = absurd (omega arith)
same_fuel limit (suc n) zero [] p q = refl
same_fuel limit (suc n) zero (w ∷ ws) p q = absurd (omega arith)
same_fuel limit (suc n) (suc m) ws p q = same_start limit (decompose_in limit n) (decompose_in limit m) ws (λ us l. same_fuel limit n m us (omega arith) (omega arith)) (start_of ws) refl

pub decomposed_by_start : (limit : ℕ) (ws : List Way) → decomposing limit ws ≡ by_start limit (decomposing limit) ws (start_of ws)
decomposed_by_start limit ws =
    same_fuel limit (size ws) (suc (size ws)) ws (omega arith) (omega arith)
    ∙ same_start limit (decompose_in limit (size ws)) (decomposing limit) ws (λ us l. same_fuel limit (size ws) (size us) us (omega arith) (omega arith)) (start_of ws) refl

pub decomposed_by_part : (limit : ℕ) (v : Part) (ws : List Way) → Continue v ≡ start_of ws → decomposing limit ws ≡ by_part limit (decomposing limit) v ws (beside (working_of v) ws)
decomposed_by_part limit v ws e = decomposed_by_start limit ws ∙ ap (by_start limit (decomposing limit) ws) (sym e)

-- ways that are worth a constant at once are written as that
pub decomposed_by_constant : (limit : ℕ) (x : Operand) (ws : List Way) → Break x ≡ start_of ws → decomposing limit ws ≡ give x
decomposed_by_constant limit x ws e = decomposed_by_start limit ws ∙ ap (by_start limit (decomposing limit) ws) (sym e)
