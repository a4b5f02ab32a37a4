-- A definition within the count is read from its slot.
use Rattle.std.proofs.Common.{◌≡◌, ℕ, ◌-◌, ◌<◌, ◌≤◌, ltb, leb, List, length, get_or, take, Ok, Err, sym, ap, ◌∙◌, arith}
use Rattle.std.proofs.lemmas.List.{length-take-le, get_or-take}
use Rattle.std.proofs.lemmas.Bool.{lt-ltb, le-leb, and_from}
use Rattle.rack.specs.declared.refusal.Refusal.TheVariants.{NoSuchDefinition}
use Rattle.definitions.specs.declared.operand.Definition.{Definition}
use Rattle.definitions.specs.Combine.{choose}
use Rattle.definitions.specs.Sound.{blank}
use Rattle.script.specs.Script.{fetched}

pub fetches : (slots : List Definition) (count k : ℕ) → count ≤ length slots → 0 < k → k ≤ count → Ok (get_or slots (k - 1) blank) ≡ fetched (take count slots) k
fetches slots count k room some few =
    let long : length (take count slots) ≡ count = length-take-le count slots room in
    let inside : k - 1 < count = omega arith in
    sym (ap (λ t. choose t (Ok (get_or (take count slots) (k - 1) blank)) (Err NoSuchDefinition)) (and_from (ltb 0 k) (leb k (length (take count slots))) (lt-ltb 0 k some) (le-leb k (length (take count slots)) (omega arith)))
    ∙ ap (λ (d : Definition). Ok d) (get_or-take count slots (k - 1) blank inside))
