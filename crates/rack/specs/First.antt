-- Where a list first holds a value, over any kind of value.
use Rattle.std.specs.Prelude.{◌≡◌, ℕ, ◌<◌, List, length, ◌≢◌, slice_index_or}

-- no place of xs holds x
abbrev pub Nowhere : {X : Type 0} → List X → X → Type 0
Nowhere xs x = (k : ℕ) → k < length xs → slice_index_or xs k x ≢ x

-- place i of xs holds x, and no place before it does
pub record FirstAt {X : Type 0} (xs : List X) (x : X) (i : ℕ) : Type 0 where
  pub inside : i < length xs
  pub here : slice_index_or xs i x ≡ x
  pub before : (k : ℕ) → k < i → slice_index_or xs k x ≢ x
