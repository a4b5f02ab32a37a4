-- The definitions of a script, one of them by its number, and which operands it can read.
use Rattle.std.specs.Prelude.{ℕ, ◌-◌, Bool, true, ◌&&◌, List, length, take, Ok, Err, Result, nat_le, nat_lt, slice_index_or}
use Rattle.rack.specs.declared.refusal.Refusal.{Refusal}
use Rattle.rack.specs.declared.refusal.Refusal.TheVariants.{NoSuchDefinition}
use Rattle.definitions.specs.declared.operand.Operand.{Operand}
use Rattle.definitions.specs.declared.operand.Operand.TheVariants.{Never, Always, Works, Out, Defined}
use Rattle.definitions.specs.declared.operand.Definition.{Definition}
use Rattle.definitions.specs.Combine.{choose}
use Rattle.definitions.specs.Sound.{blank}
use Rattle.script.specs.declared.script.Script.{Script}

-- slots above the count are open
abbrev pub definitions_of : Script → List Definition
definitions_of s = take s.count s.slots

-- of n definitions: a definition operand has a number from 1 to n
abbrev pub known_number : ℕ → ℕ → Bool
known_number n k = nat_lt 0 k && nat_le k n

abbrev pub known : ℕ → Operand → Bool
known n Never = true
known n Always = true
known n (Works p) = true
known n (Out p) = true
known n (Defined k) = known_number n k.0

abbrev pub fetched : List Definition → ℕ → Result Definition Refusal
fetched ds k = choose (known_number (length ds) k) (Ok (slice_index_or ds (k - 1) blank)) (Err NoSuchDefinition)
