-- The values of the delivered algebras: one state, 64 sampled states by their bits, and any algebra read upside down.
use Rattle.std.specs.Prelude.{ℕ, ◌/◌, ◌%◌, ◌^◌, ◌<◌, Bool, true, false, not, ◌&&◌, ◌||◌, ◌==◌}
use Rattle.algebra.specs.Algebra.{Algebra}

abbrev pub one_state : Algebra
one_state = record { Value = Bool; meet = ◌&&◌; join = ◌||◌; bottom = false; top = true; complement = not }

-- in which of the 64 states something holds
abbrev pub sampled : Algebra
sampled =
    record {
      Value = (i : ℕ) → i < 64 → Bool;
      meet = λ p q i h. p i h && q i h;
      join = λ p q i h. p i h || q i h;
      bottom = λ i h. false;
      top = λ i h. true;
      complement = λ p i h. not (p i h);
    }

-- the binary digit at place i
abbrev pub bit : ℕ → ℕ → Bool
bit n i = n / 2 ^ i % 2 == 1

abbrev pub samples : ℕ → sampled.Value
samples n i h = bit n i

-- meet and join, and bottom and top, in each other's place
abbrev pub upside_down : Algebra → Algebra
upside_down A = record { Value = A.Value; meet = A.join; join = A.meet; bottom = A.top; top = A.bottom; complement = A.complement }
