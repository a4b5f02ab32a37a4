-- Each case is computed; the sampled states are, all 64, by one test.
use Rattle.std.proofs.Common.{◌≡◌, ℕ, zero, suc, ◌<◌, Bool, true, false, not, ◌&&◌, refl, arith}
use Rattle.definitions.specs.Operands.{numbered}
use Rattle.algebra.specs.Algebra.{Algebra, Complemented}
use Rattle.algebra.specs.Worth.{worth}
use Rattle.algebra.specs.Models.{one_state, bit}
use Rattle.worked.specs.Tables.{merged_script}
use Rattle.worked.specs.Cases.{setting_of, Worked}

abbrev agree : Bool → Bool → Bool
agree true b = b
agree false b = not b

agrees : (a b : Bool) → agree a b ≡ true → a ≡ b
agrees true true h = refl
agrees true false h = grind arith
agrees false true h = grind arith
agrees false false h = refl

abbrev below : ℕ → (ℕ → Bool) → Bool
below zero p = true
below (suc n) p = p 0 && below n (λ i. p (suc i))

both : (s t : Bool) → (s && t) ≡ true → (s ≡ true) × (t ≡ true)
both true t h = (refl, h)
both false t h = grind arith

each : (n : ℕ) (p : ℕ → Bool) → below n p ≡ true → (i : ℕ) → i < n → p i ≡ true
each zero p h i l = absurd (omega arith)
each (suc n) p h zero l = (both (p 0) (below n (λ i. p (suc i))) h).0
each (suc n) p h (suc i) l = each n (λ j. p (suc j)) (both (p 0) (below n (λ j. p (suc j))) h).1 i (omega arith)

-- what the worked table comes to in the state i
abbrev in_state : ℕ → Bool
in_state i = worth one_state (λ part. bit (setting_of part) i) merged_script (numbered 6)

pub worked : (A : Algebra) → Complemented A → Worked A
worked A c =
    record {
      all_come_out = (refl, (refl, (refl, (refl, (refl, (refl, (refl, (refl, (refl, (refl, (refl, (refl, (refl, (refl, (refl, (refl, (refl, (refl, (refl, (refl, (refl, (refl, (refl, (refl, tt))))))))))))))))))))))));
      merged = refl;
      sixth = refl;
      always = λ s. c.join_complement (s 0x20);
      in_states = λ i h. agrees (in_state i) (bit 7 i) (each 64 (λ j. agree (in_state j) (bit 7 j)) refl i h);
    }
