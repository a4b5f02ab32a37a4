-- A definition that is found is there, and one that is not found can be written behind the others: they stay sound.
use Rattle.std.proofs.Common.{◌≡◌, ℕ, zero, suc, ◌+◌, ◌<◌, ◌≤◌, Bool, true, false, ◌⊎◌, List, [], ◌∷◌, ◌++◌, length, get_or, Some, None, Option, sym, refl, subst, inl, inr, arith}
use Rattle.std.proofs.lemmas.List.{length_push, get_or_append_left, get_or_at}
use Rattle.std.proofs.lemmas.Bool.{cases_lt}
use Rattle.std.proofs.lemmas.Bool.Decides.{not_from_Decides}
use Rattle.definitions.specs.declared.operand.Definition.{Definition}
use Rattle.definitions.specs.Operands.{alike}
use Rattle.definitions.specs.Combine.{choose, later, place_in}
use Rattle.definitions.specs.Sound.{Legal, Constant, blank, Sound}
use Rattle.definitions.proofs.Alike.{decides_definition}

-- what the place of a definition says
abbrev pub Finds : Definition → List Definition → Option ℕ → Type 0
Finds d ds (Some i) = (i < length ds) × (get_or ds i blank ≡ d)
Finds d ds None = (i : ℕ) → i < length ds → get_or ds i blank ≡ d → ⊥

finds_later : (d e : Definition) (es : List Definition) → (e ≡ d → ⊥) → (r : Option ℕ) → Finds d es r → Finds d (e ∷ es) (later r)
finds_later d e es ne (Some i) f =
    let at : suc i ≡ i + 1 = omega arith in
    (omega (arith, f.0), subst (λ k. get_or (e ∷ es) k blank ≡ d) at f.1)
finds_later d e es ne None f = go
  where
    go : (i : ℕ) → i < suc (length es) → get_or (e ∷ es) i blank ≡ d → ⊥
    go zero h = ne
    go (suc i) h = f i (omega arith)

pub finds : (d : Definition) (ds : List Definition) → Finds d ds (place_in d ds)
finds d [] = λ i h. absurd (omega arith)
finds d (e ∷ es) = go (finds d es) (alike e d) refl
  where
    go : Finds d es (place_in d es) → (t : Bool) → alike e d ≡ t → Finds d (e ∷ es) (choose t (Some 0) (later (place_in d es)))
    go f true same = (omega arith, (decides_definition e d).0 same)
    go f false same = finds_later d e es (not_from_Decides _ (decides_definition e d) same) (place_in d es) f

module _ (ds : List Definition) (d : Definition) where
  -- what holds at each place of ds, and of d at the next, holds at each place of both
  push_all : (P : ℕ → Definition → Type 0) → ((i : ℕ) → i < length ds → P i (get_or ds i blank)) → P (length ds) d → (i : ℕ) → i < length (ds ++ d ∷ []) → P i (get_or (ds ++ d ∷ []) i blank)
  push_all P old new i h = go (cases_lt i (length ds))
    where
      last : length ds ≡ i → P i (get_or (ds ++ d ∷ []) i blank)
      last e = subst (λ n. P n (get_or (ds ++ d ∷ []) n blank)) e (subst (P (length ds)) (sym (get_or_at ds d [] blank (length ds) refl)) new)

      go : (i < length ds) ⊎ (length ds ≤ i) → P i (get_or (ds ++ d ∷ []) i blank)
      go (inl a) = subst (P i) (sym (get_or_append_left ds (d ∷ []) blank i a)) (old i a)
      go (inr e) = last (omega (arith, length_push ds d))

  pub sound_push : Sound ds → ((i : ℕ) → i < length ds → get_or ds i blank ≡ d → ⊥) → (d.first ≡ d.second → ⊥) → Legal (length ds) d.first → Legal (length ds) d.second → (Constant d.first → ⊥) → (Constant d.second → ⊥) → Sound (ds ++ d ∷ [])
  sound_push S new differ k l m n =
      record {
        apart = λ i j hi hj e.
            push_all (λ p x. (q : ℕ) → q < length (ds ++ d ∷ []) → x ≡ get_or (ds ++ d ∷ []) q blank → p ≡ q)
            (λ p hp. push_all (λ q y. get_or ds p blank ≡ y → p ≡ q) (λ q hq f. S.apart p q hp hq f) (λ f. absurd (new p hp f)))
            (push_all (λ q y. d ≡ y → length ds ≡ q) (λ q hq f. absurd (new q hq (sym f))) (λ f. refl)) i hi j hj e;
        differ = push_all (λ p x. x.first ≡ x.second → ⊥) S.differ differ;
        earlier = push_all (λ p x. Legal p x.first × Legal p x.second) S.earlier (k, l);
        plain = push_all (λ p x. (Constant x.first → ⊥) × (Constant x.second → ⊥)) S.plain (m, n);
      }
