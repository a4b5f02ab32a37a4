-- Operands and definitions are alike exactly where they are equal, so what the finder says decides what `defining` gives.
use Rattle.std.proofs.Common.{◌≡◌, ℕ, zero, suc, ◌+◌, ◌<◌, ◌≤◌, min, Bool, false, eqb, ltb, ◌⊎◌, List, [], ◌∷◌, ◌++◌, length, take, set, Some, None, Decides, Option, sym, refl, ap, ◌∙◌, subst, inl, inr, arith}
use Rattle.std.proofs.lemmas.List.{length-take, length-take-le, take_all, take_more_set}
use Rattle.std.proofs.lemmas.Bool.{lt-ltb, le-ltb, cases_lt}
use Rattle.std.proofs.lemmas.Bool.Decides.{Decides-and, Decides-eqb, Decides-like}
use Rattle.definitions.specs.declared.operand.Operator.{Operator}
use Rattle.definitions.specs.declared.operand.Operator.TheVariants.{Meet, Join}
use Rattle.definitions.specs.declared.operand.Operand.{Operand}
use Rattle.definitions.specs.declared.operand.Operand.TheVariants.{Never, Always, Works, Out, Defined}
use Rattle.definitions.specs.declared.operand.Definition.{Definition}
use Rattle.rack.specs.First.{FirstAt, Nowhere}
use Rattle.definitions.specs.Operands.{kind, number, code, numbered, same_operand, alike}
use Rattle.definitions.specs.Combine.{State, give, choose, later, place_in, counted, or_add, defining}

-- an operand from its kind and number
abbrev rebuilt : ℕ → ℕ → Operand
rebuilt zero n = Never
rebuilt (suc zero) n = Always
rebuilt (suc (suc zero)) n = Works (record { 0 = n })
rebuilt (suc (suc (suc zero))) n = Out (record { 0 = n })
rebuilt (suc (suc (suc (suc k)))) n = numbered n

rebuilt_is : (a : Operand) → rebuilt (kind a) (number a) ≡ a
rebuilt_is Never = refl
rebuilt_is Always = refl
rebuilt_is (Works p) = refl
rebuilt_is (Out p) = refl
rebuilt_is (Defined n) = refl

pub decides_operand : (a b : Operand) → Decides (same_operand a b) (a ≡ b)
decides_operand a b =
    Decides-like _ (λ h. sym (rebuilt_is a) ∙ (λ i. rebuilt (h.0 i) (h.1 i)) ∙ rebuilt_is b) (λ e. (ap kind e, ap number e))
    (Decides-and _ _ (Decides-eqb (kind a) (kind b)) (Decides-eqb (number a) (number b)))

abbrev codeed : ℕ → Operator
codeed zero = Meet
codeed (suc n) = Join

codeed_is : (o : Operator) → codeed (code o) ≡ o
codeed_is Meet = refl
codeed_is Join = refl

decides_operator : (o p : Operator) → Decides (eqb (code o) (code p)) (o ≡ p)
decides_operator o p = Decides-like _ (λ h. sym (codeed_is o) ∙ ap codeed h ∙ codeed_is p) (ap code) (Decides-eqb (code o) (code p))

pub decides_definition : (d e : Definition) → Decides (alike d e) (d ≡ e)
decides_definition d e =
    Decides-like _ (λ h i. record { operator = h.0 i; first = h.1.0 i; second = h.1.1 i }) (λ p. (ap (λ x. x.operator) p, (ap (λ x. x.first) p, ap (λ x. x.second) p)))
    (Decides-and _ _ (decides_operator d.operator e.operator) (Decides-and _ _ (decides_operand d.first e.first) (decides_operand d.second e.second)))

differ : (d e : Definition) → (d ≡ e → ⊥) → alike d e ≡ false
differ d e ne = let h = decides_definition d e in grind arith

abbrev by_alike : Bool → Option ℕ → Option ℕ
by_alike t o = choose t (Some 0) (later o)

pub found : (ds : List Definition) (i : ℕ) (d : Definition) → FirstAt ds d i → place_in d ds ≡ Some i
found [] i d h = absurd (omega (arith, h.inside))
found (e ∷ es) zero d h = ap (λ t. by_alike t (place_in d es)) ((decides_definition e d).1 h.here)
found (e ∷ es) (suc i) d h =
    let at : i + 1 ≡ suc i = omega arith in
    ap (λ t. by_alike t (place_in d es)) (differ e d (h.before 0 (omega arith)))
    ∙ ap later (found es i d (record { inside = omega (arith, h.inside); here = h.here; before = λ k l. h.before (suc k) (omega arith) }))
    ∙ ap (λ k. Some k) at

pub missing : (ds : List Definition) (d : Definition) → Nowhere ds d → place_in d ds ≡ None
missing [] d h = refl
missing (e ∷ es) d h =
    ap (λ t. by_alike t (place_in d es)) (differ e d (h 0 (omega arith))) ∙ ap later (missing es d (λ k l. h (suc k) (omega arith)))

abbrev adding : Bool → Definition → List Definition → Option State
adding t d ds = choose t (give (numbered (length ds + 1)) (ds ++ d ∷ [])) None

-- slots are 4,096, and so many at most are looked at
pub front : (n k : ℕ) (vs : List Definition) → k ≡ min n 4096 → length vs ≡ 4096 → take k vs ≡ take n vs
front n k vs e long = by (cases_lt 4096 n)
  where
    by : (4096 < n) ⊎ (n ≤ 4096) → take k vs ≡ take n vs
    by (inr h) = let same : k ≡ n = omega arith in ap (λ m. take m vs) same
    by (inl h) = take_all k vs (omega arith) ∙ sym (take_all n vs (omega arith))

module _ (limit : ℕ) (vs : List Definition) (n k : ℕ) (d : Definition) (clipped : k ≡ min n 4096) (long : length vs ≡ 4096) where
  pub found_at : (i : ℕ) → FirstAt (take k vs) d i → give (numbered (i + 1)) (take n vs) ≡ defining limit d (take n vs)
  found_at i h = sym (ap (λ o. or_add limit d o (take n vs)) (found (take n vs) i d (subst (λ ds. FirstAt ds d i) (front n k vs clipped long) h)))

  none : Nowhere (take k vs) d → defining limit d (take n vs) ≡ adding (ltb (length (take n vs)) (counted limit)) d (take n vs)
  none h = ap (λ o. or_add limit d o (take n vs)) (missing (take n vs) d (subst (λ ds. Nowhere ds d) (front n k vs clipped long) h))

  pub missing_at : k < counted limit → Nowhere (take k vs) d → give (numbered (k + 1)) (take (k + 1) (set vs k d)) ≡ defining limit d (take n vs)
  missing_at room h =
      let same : k ≡ n = omega arith in
      let fill : length (take n vs) ≡ k = length-take-le n vs (omega arith) ∙ sym same in
      let at : k ≡ length (take n vs) = sym fill in
      (λ j. give (numbered (at j + 1)) (take_more_set vs k d (omega arith) j))
      ∙ ap (λ m. give (numbered (length (take n vs) + 1)) (take m vs ++ d ∷ [])) same
      ∙ sym (none h ∙ ap (λ t. adding t d (take n vs)) (lt-ltb (length (take n vs)) (counted limit) (omega arith)))

  pub full_at : counted limit ≤ k → Nowhere (take k vs) d → None ≡ defining limit d (take n vs)
  full_at full h =
      let fill : length (take n vs) ≡ min n (length vs) = length-take n vs in
      sym (none h ∙ ap (λ t. adding t d (take n vs)) (le-ltb (length (take n vs)) (counted limit) (omega arith)))
