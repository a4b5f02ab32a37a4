-- The values of definitions: those of earlier ones stay as more are added, and each is what its operands give.
use Rattle.std.proofs.Common.{◌≡◌, ℕ, zero, suc, ◌+◌, ◌-◌, ◌<◌, ◌≤◌, List, [], ◌∷◌, ◌++◌, length, get_or, sym, refl, ap, ◌∙◌, subst, ap₂, append_assoc, append-nil, add-zero, arith}
use Rattle.std.proofs.lemmas.List.{length_push, length-append, get_or_append_left, get_or_at}
use Rattle.definitions.specs.declared.operand.Operand.{Operand}
use Rattle.definitions.specs.declared.operand.Operand.TheVariants.{Never, Always, Works, Out, Defined}
use Rattle.definitions.specs.declared.operand.Definition.{Definition}
use Rattle.definitions.specs.Operands.{numbered}
use Rattle.definitions.specs.Sound.{blank, Legal}
use Rattle.algebra.specs.Algebra.{Algebra}
use Rattle.algebra.specs.Worth.{Settings, applied, operand_worth, definition_worth, values_after, worth}

pub legal_more : (m n : ℕ) (a : Operand) → m ≤ n → Legal m a → Legal n a
legal_more m n Never l k = tt
legal_more m n Always l k = tt
legal_more m n (Works p) l k = tt
legal_more m n (Out p) l k = tt
legal_more m n (Defined p) l k = (k.0, omega (arith, k.1))

-- es has ds at its front
pub record Extends (ds es : List Definition) : Type 0 where
  pub rest : List Definition
  pub grows : es ≡ ds ++ rest

pub extends_self : (ds : List Definition) → Extends ds ds
extends_self ds = record { rest = []; grows = sym (append-nil ds) }

pub extends_trans : {ds es fs : List Definition} → Extends ds es → Extends es fs → Extends ds fs
extends_trans {ds} a b = record { rest = a.rest ++ b.rest; grows = b.grows ∙ ap (λ l. l ++ b.rest) a.grows ∙ append_assoc ds a.rest b.rest }

pub extends_long : {ds es : List Definition} → Extends ds es → length ds ≤ length es
extends_long {ds} a = omega (arith, ap length a.grows, length-append ds a.rest)

pub extends_legal : {ds es : List Definition} (a : Operand) → Extends ds es → Legal (length ds) a → Legal (length es) a
extends_legal {ds} {es} a x k = legal_more (length ds) (length es) a (extends_long x) k

module _ (A : Algebra) (s : Settings A) where
  stays : (vs : List A.Value) (ds : List Definition) (i : ℕ) → i < length vs → get_or (values_after A s vs ds) i A.bottom ≡ get_or vs i A.bottom
  stays vs [] i h = refl
  stays vs (d ∷ ds) i h =
      stays (vs ++ definition_worth A s vs d ∷ []) ds i (omega (arith, length_push vs (definition_worth A s vs d))) ∙ get_or_append_left vs (definition_worth A s vs d ∷ []) A.bottom i h

  operand_kept : (vs us : List A.Value) (a : Operand) → ((i : ℕ) → i < length vs → get_or us i A.bottom ≡ get_or vs i A.bottom) → Legal (length vs) a → operand_worth A s us a ≡ operand_worth A s vs a
  operand_kept vs us Never e k = refl
  operand_kept vs us Always e k = refl
  operand_kept vs us (Works n) e k = refl
  operand_kept vs us (Out n) e k = refl
  operand_kept vs us (Defined n) e k = e (n.0 - 1) (omega (arith, k.0, k.1))

  values_length : (vs : List A.Value) (ds : List Definition) → length (values_after A s vs ds) ≡ length vs + length ds
  values_length vs [] = sym (add-zero (length vs))
  values_length vs (d ∷ ds) = omega (arith, values_length (vs ++ definition_worth A s vs d ∷ []) ds, length_push vs (definition_worth A s vs d))

  values_append : (vs : List A.Value) (ds es : List Definition) → values_after A s vs (ds ++ es) ≡ values_after A s (values_after A s vs ds) es
  values_append vs [] es = refl
  values_append vs (d ∷ ds) es = values_append (vs ++ definition_worth A s vs d ∷ []) ds es

  -- a definition's value is what its operands give, by the values of all
  placed : (vs : List A.Value) (ds : List Definition) (i : ℕ) → i < length ds → Legal (length vs + i) (get_or ds i blank).first → Legal (length vs + i) (get_or ds i blank).second
      → get_or (values_after A s vs ds) (length vs + i) A.bottom ≡ definition_worth A s (values_after A s vs ds) (get_or ds i blank)
  placed vs [] i h k l = absurd (omega arith)
  placed vs (e ∷ ds) zero h k l =
      let us = values_after A s vs (e ∷ ds) in
      let at : length vs + 0 ≡ length vs = add-zero (length vs) in
      let now : get_or us (length vs + 0) A.bottom ≡ definition_worth A s vs e = stays (vs ++ definition_worth A s vs e ∷ []) ds (length vs + 0) (omega (arith, length_push vs (definition_worth A s vs e))) ∙ get_or_at vs (definition_worth A s vs e) [] A.bottom (length vs + 0) (sym at) in
      let a = operand_kept vs us e.first (stays vs (e ∷ ds)) (subst (λ n. Legal n e.first) at k) in
      let b = operand_kept vs us e.second (stays vs (e ∷ ds)) (subst (λ n. Legal n e.second) at l) in
      now ∙ sym (ap₂ (applied A e.operator) a b)
  placed vs (e ∷ ds) (suc i) h k l =
      let us : List A.Value = vs ++ definition_worth A s vs e ∷ [] in
      let long = length_push vs (definition_worth A s vs e) in
      let at : length vs + suc i ≡ length us + i = omega arith in
      ap (λ n. get_or (values_after A s us ds) n A.bottom) at ∙ placed us ds i (omega arith) (subst (λ n. Legal n (get_or ds i blank).first) at k) (subst (λ n. Legal n (get_or ds i blank).second) at l)

  -- an operand keeps its value as definitions are added
  pub worth_kept : {ds es : List Definition} (a : Operand) → Extends ds es → Legal (length ds) a → worth A s es a ≡ worth A s ds a
  worth_kept {ds} {es} a x k =
      let long : length (values_after A s [] ds) ≡ length ds = values_length [] ds ∙ omega arith in
      ap (λ l. worth A s l a) x.grows
      ∙ ap (λ vs. operand_worth A s vs a) (values_append [] ds x.rest)
      ∙ operand_kept (values_after A s [] ds) (values_after A s (values_after A s [] ds) x.rest) a (stays (values_after A s [] ds) x.rest) (subst (λ n. Legal n a) (sym long) k)

  -- the definition at place i is worth what its operands give
  pub worth_at : (ds : List Definition) (i : ℕ) → i < length ds → Legal i (get_or ds i blank).first → Legal i (get_or ds i blank).second
      → worth A s ds (numbered (i + 1)) ≡ applied A (get_or ds i blank).operator (worth A s ds (get_or ds i blank).first) (worth A s ds (get_or ds i blank).second)
  worth_at ds i h k l =
      let zero_on : i ≡ 0 + i = omega arith in
      let at : i + 1 - 1 ≡ 0 + i = omega arith in
      ap (λ n. get_or (values_after A s [] ds) n A.bottom) at ∙ placed [] ds i h (subst (λ n. Legal n (get_or ds i blank).first) zero_on k) (subst (λ n. Legal n (get_or ds i blank).second) zero_on l)
