-- The values of definitions, one more at a time, and that those of the first definitions do not hang on later ones.
use Rattle.std.proofs.Common.{◌≡◌, ℕ, ◌+◌, ◌-◌, ◌<◌, ◌≤◌, true, ltb, leb, List, [], ◌∷◌, ◌++◌, map, length, get_or, take, drop, set, sym, refl, ap, ◌∙◌, arith}
use Rattle.std.proofs.lemmas.List.{length-append, length-take-le, drop-drop, drop-set-lt, map_push, take_more_set, at_drop_more, get_or_append_left, take-append-drop}
use Rattle.std.proofs.lemmas.Bool.{and_parts, ltb-true, leb-true}
use Rattle.definitions.specs.declared.operand.Operand.{Operand}
use Rattle.definitions.specs.declared.operand.Operand.TheVariants.{Never, Always, Works, Out, Defined}
use Rattle.definitions.specs.declared.operand.Definition.{Definition}
use Rattle.definitions.specs.Operands.{reach}
use Rattle.definitions.specs.Sound.{blank}
use Rattle.script.specs.Script.{known}
use Rattle.algebra.specs.Algebra.{Algebra}
use Rattle.algebra.specs.Worth.{Settings, operand_worth, definition_worth, values_after, values, worth}

-- i definitions are worked out by n operations: what is left of ds goes on from their values to all, and later elements are as they were
pub record Underway (A : Algebra) {X : Type 0} (value : X → A.Value) (s : Settings A) (ds : List Definition) (was now : List X) (i n : ℕ) : Type 0 where
  pub counted : n ≡ i
  pub onward : values_after A s (map value (take i now)) (drop i ds) ≡ values A s ds
  pub later : drop i now ≡ drop i was

-- what stays as it was, behind one place more
pub later_more : {X : Type 0} (i : ℕ) (xs ys : List X) (x : X) → drop i xs ≡ drop i ys → drop (i + 1) (set xs i x) ≡ drop (i + 1) ys
later_more i xs ys x e = drop-set-lt (i + 1) xs i x (omega arith) ∙ sym (drop-drop 1 i xs) ∙ ap (drop 1) e ∙ drop-drop 1 i ys

module _ {X : Type 0} (A : Algebra) (f : X → A.Value) (s : Settings A) where
  -- the element of the definition at place i, worked out by those before it, as the code reads them
  pub values_more : (elements : List X) (ds : List Definition) (i : ℕ) (x : X) → i < length ds → i < length elements → f x ≡ definition_worth A s (map f (take i elements)) (get_or ds i blank) → values_after A s (map f (take (i + 1) (set elements i x))) (drop (i + 1) ds) ≡ values_after A s (map f (take i elements)) (drop i ds)
  values_more elements ds i x hd he e =
      let done : List A.Value = map f (take i elements) in
      let taken : map f (take (i + 1) (set elements i x)) ≡ done ++ f x ∷ [] = ap (map f) (take_more_set elements i x he) ∙ map_push f (take i elements) x in
      ap (λ t. values_after A s t (drop (i + 1) ds)) (taken ∙ ap (λ v. done ++ v ∷ []) e) ∙ sym (at_drop_more (values_after A s done) ds i blank hd)

module _ (A : Algebra) (s : Settings A) where
  split : (vs : List A.Value) (ds es : List Definition) → values_after A s vs (ds ++ es) ≡ values_after A s (values_after A s vs ds) es
  split vs [] es = refl
  split vs (d ∷ ds) es = split (vs ++ definition_worth A s vs d ∷ []) ds es

  long : (vs : List A.Value) (ds : List Definition) → length (values_after A s vs ds) ≡ length vs + length ds
  long vs [] = omega arith
  long vs (d ∷ ds) = let more = length-append vs (definition_worth A s vs d ∷ []) in long (vs ++ definition_worth A s vs d ∷ []) ds ∙ omega arith

  kept : (vs : List A.Value) (ds : List Definition) (j : ℕ) → j < length vs → get_or (values_after A s vs ds) j A.bottom ≡ get_or vs j A.bottom
  kept vs [] j h = refl
  kept vs (d ∷ ds) j h =
      let more = length-append vs (definition_worth A s vs d ∷ []) in
      kept (vs ++ definition_worth A s vs d ∷ []) ds j (omega arith) ∙ get_or_append_left vs (definition_worth A s vs d ∷ []) A.bottom j h

  first_values : (ds : List Definition) (k j : ℕ) → k ≤ length ds → j < k → get_or (values A s ds) j A.bottom ≡ get_or (values A s (take k ds)) j A.bottom
  first_values ds k j le lt =
      let front = long [] (take k ds) in
      let counted = length-take-le k ds le in
      ap (λ es. get_or (values A s es) j A.bottom) (sym (take-append-drop k ds)) ∙ ap (λ vs. get_or vs j A.bottom) (split [] (take k ds) (drop k ds))
      ∙ kept (values A s (take k ds)) (drop k ds) j (omega arith)

  -- an operand that is known is worth the same by the definitions up to its number
  pub first_worth : (ds : List Definition) (x : Operand) → known (length ds) x ≡ true → operand_worth A s (values A s (take (reach x) ds)) x ≡ worth A s ds x
  first_worth ds Never h = refl
  first_worth ds Always h = refl
  first_worth ds (Works p) h = refl
  first_worth ds (Out p) h = refl
  first_worth ds (Defined n) h =
      let parts = and_parts (ltb 0 n.0) (leb n.0 (length ds)) h in
      let some = ltb-true 0 n.0 parts.0 in
      let few = leb-true n.0 (length ds) parts.1 in
      sym (first_values ds n.0 (n.0 - 1) few (omega arith))

-- the number of a known operand is at most the count
pub reached : (n : ℕ) (x : Operand) → known n x ≡ true → reach x ≤ n
reached n Never h = omega arith
reached n Always h = omega arith
reached n (Works p) h = omega arith
reached n (Out p) h = omega arith
reached n (Defined k) h = leb-true k.0 n (and_parts (ltb 0 k.0) (leb k.0 n) h).1
