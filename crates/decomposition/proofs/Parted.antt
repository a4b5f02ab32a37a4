-- How large the kinds of ways are: each that is written under a literal loses one at least, and the first way is never among the rest.
use Rattle.std.proofs.Common.{◌≡◌, ◌<◌, ◌≤◌, Bool, true, false, cond, not, ◌&&◌, ◌||◌, eqb, List, [], ◌∷◌, Continue, Break, map, length, filter, refl, ap, arith}
use Rattle.std.proofs.lemmas.Bool.{eq-eqb, false≢true}
use Rattle.std.proofs.lemmas.List.Filters.{sum_by-filter_both}
use Rattle.std.proofs.lemmas.List.Recursion.{is_sum_by}
use Rattle.std.proofs.lemmas.List.Sums.{length-filter, count_by-le-length}
use Rattle.rack.specs.declared.part.Literal.{Literal}
use Rattle.rack.specs.declared.part.Part.{Part}
use Rattle.rack.specs.declared.part.Sign.{Sign}
use Rattle.rack.specs.declared.part.Sign.TheVariants.{Works, Out}
use Rattle.rack.specs.Sign.{sign_code}
use Rattle.rack.specs.Way.{Way}
use Rattle.table.specs.Kept.{same_literal, holds, literals}
use Rattle.definitions.specs.declared.operand.Operand.TheVariants.{Always}
use Rattle.definitions.specs.Combine.{choose}
use Rattle.working.specs.Records.{lacking, has_empty, size}
use Rattle.decomposition.specs.Decomposition.{working_of, out_of, under, beside, start_of}

lacking_shorter : (h : Literal) (w : Way) → holds h w ≡ true → length (lacking h w) < length w
lacking_shorter h [] e = absurd (false≢true e)
lacking_shorter h (l ∷ w) e = by (lacking_shorter h w) (same_literal l h) e
  where
    by : (holds h w ≡ true → length (lacking h w) < length w) → (t : Bool) → (t || holds h w) ≡ true → length (cond (not t) (l ∷ lacking h w) (lacking h w)) < length (l ∷ w)
    by r true f = omega (arith, length-filter (λ m. not (same_literal m h)) w, count_by-le-length (λ m. not (same_literal m h)) w)
    by r false f = omega (arith, r f)

pub under_small : (h : Literal) (ws : List Way) → size (under h ws) ≤ literals ws
under_small h [] = omega arith
under_small h (w ∷ ws) = by (under_small h ws) (holds h w) refl
  where
    by : size (under h ws) ≤ literals ws → (t : Bool) → holds h w ≡ t → size (map (lacking h) (cond t (w ∷ filter (holds h) ws) (filter (holds h) ws))) ≤ literals (w ∷ ws)
    by r true e = omega (arith, lacking_shorter h w e)
    by r false e = omega arith

-- what is kept of a list of ways has no more ways and no more literals
kept_small : (p : Way → Bool) (ws : List Way) → (length (filter p ws) ≤ length ws) × (literals (filter p ws) ≤ literals ws)
kept_small p ws = (
  omega (arith, length-filter p ws, count_by-le-length p ws),
  omega (arith, is_sum_by literals length refl (λ _ _. refl) (filter p ws), is_sum_by literals length refl (λ _ _. refl) ws, sum_by-filter_both p (λ w. not (p w)) (λ _. refl) length ws),
)

pub beside_literals : (h : Literal) (ws : List Way) → literals (beside h ws) ≤ literals ws
beside_literals h ws = (kept_small (λ w. not (holds h w)) ws).1

-- a way that the second test stops where the first does not is in neither list
one_less : (p q : Way → Bool) (w : Way) (ws : List Way) → (p w ≡ true → q w ≡ false) → size (filter q (filter p (w ∷ ws))) < size (w ∷ ws)
one_less p q w ws h = by (p w) refl
  where
    less : size (filter q (filter p ws)) ≤ size ws
    less = omega (arith, (kept_small p ws).0, (kept_small p ws).1, (kept_small q (filter p ws)).0, (kept_small q (filter p ws)).1)

    by : (t : Bool) → p w ≡ t → size (filter q (cond t (w ∷ filter p ws) (filter p ws))) < size (w ∷ ws)
    by true e =
        let same : size (filter q (w ∷ filter p ws)) ≡ size (filter q (filter p ws)) = ap (λ t. size (cond t (w ∷ filter q (filter p ws)) (filter q (filter p ws)))) (h e) in
        omega (arith, less)
    by false e = omega (arith, less)

-- t: the literal is of the part; s: its sign; x and y: what the rest of the way holds
one_sign : (t : Bool) (s : Sign) (x y : Bool) → t ≡ true → not ((t && eqb (sign_code s) 0) || x) ≡ true → not ((t && eqb (sign_code s) 1) || y) ≡ false
one_sign true Works x y e f = absurd (false≢true f)
one_sign true Out x y e f = refl
one_sign false s x y e f = absurd (false≢true e)

first_falls : (v : Part) (l : Literal) (w : Way) (ws : List Way) → l.part ≡ v → size (beside (out_of v) (beside (working_of v) ((l ∷ w) ∷ ws))) < size ((l ∷ w) ∷ ws)
first_falls v l w ws e =
    one_less (λ u. not (holds (working_of v) u)) (λ u. not (holds (out_of v) u)) (l ∷ w) ws (one_sign (eqb l.part.0 v.0) l.sign (holds (working_of v) w) (holds (out_of v) w) (eq-eqb l.part.0 v.0 (ap (λ p. p.0) e)))

some_way : (v : Part) (ws : List Way) → start_of ws ≡ Continue v → 0 < length ws
some_way v [] e = absurd (cc)
some_way v (w ∷ ws) e = omega arith

-- the three kinds are smaller than the whole
module _ (v : Part) (ws : List Way) (e : start_of ws ≡ Continue v) where
  pub working_falls : size (under (working_of v) ws) < size ws
  working_falls = omega (arith, under_small (working_of v) ws, some_way v ws e)

  pub out_falls : size (under (out_of v) (beside (working_of v) ws)) < size ws
  out_falls = omega (arith, under_small (out_of v) (beside (working_of v) ws), beside_literals (working_of v) ws, some_way v ws e)

pub rest_falls : (v : Part) (ws : List Way) → start_of ws ≡ Continue v → size (beside (out_of v) (beside (working_of v) ws)) < size ws
rest_falls v [] e = absurd (cc)
rest_falls v ([] ∷ ws) e = absurd (cc)
rest_falls v ((l ∷ w) ∷ ws) e = by (has_empty ws) e
  where
    by : (t : Bool) → choose t (Break Always) (Continue l.part) ≡ Continue v → size (beside (out_of v) (beside (working_of v) ((l ∷ w) ∷ ws))) < size ((l ∷ w) ∷ ws)
    by true f = absurd (cc)
    by false f = first_falls v l w ws (cc)
