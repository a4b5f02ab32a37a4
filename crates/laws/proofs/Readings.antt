-- Both readings of decomposition come to the same where no way is contradictory: a way that holds a part working does not hold it out, and
-- the kinds of clean ways are clean.
use Rattle.std.proofs.Common.{◌≡◌, ℕ, zero, suc, Bool, true, false, cond, not, ◌||◌, List, [], ◌∷◌, ◌++◌, map, filter, sym, refl, ap, ◌∙◌, arith}
use Rattle.std.specs.List.{AllByRecursion}
use Rattle.std.proofs.ByRecursion.{All-map, all_kept_by, All-weaker}
use Rattle.std.proofs.lemmas.Bool.{false≢true, and_parts, or_parts, or_from, not-true}
use Rattle.rack.specs.declared.part.Literal.{Literal}
use Rattle.rack.specs.declared.part.Part.{Part}
use Rattle.rack.specs.declared.part.Sign.{Sign}
use Rattle.rack.specs.declared.part.Sign.TheVariants.{Works, Out}
use Rattle.rack.specs.Sign.{sign_code, turned}
use Rattle.rack.specs.Way.{Way}
use Rattle.table.specs.Kept.{same_literal, holds, opposed, contradictory, among, keeps, kept_after, kept}
use Rattle.definitions.specs.declared.operand.Operand.TheVariants.{Always}
use Rattle.definitions.specs.Combine.{Writing, give, and_then, choose}
use Rattle.working.specs.Records.{lacking, has_empty, size}
use Rattle.decomposition.specs.Decomposition.{working_of, out_of, under, beside, start_of, closing, by_start, decompose_in}
use Rattle.laws.specs.Readings.{by_part_from_all, decompose_from_all_in, Clean, ReadingsAgree}
use Rattle.laws.proofs.Ways.{same_literal_is}

-- a way without a literal holds no more than the way
holds_lacking : (g h : Literal) (w : Way) → holds g w ≡ false → holds g (lacking h w) ≡ false
holds_lacking g h [] e = e
holds_lacking g h (l ∷ w) e = go (holds_lacking g h w) (or_parts (same_literal l g) (holds g w) e) (same_literal l h)
  where
    go : (holds g w ≡ false → holds g (lacking h w) ≡ false) → (same_literal l g ≡ false) × (holds g w ≡ false) → (t : Bool) → holds g (cond (not t) (l ∷ lacking h w) (lacking h w)) ≡ false
    go a f true = a f.1
    go a f false = or_from (same_literal l g) (holds g (lacking h w)) f.0 (a f.1)

clean_lacking : (h : Literal) (w : Way) → Clean w → Clean (lacking h w)
clean_lacking h [] e = e
clean_lacking h (l ∷ w) e = go (clean_lacking h w) (or_parts (holds (opposed l) w) (contradictory w) e) (same_literal l h)
  where
    go : (Clean w → Clean (lacking h w)) → (holds (opposed l) w ≡ false) × Clean w → (t : Bool) → Clean (cond (not t) (l ∷ lacking h w) (lacking h w))
    go a f true = a f.1
    go a f false = or_from (holds (opposed l) (lacking h w)) (contradictory (lacking h w)) (holds_lacking (opposed l) h w f.0) (a f.1)

clean_under : (h : Literal) (ws : List Way) → AllByRecursion Clean ws → AllByRecursion Clean (under h ws)
clean_under h ws a =
    All-map Clean (lacking h) (filter (holds h) ws) (all_kept_by (holds h) (λ w. Clean (lacking h w)) ws (All-weaker Clean (λ w. Clean (lacking h w)) (clean_lacking h) ws a))

clean_beside : (h : Literal) (ws : List Way) → AllByRecursion Clean ws → AllByRecursion Clean (beside h ws)
clean_beside h ws a = all_kept_by (λ w. not (holds h w)) Clean ws a

turned_twice : (g : Sign) → turned (turned g) ≡ g
turned_twice Works = refl
turned_twice Out = refl

turned_differs : (g : Sign) → g ≡ turned g → ⊥
turned_differs Works e = omega (arith, ap sign_code e)
turned_differs Out e = omega (arith, ap sign_code e)

-- a clean way does not hold a part both ways
never_both : (h : Literal) (w : Way) → Clean w → holds h w ≡ true → holds (opposed h) w ≡ false
never_both h [] e f = refl
never_both h (l ∷ w) e f = go (never_both h w) (or_parts (holds (opposed l) w) (contradictory w) e) (same_literal l h) refl f (same_literal l (opposed h)) refl
  where
    twice : opposed (opposed h) ≡ h
    twice = λ i. record { part = h.part; sign = turned_twice h.sign i }

    go : (Clean w → holds h w ≡ true → holds (opposed h) w ≡ false) → (holds (opposed l) w ≡ false) × Clean w → (t : Bool) → same_literal l h ≡ t → (t || holds h w) ≡ true
        → (u : Bool) → same_literal l (opposed h) ≡ u → (u || holds (opposed h) w) ≡ false
    go a b true i f true j = absurd (turned_differs h.sign (ap (λ x. x.sign) (sym (same_literal_is l h i) ∙ same_literal_is l (opposed h) j)))
    go a b true i f false j = ap (λ x. holds (opposed x) w) (sym (same_literal_is l h i)) ∙ b.0
    go a b false i f true j = absurd (false≢true (sym (ap (λ x. holds x w) (sym (ap opposed (same_literal_is l (opposed h) j) ∙ twice)) ∙ b.0) ∙ f))
    go a b false i f false j = a b.1 f

-- what is out among all ways is out among those that do not hold it working
out_same : (v : Part) (ws : List Way) → AllByRecursion Clean ws → under (out_of v) ws ≡ under (out_of v) (beside (working_of v) ws)
out_same v [] a = refl
out_same v (w ∷ ws) a = go (out_same v ws a.1) (holds (working_of v) w) refl
  where
    o : Literal
    o = out_of v

    -- u: w holds the part out
    among_out : Bool → List Way → List Way
    among_out u us = map (lacking o) (cond u (w ∷ filter (holds o) us) (filter (holds o) us))

    more : (u : Bool) (us vs : List Way) → under o us ≡ under o vs → among_out u us ≡ among_out u vs
    more true us vs r = ap (λ x. lacking o w ∷ x) r
    more false us vs r = r

    -- t: w holds the part working
    go : under o ws ≡ under o (beside (working_of v) ws) → (t : Bool) → holds (working_of v) w ≡ t → among_out (holds o w) ws ≡ under o (cond (not t) (w ∷ beside (working_of v) ws) (beside (working_of v) ws))
    go r true e = ap (λ u. among_out u ws) (never_both (working_of v) w a.0 e) ∙ r
    go r false e = more (holds o w) ws (beside (working_of v) ws) r

abbrev three : ℕ → Part → Writing → Writing → Writing → Writing
three limit v x y z = and_then x (λ a. and_then y (λ b. and_then z (λ c. closing limit v a b c)))

same_in : (limit n : ℕ) (ws : List Way) → AllByRecursion Clean ws → decompose_from_all_in limit n ws ≡ decompose_in limit n ws
same_in limit zero ws a = refl
same_in limit (suc n) [] a = refl
same_in limit (suc n) ([] ∷ ws) a = refl
same_in limit (suc n) ((l ∷ w) ∷ ws) a = go (λ us c. same_in limit n us c) (has_empty ws)
  where
    all : List Way
    all = (l ∷ w) ∷ ws

    goal : Bool → Type 0
    goal t = choose t (give Always) (by_part_from_all limit (decompose_from_all_in limit n) l.part all) ≡ by_start limit (decompose_in limit n) all (choose t (start_of ([] ∷ [])) (start_of ((l ∷ w) ∷ [])))

    go : ((us : List Way) → AllByRecursion Clean us → decompose_from_all_in limit n us ≡ decompose_in limit n us) → (t : Bool) → goal t
    go sub true = refl
    go sub false =
        let v = l.part in
        let others = beside (working_of v) all in
        let clean = clean_beside (working_of v) all a in
        let e1 = sub (under (working_of v) all) (clean_under (working_of v) all a) in
        let e2 = ap (decompose_from_all_in limit n) (out_same v all a) ∙ sub (under (out_of v) others) (clean_under (out_of v) others clean) in
        let e3 = sub (beside (out_of v) others) (clean_beside (out_of v) others clean) in
        λ i. three limit v (e1 i) (e2 i) (e3 i)

kept_clean : (ws earlier : List Way) → AllByRecursion Clean (kept_after earlier ws)
kept_clean [] earlier = tt
kept_clean (w ∷ ws) earlier = go (kept_clean ws (earlier ++ w ∷ [])) (keeps w earlier) refl
  where
    more : List Way
    more = kept_after (earlier ++ w ∷ []) ws

    go : AllByRecursion Clean more → (t : Bool) → keeps w earlier ≡ t → AllByRecursion Clean (cond t (w ∷ more) more)
    go r true e = (not-true (contradictory w) (and_parts (not (contradictory w)) (not (among w earlier)) e).0, r)
    go r false e = r

pub readings_agree : ReadingsAgree
readings_agree =
    record {
      same = λ limit ws a. same_in limit (size ws) ws a;
      clean = λ ws. kept_clean ws [];
      same_kept = λ limit ws. same_in limit (size (kept ws)) (kept ws) (kept_clean ws []);
      from_all = refl;
      from_rest = refl;
    }
