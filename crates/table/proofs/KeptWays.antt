-- Literals and ways are the same exactly where they are equal, and one turn of each loop over them.
use Rattle.std.proofs.Common.{◌≡◌, ℕ, zero, suc, ◌+◌, ◌<◌, ◌≤◌, Bool, false, cond, ◌&&◌, ◌||◌, List, [], ◌∷◌, ◌++◌, length, get_or, take, drop, zip, is_some, Decides, Option, sym, refl, ap, ◌∙◌, arith, MatchOption}
use Rattle.std.proofs.lemmas.List.{at_drop_more, at_drop_all, map_more}
use Rattle.std.proofs.lemmas.Bool.{and_right}
use Rattle.std.proofs.lemmas.Bool.Decides.{Decides-and, Decides-eqb, Decides-like}
use Rattle.std.specs.List.{list_any, list_all}
use Rattle.rack.proofs.Found.{found_any}
use Rattle.rack.specs.First.{FirstAt, Nowhere}
use Rattle.rack.specs.declared.part.Literal.{Literal}
use Rattle.rack.specs.declared.part.Sign.{Sign}
use Rattle.rack.specs.declared.part.Sign.TheVariants.{Works, Out}
use Rattle.rack.specs.declared.way.WayRecord.{WayRecord}
use Rattle.rack.specs.Sign.{sign_code}
use Rattle.rack.specs.Way.{Way, way_of}
use Rattle.table.specs.Kept.{same_literal, holds, same_way, among, keeps, kept_after, ways_of}

abbrev sign_of : ℕ → Sign
sign_of zero = Works
sign_of (suc n) = Out

sign_of_is : (s : Sign) → sign_of (sign_code s) ≡ s
sign_of_is Works = refl
sign_of_is Out = refl

pub decides_literal : (l h : Literal) → Decides (same_literal l h) (l ≡ h)
decides_literal l h =
    Decides-like _ (λ e i. record { part = record { 0 = e.0 i }; sign = (sym (sign_of_is l.sign) ∙ ap sign_of e.1 ∙ sign_of_is h.sign) i }) (λ p. (ap (λ x. x.part.0) p, ap (λ x. sign_code x.sign) p))
    (Decides-and _ _ (Decides-eqb l.part.0 h.part.0) (Decides-eqb (sign_code l.sign) (sign_code h.sign)))

pub other : (l h : Literal) → (l ≡ h → ⊥) → same_literal l h ≡ false
other l h ne = let d = decides_literal l h in grind arith

pub decides_way : (w v : Way) → Decides (same_way w v) (w ≡ v)
decides_way [] [] = (λ e. refl, λ e. refl)
decides_way [] (h ∷ v) = (λ e. absurd (let z : ◌≡◌ {A = ℕ} 0 1 = cc in omega arith), λ e. absurd (let z : ◌≡◌ {A = ℕ} 0 1 = cc in omega arith))
decides_way (l ∷ w) [] = (λ e. absurd (let z : ◌≡◌ {A = ℕ} 0 1 = cc in omega arith), λ e. absurd (let z : ◌≡◌ {A = ℕ} 0 1 = cc in omega arith))
decides_way (l ∷ w) (h ∷ v) =
    Decides-like _ (λ e i. e.0 i ∷ e.1 i) (λ e. (cc, cc))
    (Decides-and _ _ (decides_literal l h) (decides_way w v))

-- what the finder answers of a way
any_held : (w : Way) (h : Literal) → list_any (λ l. same_literal l h) w ≡ holds h w
any_held [] h = refl
any_held (l ∷ w) h = ap (λ t. same_literal l h || t) (any_held w h)

pub found_held : (w : Way) (h : Literal) (o : Option ℕ) → MatchOption o (Nowhere w h) (FirstAt w h) → is_some o ≡ holds h w
found_held w h o f = found_any h (λ l. same_literal l h) (λ l. decides_literal l h) w o f ∙ any_held w h

-- two ways of one length are compared place by place, and others differ
pub same_places : (w v : Way) → length w ≡ length v → list_all (λ (p : Literal × Literal). same_literal p.0 p.1) (zip w v) ≡ same_way w v
same_places [] [] e = refl
same_places [] (h ∷ v) e = absurd (omega (arith, e))
same_places (l ∷ w) [] e = absurd (omega (arith, e))
same_places (l ∷ w) (h ∷ v) e = ap (λ t. same_literal l h && t) (same_places w v (omega (arith, e)))

pub longer : (w v : Way) → (length w ≡ length v → ⊥) → same_way w v ≡ false
longer [] [] ne = absurd (ne refl)
longer [] (h ∷ v) ne = refl
longer (l ∷ w) [] ne = refl
longer (l ∷ w) (h ∷ v) ne = and_right (same_literal l h) (same_way w v) (longer w v (λ e. ne (omega arith)))

pub among_any : (w : Way) (rs : List WayRecord) → list_any (λ r. same_way (way_of r) w) rs ≡ among w (ways_of rs)
among_any w [] = refl
among_any w (r ∷ rs) = ap (λ t. same_way (way_of r) w || t) (among_any w rs)

-- the kept ways from record i on
module _ (rs : List WayRecord) (i : ℕ) (d : WayRecord) (lt : i < length rs) where
  abbrev onward : ℕ → List Way
  onward k = kept_after (ways_of (take k rs)) (ways_of (drop k rs))

  pub kept_at : (t : Bool) → t ≡ keeps (way_of (get_or rs i d)) (ways_of (take i rs)) → onward i ≡ cond t (way_of (get_or rs i d) ∷ onward (i + 1)) (onward (i + 1))
  kept_at t e =
      let w = way_of (get_or rs i d) in
      at_drop_more (λ s. kept_after (ways_of (take i rs)) (ways_of s)) rs i d lt
      ∙ ap (λ s. cond s (w ∷ kept_after (ways_of (take i rs) ++ w ∷ []) (ways_of (drop (i + 1) rs))) (kept_after (ways_of (take i rs) ++ w ∷ []) (ways_of (drop (i + 1) rs)))) (sym e)
      ∙ ap (λ es. cond t (w ∷ kept_after es (ways_of (drop (i + 1) rs))) (kept_after es (ways_of (drop (i + 1) rs)))) (sym (map_more way_of rs i d lt))

pub kept_all : (rs : List WayRecord) (i : ℕ) → length rs ≤ i → kept_after (ways_of (take i rs)) (ways_of (drop i rs)) ≡ []
kept_all rs i h = at_drop_all (λ s. kept_after (ways_of (take i rs)) (ways_of s)) rs i h
