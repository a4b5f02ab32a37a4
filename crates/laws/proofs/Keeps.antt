-- The kept ways are worth what all ways are: a way that was entered before adds nothing to the join, and a contradictory one is worth
-- bottom. Only the last needs the complement.
use Rattle.std.proofs.Common.{◌≡◌, Bool, true, false, cond, not, ◌⊎◌, List, [], ◌∷◌, ◌++◌, sym, refl, ap, ◌∙◌, inl, inr}
use Rattle.std.proofs.lemmas.Bool.{false≢true, or_cases, and_cases, not-false}
use Rattle.rack.specs.declared.part.Literal.{Literal}
use Rattle.rack.specs.declared.part.Sign.{Sign}
use Rattle.rack.specs.declared.part.Sign.TheVariants.{Works, Out}
use Rattle.rack.specs.Way.{Way}
use Rattle.rack.specs.Sign.{turned}
use Rattle.table.specs.Kept.{holds, opposed, contradictory, same_way, among, keeps, kept_after, kept}
use Rattle.table.proofs.KeptWays.{decides_way}
use Rattle.algebra.specs.Algebra.{Algebra, Lattice, Complemented}
use Rattle.algebra.specs.Worth.{Settings, signed_worth, literal_worth, way_worth, ways_worth}
use Rattle.laws.proofs.Lattices.{join_bottom_left, meet_bottom_left, meet_bottom, join_same_left, join_left_comm}
use Rattle.laws.proofs.Ways.{holds_below}

module _ (A : Algebra) (L : Lattice A) (s : Settings A) where
  among_below : (w : Way) (vs : List Way) → among w vs ≡ true → A.join (way_worth A s w) (ways_worth A s vs) ≡ ways_worth A s vs
  among_below w [] e = absurd (false≢true e)
  among_below w (v ∷ vs) e = go (among_below w vs) (or_cases (same_way v w) (among w vs) e)
    where
      go : (among w vs ≡ true → A.join (way_worth A s w) (ways_worth A s vs) ≡ ways_worth A s vs) → (same_way v w ≡ true) ⊎ (among w vs ≡ true)
          → A.join (way_worth A s w) (A.join (way_worth A s v) (ways_worth A s vs)) ≡ A.join (way_worth A s v) (ways_worth A s vs)
      go a (inl f) = ap (λ u. A.join (way_worth A s u) (A.join (way_worth A s v) (ways_worth A s vs))) (sym ((decides_way v w).0 f)) ∙ join_same_left A L _ _
      go a (inr f) = join_left_comm A L _ _ _ ∙ ap (A.join (way_worth A s v)) (a f)

  ways_push : (vs : List Way) (w : Way) → ways_worth A s (vs ++ w ∷ []) ≡ A.join (way_worth A s w) (ways_worth A s vs)
  ways_push [] w = refl
  ways_push (v ∷ vs) w = ap (A.join (way_worth A s v)) (ways_push vs w) ∙ join_left_comm A L _ _ _

  module _ (C : Complemented A) where
    literal_apart : (l : Literal) → A.meet (literal_worth A s l) (literal_worth A s (opposed l)) ≡ A.bottom
    literal_apart l = by l.sign
      where
        by : (g : Sign) → A.meet (signed_worth A g (s l.part.0)) (signed_worth A (turned g) (s l.part.0)) ≡ A.bottom
        by Works = C.meet_complement _
        by Out = L.meet_comm _ _ ∙ C.meet_complement _

    contradictory_bottom : (w : Way) → contradictory w ≡ true → way_worth A s w ≡ A.bottom
    contradictory_bottom [] e = absurd (false≢true e)
    contradictory_bottom (l ∷ w) e = go (contradictory_bottom w) (or_cases (holds (opposed l) w) (contradictory w) e)
      where
        go : (contradictory w ≡ true → way_worth A s w ≡ A.bottom) → (holds (opposed l) w ≡ true) ⊎ (contradictory w ≡ true) → A.meet (literal_worth A s l) (way_worth A s w) ≡ A.bottom
        go a (inl f) =
            ap (A.meet (literal_worth A s l)) (sym (holds_below A L s (opposed l) w f)) ∙ sym (L.meet_assoc _ _ _)
            ∙ ap (λ x. A.meet x (way_worth A s w)) (literal_apart l) ∙ meet_bottom_left A L _
        go a (inr f) = ap (A.meet (literal_worth A s l)) (a f) ∙ meet_bottom A L _

    -- a way that is not kept adds nothing
    dropped : (w : Way) (earlier : List Way) → keeps w earlier ≡ false → A.join (way_worth A s w) (ways_worth A s earlier) ≡ ways_worth A s earlier
    dropped w earlier e = go (and_cases (not (contradictory w)) (not (among w earlier)) e)
      where
        go : (not (contradictory w) ≡ false) ⊎ (not (among w earlier) ≡ false) → A.join (way_worth A s w) (ways_worth A s earlier) ≡ ways_worth A s earlier
        go (inl f) = ap (λ x. A.join x (ways_worth A s earlier)) (contradictory_bottom w (not-false (contradictory w) f)) ∙ join_bottom_left A L _
        go (inr f) = among_below w earlier (not-false (among w earlier) f)

    kept_after_worth : (ws earlier : List Way) → A.join (ways_worth A s earlier) (ways_worth A s (kept_after earlier ws)) ≡ A.join (ways_worth A s earlier) (ways_worth A s ws)
    kept_after_worth [] earlier = refl
    kept_after_worth (w ∷ ws) earlier = go (kept_after_worth ws (earlier ++ w ∷ [])) (keeps w earlier) refl
      where
        W : A.Value
        W = way_worth A s w

        B : A.Value
        B = ways_worth A s earlier

        more : List Way
        more = kept_after (earlier ++ w ∷ []) ws

        -- what was entered before, now with w
        pushed : A.Value
        pushed = ways_worth A s (earlier ++ w ∷ [])

        shift : (x : A.Value) → A.join pushed x ≡ A.join B (A.join W x)
        shift x = ap (λ y. A.join y x) (ways_push earlier w) ∙ L.join_assoc W B x ∙ join_left_comm A L W B x

        go : A.join pushed (ways_worth A s more) ≡ A.join pushed (ways_worth A s ws) → (t : Bool) → keeps w earlier ≡ t → A.join B (ways_worth A s (cond t (w ∷ more) more)) ≡ A.join B (A.join W (ways_worth A s ws))
        go a true e = sym (shift _) ∙ a ∙ shift _
        go a false e = ap (λ y. A.join y (ways_worth A s more)) (sym (ways_push earlier w ∙ dropped w earlier e)) ∙ a ∙ shift _

    pub kept_worth : (ws : List Way) → ways_worth A s (kept ws) ≡ ways_worth A s ws
    kept_worth ws = sym (join_bottom_left A L _) ∙ kept_after_worth ws [] ∙ join_bottom_left A L _
