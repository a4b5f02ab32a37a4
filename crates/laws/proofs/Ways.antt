-- Ways divided in two, by a literal that they hold or by the literal that they begin with: what the kinds are worth together, and how many
-- literals they have.
use Rattle.std.proofs.Common.{◌≡◌, ℕ, suc, ◌+◌, ◌<◌, ◌≤◌, Bool, true, false, cond, not, ◌||◌, List, [], ◌∷◌, map, length, filter, sym, refl, ap, ◌∙◌, arith}
use Rattle.std.proofs.lemmas.Bool.{false≢true}
use Rattle.rack.specs.declared.part.Literal.{Literal}
use Rattle.rack.specs.declared.part.Sign.{Sign}
use Rattle.rack.specs.declared.part.Sign.TheVariants.{Works, Out}
use Rattle.rack.specs.Way.{Way}
use Rattle.table.specs.Kept.{same_literal, holds, literals}
use Rattle.table.proofs.KeptWays.{decides_literal}
use Rattle.definitions.specs.Combine.{choose}
use Rattle.definitions.specs.Sound.{Legal}
use Rattle.working.specs.Records.{lacking, has_empty, size, signed, operand_of}
use Rattle.decomposition.specs.Decomposition.{working_of, out_of, under, beside}
use Rattle.merging.specs.Merging.{rests_of}
use Rattle.algebra.specs.Algebra.{Algebra, Lattice}
use Rattle.algebra.specs.Worth.{Settings, operand_worth, signed_worth, literal_worth, way_worth, ways_worth}
use Rattle.laws.proofs.Lattices.{meet_bottom, join_top_left, join_top, meet_same_left, join_left_comm, meet_left_comm}

pub literal_legal : (n : ℕ) (l : Literal) → Legal n (operand_of l)
literal_legal n l = by l.sign
  where
    by : (g : Sign) → Legal n (signed g l.part)
    by Works = tt
    by Out = tt

pub same_literal_is : (l h : Literal) → same_literal l h ≡ true → l ≡ h
same_literal_is l h e = (decides_literal l h).0 e

pub literal_self : (l : Literal) → same_literal l l ≡ true
literal_self l = (decides_literal l l).1 refl

-- the ways that do not begin with h
abbrev pub others_of : Literal → List Way → List Way
others_of h [] = []
others_of h ([] ∷ ws) = [] ∷ others_of h ws
others_of h ((g ∷ w) ∷ ws) = choose (same_literal g h) (others_of h ws) ((g ∷ w) ∷ others_of h ws)

-- ---- what the kinds are worth
module _ (A : Algebra) (L : Lattice A) (s : Settings A) where
  pub literal_worth_is : (vs : List A.Value) (l : Literal) → operand_worth A s vs (operand_of l) ≡ literal_worth A s l
  literal_worth_is vs l = by l.sign
    where
      by : (g : Sign) → operand_worth A s vs (signed g l.part) ≡ signed_worth A g (s l.part.0)
      by Works = refl
      by Out = refl

  pub empty_top : (ws : List Way) → has_empty ws ≡ true → ways_worth A s ws ≡ A.top
  empty_top [] e = absurd (false≢true e)
  empty_top ([] ∷ ws) e = join_top_left A L _
  empty_top ((l ∷ w) ∷ ws) e = ap (A.join (way_worth A s (l ∷ w))) (empty_top ws e) ∙ join_top A L _

  split_more : (x p u b r : A.Value) → A.join (A.meet x u) b ≡ r → A.join (A.meet x (A.join p u)) b ≡ A.join (A.meet x p) r
  split_more x p u b r e = ap (λ y. A.join y b) (L.distributes x p u) ∙ L.join_assoc _ _ _ ∙ ap (A.join (A.meet x p)) e

  split_past : (x p u b r : A.Value) → A.join (A.meet x u) b ≡ r → A.join (A.meet x u) (A.join p b) ≡ A.join p r
  split_past x p u b r e = join_left_comm A L _ _ _ ∙ ap (A.join p) e

  module _ (h : Literal) where
    abbrev x : A.Value
    x = literal_worth A s h

    lacking_same : (w : Way) → A.meet x (way_worth A s (lacking h w)) ≡ A.meet x (way_worth A s w)
    lacking_same [] = refl
    lacking_same (l ∷ w) = go (lacking_same w) (same_literal l h) refl
      where
        go : A.meet x (way_worth A s (lacking h w)) ≡ A.meet x (way_worth A s w) → (t : Bool) → same_literal l h ≡ t → A.meet x (way_worth A s (cond (not t) (l ∷ lacking h w) (lacking h w))) ≡ A.meet x (A.meet (literal_worth A s l) (way_worth A s w))
        go a true e = a ∙ sym (ap (λ q. A.meet x (A.meet (literal_worth A s q) (way_worth A s w))) (same_literal_is l h e) ∙ meet_same_left A L _ _)
        go a false e = meet_left_comm A L _ _ _ ∙ ap (A.meet (literal_worth A s l)) a ∙ meet_left_comm A L _ _ _

    pub holds_below : (w : Way) → holds h w ≡ true → A.meet x (way_worth A s w) ≡ way_worth A s w
    holds_below [] e = absurd (false≢true e)
    holds_below (l ∷ w) e = go (holds_below w) (same_literal l h) refl e
      where
        go : (holds h w ≡ true → A.meet x (way_worth A s w) ≡ way_worth A s w) → (t : Bool) → same_literal l h ≡ t → (t || holds h w) ≡ true → A.meet x (A.meet (literal_worth A s l) (way_worth A s w)) ≡ A.meet (literal_worth A s l) (way_worth A s w)
        go a true e f = ap (λ y. A.meet y (A.meet (literal_worth A s l) (way_worth A s w))) (ap (literal_worth A s) (sym (same_literal_is l h e))) ∙ meet_same_left A L _ _
        go a false e f = meet_left_comm A L _ _ _ ∙ ap (A.meet (literal_worth A s l)) (a f)

    -- the ways that hold h, and those that do not
    pub parted : (ws : List Way) → A.join (A.meet (literal_worth A s h) (ways_worth A s (under h ws))) (ways_worth A s (beside h ws)) ≡ ways_worth A s ws
    parted [] = L.join_bottom _ ∙ meet_bottom A L _
    parted (w ∷ ws) = go (parted ws) (holds h w) refl
      where
        go : A.join (A.meet x (ways_worth A s (under h ws))) (ways_worth A s (beside h ws)) ≡ ways_worth A s ws → (t : Bool) → holds h w ≡ t
            → A.join (A.meet x (ways_worth A s (map (lacking h) (cond t (w ∷ filter (holds h) ws) (filter (holds h) ws))))) (ways_worth A s (cond (not t) (w ∷ beside h ws) (beside h ws))) ≡ A.join (way_worth A s w) (ways_worth A s ws)
        go a true e = split_more _ _ _ _ _ a ∙ ap (λ y. A.join y (ways_worth A s ws)) (lacking_same w ∙ holds_below w e)
        go a false e = split_past _ _ _ _ _ a

    -- the ways that begin with h, and those that do not
    pub grouped : (ws : List Way) → A.join (A.meet (literal_worth A s h) (ways_worth A s (rests_of h ws))) (ways_worth A s (others_of h ws)) ≡ ways_worth A s ws
    grouped [] = L.join_bottom _ ∙ meet_bottom A L _
    grouped ([] ∷ ws) = split_past _ _ _ _ _ (grouped ws)
    grouped ((g ∷ w) ∷ ws) = go (grouped ws) (same_literal g h) refl
      where
        go : A.join (A.meet x (ways_worth A s (rests_of h ws))) (ways_worth A s (others_of h ws)) ≡ ways_worth A s ws → (t : Bool) → same_literal g h ≡ t
            → A.join (A.meet x (ways_worth A s (choose t (w ∷ rests_of h ws) (rests_of h ws)))) (ways_worth A s (choose t (others_of h ws) ((g ∷ w) ∷ others_of h ws))) ≡ A.join (way_worth A s (g ∷ w)) (ways_worth A s ws)
        go a true e = split_more _ _ _ _ _ a ∙ ap (λ q. A.join (A.meet (literal_worth A s q) (way_worth A s w)) (ways_worth A s ws)) (sym (same_literal_is g h e))
        go a false e = split_past _ _ _ _ _ a

-- ---- how many literals the kinds have
module _ (h : Literal) where
  lacking_le : (w : Way) → length (lacking h w) ≤ length w
  lacking_le [] = omega arith
  lacking_le (l ∷ w) = go (lacking_le w) (same_literal l h)
    where
      go : length (lacking h w) ≤ length w → (t : Bool) → length (cond (not t) (l ∷ lacking h w) (lacking h w)) ≤ suc (length w)
      go a true = omega arith
      go a false = omega arith

  lacking_lt : (w : Way) → holds h w ≡ true → length (lacking h w) < length w
  lacking_lt [] e = absurd (false≢true e)
  lacking_lt (l ∷ w) e = go (lacking_lt w) (lacking_le w) (same_literal l h) e
    where
      go : (holds h w ≡ true → length (lacking h w) < length w) → length (lacking h w) ≤ length w → (t : Bool) → (t || holds h w) ≡ true → length (cond (not t) (l ∷ lacking h w) (lacking h w)) < suc (length w)
      go a c true f = omega arith
      go a c false f = let b = a f in omega arith

  pub literals_split : (ws : List Way) → literals (under h ws) + length (under h ws) + literals (beside h ws) ≤ literals ws
  literals_split [] = omega arith
  literals_split (w ∷ ws) = go (literals_split ws) (holds h w) refl
    where
      held : Bool → List Way
      held t = map (lacking h) (cond t (w ∷ filter (holds h) ws) (filter (holds h) ws))

      go : literals (under h ws) + length (under h ws) + literals (beside h ws) ≤ literals ws → (t : Bool) → holds h w ≡ t → literals (held t) + length (held t) + literals (cond (not t) (w ∷ beside h ws) (beside h ws)) ≤ length w + literals ws
      go a true e = let b = lacking_lt w e in omega arith
      go a false e = omega arith

  pub literals_groups : (ws : List Way) → literals (rests_of h ws) + literals (others_of h ws) ≤ literals ws
  literals_groups [] = omega arith
  literals_groups ([] ∷ ws) = omega (arith, literals_groups ws)
  literals_groups ((g ∷ w) ∷ ws) = go (literals_groups ws) (same_literal g h)
    where
      go : literals (rests_of h ws) + literals (others_of h ws) ≤ literals ws → (t : Bool)
          → literals (choose t (w ∷ rests_of h ws) (rests_of h ws)) + literals (choose t (others_of h ws) ((g ∷ w) ∷ others_of h ws)) ≤ suc (length w) + literals ws
      go a true = omega arith
      go a false = omega arith

  pub size_others : (ws : List Way) → size (others_of h ws) ≤ size ws
  size_others [] = omega arith
  size_others ([] ∷ ws) = omega (arith, size_others ws)
  size_others ((g ∷ w) ∷ ws) = go (size_others ws) (same_literal g h)
    where
      go : size (others_of h ws) ≤ size ws → (t : Bool) → size (choose t (others_of h ws) ((g ∷ w) ∷ others_of h ws)) ≤ size ((g ∷ w) ∷ ws)
      go a true = omega arith
      go a false = omega arith

  -- each way loses its first literal, or is left out
  pub size_rests : (ws : List Way) → size (rests_of h ws) + length ws ≤ size ws
  size_rests [] = omega arith
  size_rests ([] ∷ ws) = omega (arith, size_rests ws)
  size_rests ((g ∷ w) ∷ ws) = go (size_rests ws) (same_literal g h)
    where
      go : size (rests_of h ws) + length ws ≤ size ws → (t : Bool) → size (choose t (w ∷ rests_of h ws) (rests_of h ws)) + length ((g ∷ w) ∷ ws) ≤ size ((g ∷ w) ∷ ws)
      go a true = omega arith
      go a false = omega arith

  pub others_unmarked : (ws : List Way) → has_empty ws ≡ false → has_empty (others_of h ws) ≡ false
  others_unmarked [] e = refl
  others_unmarked ([] ∷ ws) e = e
  others_unmarked ((g ∷ w) ∷ ws) e = go (others_unmarked ws e) (same_literal g h)
    where
      go : has_empty (others_of h ws) ≡ false → (t : Bool) → has_empty (choose t (others_of h ws) ((g ∷ w) ∷ others_of h ws)) ≡ false
      go a true = a
      go a false = a

-- the first way holds the part of its first literal, working or out
pub first_held : (l : Literal) (w : Way) (ws : List Way) → 1 ≤ length (under (working_of l.part) ((l ∷ w) ∷ ws)) + length (under (out_of l.part) (beside (working_of l.part) ((l ∷ w) ∷ ws)))
first_held l w ws = go (holds f (l ∷ w)) refl l.sign refl
  where
    f : Literal
    f = working_of l.part

    g : Literal
    g = out_of l.part

    goal : Bool → Type 0
    goal t = 1 ≤ length (map (lacking f) (cond t ((l ∷ w) ∷ filter (holds f) ws) (filter (holds f) ws))) + length (under g (cond (not t) ((l ∷ w) ∷ beside f ws) (beside f ws)))

    found : (i : Sign) → l.sign ≡ i → holds (record { part = l.part; sign = i }) (l ∷ w) ≡ true
    found i e =
        let h : Literal = record { part = l.part; sign = i } in
        ap (λ t. t || holds h w) ((decides_literal l h).1 (λ k. record { part = l.part; sign = e k }))

    once : (t : Bool) → t ≡ true → 1 ≤ length (map (lacking g) (cond t ((l ∷ w) ∷ filter (holds g) (beside f ws)) (filter (holds g) (beside f ws))))
    once true e = omega arith
    once false e = absurd (false≢true e)

    go : (t : Bool) → holds f (l ∷ w) ≡ t → (i : Sign) → l.sign ≡ i → goal t
    go true e i d = omega arith
    go false e Works d = absurd (false≢true (sym e ∙ found Works d))
    go false e Out d = omega (arith, once (holds g (l ∷ w)) (found Out d))
