-- The heads of ways, one after another: what each is worth with its rests comes to what the ways are worth, and the heads and rests have no
-- more literals than the ways. It goes by the first head, and then by the ways that begin otherwise.
use Rattle.std.proofs.Common.{◌≡◌, ℕ, zero, suc, ◌+◌, ◌≤◌, Bool, true, false, ◌||◌, List, [], ◌∷◌, ◌++◌, sym, refl, ap, ◌∙◌, ap₂, arith}
use Rattle.std.specs.List.{AllByRecursion}
use Rattle.std.proofs.ByRecursion.{All-push, All-weaker}
use Rattle.std.proofs.lemmas.Bool.{false≢true}
use Rattle.rack.specs.declared.part.Literal.{Literal}
use Rattle.rack.specs.Way.{Way}
use Rattle.table.specs.Kept.{same_literal, literals}
use Rattle.table.proofs.KeptWays.{decides_literal, other}
use Rattle.definitions.specs.Combine.{choose}
use Rattle.working.specs.Records.{has_empty, size}
use Rattle.merging.specs.Merging.{is_in, heads_after, rests_of, heads}
use Rattle.algebra.specs.Algebra.{Algebra, Lattice}
use Rattle.algebra.specs.Worth.{Settings, literal_worth, way_worth, ways_worth}
use Rattle.laws.proofs.Ways.{same_literal_is, literal_self, others_of, grouped, literals_groups, size_others, others_unmarked}

other_way : (l h : Literal) (t : Bool) → same_literal l h ≡ t → same_literal h l ≡ t
other_way l h true e = (decides_literal h l).1 (sym (same_literal_is l h e))
other_way l h false e = other h l (λ f. false≢true (sym e ∙ (decides_literal l h).1 (sym f)))

abbrev from : List Literal → List Way → List Literal
from gs ws = heads_after same_literal gs ws

-- the first head, and then those of the ways that begin otherwise
heads_first : (h : Literal) (gs : List Literal) (ws : List Way) → from (h ∷ gs) ws ≡ h ∷ from gs (others_of h ws)
heads_first h gs [] = refl
heads_first h gs ([] ∷ ws) = heads_first h gs ws
heads_first h gs ((g ∷ w) ∷ ws) = go (heads_first h gs ws) (heads_first h (gs ++ g ∷ []) ws) (same_literal g h) refl (is_in same_literal g gs) refl
  where
    after : Bool → List Literal
    after t = choose t (from (h ∷ gs) ws) (from (h ∷ (gs ++ g ∷ [])) ws)

    -- t: g is h; u: g is among gs
    go : from (h ∷ gs) ws ≡ h ∷ from gs (others_of h ws) → from (h ∷ (gs ++ g ∷ [])) ws ≡ h ∷ from (gs ++ g ∷ []) (others_of h ws)
        → (t : Bool) → same_literal g h ≡ t → (u : Bool) → is_in same_literal g gs ≡ u
        → after (same_literal h g || is_in same_literal g gs) ≡ h ∷ from gs (choose t (others_of h ws) ((g ∷ w) ∷ others_of h ws))
    go a b true e u f = ap (λ x. after (x || is_in same_literal g gs)) (other_way g h true e) ∙ a
    go a b false e true f =
        ap (λ x. after (x || is_in same_literal g gs)) (other_way g h false e) ∙ ap after f ∙ a
        ∙ sym (ap (λ x. h ∷ choose x (from gs (others_of h ws)) (from (gs ++ g ∷ []) (others_of h ws))) f)
    go a b false e false f =
        ap (λ x. after (x || is_in same_literal g gs)) (other_way g h false e) ∙ ap after f ∙ b
        ∙ sym (ap (λ x. h ∷ choose x (from gs (others_of h ws)) (from (gs ++ g ∷ []) (others_of h ws))) f)

abbrev Not : Literal → Literal → Type 0
Not h g = same_literal g h ≡ false

-- no head of the others is h
heads_not : (h : Literal) (ws : List Way) (gs : List Literal) → AllByRecursion (Not h) gs → AllByRecursion (Not h) (from gs (others_of h ws))
heads_not h [] gs a = a
heads_not h ([] ∷ ws) gs a = heads_not h ws gs a
heads_not h ((g ∷ w) ∷ ws) gs a = go (heads_not h ws) (same_literal g h) refl
  where
    go : ((ls : List Literal) → AllByRecursion (Not h) ls → AllByRecursion (Not h) (from ls (others_of h ws))) → (t : Bool) → same_literal g h ≡ t → AllByRecursion (Not h) (from gs (choose t (others_of h ws) ((g ∷ w) ∷ others_of h ws)))
    go r true e = r gs a
    go r false e = new (is_in same_literal g gs)
      where
        new : (u : Bool) → AllByRecursion (Not h) (choose u (from gs (others_of h ws)) (from (gs ++ g ∷ []) (others_of h ws)))
        new true = r gs a
        new false = r (gs ++ g ∷ []) (All-push (Not h) gs g a e)

-- what follows another head is the same among the others
rests_others : (h g : Literal) → Not h g → (ws : List Way) → rests_of g ws ≡ rests_of g (others_of h ws)
rests_others h g n [] = refl
rests_others h g n ([] ∷ ws) = rests_others h g n ws
rests_others h g n ((l ∷ w) ∷ ws) = go (rests_others h g n ws) (same_literal l h) refl
  where
    go : rests_of g ws ≡ rests_of g (others_of h ws) → (t : Bool) → same_literal l h ≡ t → choose (same_literal l g) (w ∷ rests_of g ws) (rests_of g ws) ≡ rests_of g (choose t (others_of h ws) ((l ∷ w) ∷ others_of h ws))
    go a true e = ap (λ x. choose x (w ∷ rests_of g ws) (rests_of g ws)) (ap (λ x. same_literal x g) (same_literal_is l h e) ∙ other_way g h false n) ∙ a
    go a false e = ap (λ r. choose (same_literal l g) (w ∷ r) r) a

-- the first way begins with h
module _ (h : Literal) (w : Way) (ws : List Way) where
  abbrev all : List Way
  all = (h ∷ w) ∷ ws

  heads_are : heads all ≡ h ∷ heads (others_of h ws)
  heads_are = heads_first h [] ws

  own : rests_of h all ≡ w ∷ rests_of h ws
  own = ap (λ t. choose t (w ∷ rests_of h ws) (rests_of h ws)) (literal_self h)

  rest_alike : AllByRecursion (λ g. rests_of g all ≡ rests_of g (others_of h ws)) (heads (others_of h ws))
  rest_alike =
      All-weaker (Not h) (λ g. rests_of g all ≡ rests_of g (others_of h ws)) (λ g n. ap (λ t. choose t (w ∷ rests_of g ws) (rests_of g ws)) (other_way g h false n) ∙ rests_others h g n ws) (heads (others_of h ws))
      (heads_not h ws [] tt)

-- how many literals some heads and their rests have
abbrev pub heads_literals : List Way → List Literal → ℕ
heads_literals ws [] = 0
heads_literals ws (h ∷ hs) = 1 + literals (rests_of h ws) + heads_literals ws hs

literals_alike : (us ws : List Way) (hs : List Literal) → AllByRecursion (λ g. rests_of g us ≡ rests_of g ws) hs → heads_literals us hs ≡ heads_literals ws hs
literals_alike us ws [] a = refl
literals_alike us ws (h ∷ hs) a = ap₂ (λ x n. 1 + literals x + n) a.0 (literals_alike us ws hs a.1)

literals_in : (n : ℕ) (ws : List Way) → size ws ≤ n → has_empty ws ≡ false → heads_literals ws (heads ws) ≤ literals ws
literals_in n [] l e = omega arith
literals_in n ([] ∷ ws) l e = absurd (false≢true (sym e))
literals_in zero ((h ∷ w) ∷ ws) l e = absurd (omega arith)
literals_in (suc n) ((h ∷ w) ∷ ws) l e =
    let us = others_of h ws in
    let below = literals_in n us (omega (arith, size_others h ws)) (others_unmarked h ws e) in
    omega (
      arith,
      ap (heads_literals (all h w ws)) (heads_are h w ws),
      ap literals (own h w ws),
      literals_alike (all h w ws) us (heads us) (rest_alike h w ws),
      literals_groups h ws,
    )

-- no more than the ways have, where none is empty
pub heads_literals_bound : (ws : List Way) → has_empty ws ≡ false → heads_literals ws (heads ws) ≤ literals ws
heads_literals_bound ws e = literals_in (size ws) ws (omega arith) e

module _ (A : Algebra) (L : Lattice A) (s : Settings A) where
  -- what some heads with their rests are worth
  abbrev pub heads_worth : List Way → List Literal → A.Value
  heads_worth ws [] = A.bottom
  heads_worth ws (h ∷ hs) = A.join (A.meet (literal_worth A s h) (ways_worth A s (rests_of h ws))) (heads_worth ws hs)

  worth_alike : (us ws : List Way) (hs : List Literal) → AllByRecursion (λ g. rests_of g us ≡ rests_of g ws) hs → heads_worth us hs ≡ heads_worth ws hs
  worth_alike us ws [] a = refl
  worth_alike us ws (h ∷ hs) a = ap₂ (λ x v. A.join (A.meet (literal_worth A s h) (ways_worth A s x)) v) a.0 (worth_alike us ws hs a.1)

  worth_in : (n : ℕ) (ws : List Way) → size ws ≤ n → has_empty ws ≡ false → heads_worth ws (heads ws) ≡ ways_worth A s ws
  worth_in n [] l e = refl
  worth_in n ([] ∷ ws) l e = absurd (false≢true (sym e))
  worth_in zero ((h ∷ w) ∷ ws) l e = absurd (omega arith)
  worth_in (suc n) ((h ∷ w) ∷ ws) l e =
      let us = others_of h ws in
      let x = literal_worth A s h in
      ap (heads_worth (all h w ws)) (heads_are h w ws)
      ∙ ap₂ (λ r v. A.join (A.meet x (ways_worth A s r)) v) (own h w ws) (worth_alike (all h w ws) us (heads us) (rest_alike h w ws) ∙ worth_in n us (omega (arith, size_others h ws)) (others_unmarked h ws e))
      ∙ ap (λ y. A.join y (ways_worth A s us)) (L.distributes _ _ _)
      ∙ L.join_assoc _ _ _
      ∙ ap (A.join (way_worth A s (h ∷ w))) (grouped A L s h ws)

  -- what the ways are worth, where none is empty
  pub heads_worth_is : (ws : List Way) → has_empty ws ≡ false → heads_worth ws (heads ws) ≡ ways_worth A s ws
  heads_worth_is ws e = worth_in (size ws) ws (omega arith) e
