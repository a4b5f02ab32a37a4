-- The places of a way, one at a time: its first literal, whether it holds one, and what is left lacking one.
use Rattle.std.proofs.Common.{◌≡◌, ℕ, ◌+◌, ◌<◌, ◌≤◌, Bool, true, false, cond, not, ◌||◌, List, [], ◌∷◌, ◌++◌, map, length, get_or, take, drop, set, Some, None, Decides, Option, sym, refl, ap, ◌∙◌, arith}
use Rattle.std.proofs.lemmas.List.{at_drop_more, append-nil, length-append, length-map, length-drop, length-take-le, take_all, drop_all, get_or_default}
use Rattle.std.proofs.lemmas.List.Edits.{map_over_more}
use Rattle.std.proofs.lemmas.Bool.{false≢true}
use Rattle.std.proofs.lemmas.Bool.Decides.{same_from_decides, Decides-like}
use Rattle.std.specs.List.{list_any}
use Rattle.std.specs.Option.{option_eq}
use Rattle.rack.specs.declared.part.Literal.{Literal}
use Rattle.rack.specs.Way.{Way}
use Rattle.table.specs.Kept.{same_literal, holds}
use Rattle.table.proofs.KeptWays.{decides_literal}
use Rattle.working.specs.Records.{left_in, lacking, first_of}

-- whether a place holds m
abbrev pub is_at : Literal → Option Literal → Bool
is_at m None = false
is_at m (Some l) = same_literal l m

pub is_at_decided : (m : Literal) (o : Option Literal) (r : Bool) → Decides r (o ≡ Some m) → r ≡ is_at m o
is_at_decided m None r d = same_from_decides r false d ((λ e. absurd (false≢true e)), (λ e. absurd (let z : ◌≡◌ {A = ℕ} 0 1 = cc in omega arith)))
is_at_decided m (Some l) r d = same_from_decides r (same_literal l m) d (Decides-like _ (λ e. ap (λ x. Some x) e) (λ e. cc) (decides_literal l m))

-- e tells the literals that are the same as m
pub is_at_where : (m : Literal) (e : Literal → Literal → Bool) → ((l : Literal) → e l m ≡ same_literal l m) → (o : Option Literal) → option_eq e o (Some m) ≡ is_at m o
is_at_where m e f None = refl
is_at_where m e f (Some l) = f l

abbrev blanked : Bool → Option Literal → Option Literal
blanked true o = None
blanked false o = o

-- a place once a literal is gone
abbrev pub cleared : Literal → Option Literal → Option Literal
cleared m o = blanked (is_at m o) o

at_some : (m l : Literal) (s : List (Option Literal)) (rest : Way) → left_in s ≡ rest → (t : Bool) → left_in (blanked t (Some l) ∷ s) ≡ cond (not t) (l ∷ rest) rest
at_some m l s rest e true = e
at_some m l s rest e false = ap (λ w. l ∷ w) e

pub left_cleared : (m : Literal) (s : List (Option Literal)) → left_in (map (cleared m) s) ≡ lacking m (left_in s)
left_cleared m [] = refl
left_cleared m (None ∷ s) = left_cleared m s
left_cleared m (Some l ∷ s) = at_some m l (map (cleared m) s) (lacking m (left_in s)) (left_cleared m s) (same_literal l m)

pub holds_here : (m : Literal) (o : Option Literal) (s : List (Option Literal)) → is_at m o ≡ true → holds m (left_in (o ∷ s)) ≡ true
holds_here m None s e = absurd (false≢true e)
holds_here m (Some l) s e = ap (λ t. t || holds m (left_in s)) e

pub holds_past : (m : Literal) (o : Option Literal) (s : List (Option Literal)) → is_at m o ≡ false → holds m (left_in (o ∷ s)) ≡ holds m (left_in s)
holds_past m None s e = refl
holds_past m (Some l) s e = ap (λ t. t || holds m (left_in s)) e

-- p tells the places that hold m
pub holds_where : (m : Literal) (p : Option Literal → Bool) → p None ≡ false → ((l : Literal) → p (Some l) ≡ same_literal l m) → (ps : List (Option Literal)) → list_any p ps ≡ holds m (left_in ps)
holds_where m p e f [] = refl
holds_where m p e f (None ∷ s) = ap (λ t. t || list_any p s) e ∙ holds_where m p e f s
holds_where m p e f (Some l ∷ s) = λ i. f l i || holds_where m p e f s i

module _ (ps : List (Option Literal)) (i : ℕ) (d : Option Literal) (lt : i < length ps) where
  pub first_at : (l : Literal) → get_or ps i d ≡ Some l → first_of (left_in (drop i ps)) ≡ Some l
  first_at l e = at_drop_more (λ s. first_of (left_in s)) ps i d lt ∙ ap (λ o. first_of (left_in (o ∷ drop (i + 1) ps))) e

  pub first_later : get_or ps i d ≡ None → first_of (left_in (drop i ps)) ≡ first_of (left_in (drop (i + 1) ps))
  first_later e = at_drop_more (λ s. first_of (left_in s)) ps i d lt ∙ ap (λ o. first_of (left_in (o ∷ drop (i + 1) ps))) e

  pub holds_at : (m : Literal) → is_at m (get_or ps i d) ≡ true → holds m (left_in (drop i ps)) ≡ true
  holds_at m e = at_drop_more (λ s. holds m (left_in s)) ps i d lt ∙ holds_here m (get_or ps i d) (drop (i + 1) ps) e

  pub holds_later : (m : Literal) → is_at m (get_or ps i d) ≡ false → holds m (left_in (drop i ps)) ≡ holds m (left_in (drop (i + 1) ps))
  holds_later m e = at_drop_more (λ s. holds m (left_in s)) ps i d lt ∙ holds_past m (get_or ps i d) (drop (i + 1) ps) e

over_long : (f : Option Literal → Option Literal) (xs ys : List (Option Literal)) (i : ℕ) → i ≤ length xs → ys ≡ map f (take i xs) ++ drop i xs → length ys ≡ length xs
over_long f xs ys i le e = ap length e ∙ length-append (map f (take i xs)) (drop i xs) ∙ simp (length-map, length-drop, length-take-le i xs le) (omega arith)

clear_over : (m : Literal) (xs ys : List (Option Literal)) (i : ℕ) (d : Option Literal) → i < length xs → ys ≡ map (cleared m) (take i xs) ++ drop i xs → set ys i (cleared m (get_or ys i d)) ≡ map (cleared m) (take (i + 1) xs) ++ drop (i + 1) xs
clear_over m xs ys i d lt e =
    let long : length ys ≡ length xs = over_long (cleared m) xs ys i (omega arith) e in
    map_over_more (cleared m) xs ys i (get_or ys i d) lt e (get_or_default ys i d (get_or ys i d) (omega arith))

pub clears : (m : Literal) (xs ys zs : List (Option Literal)) (i : ℕ) (d : Option Literal) → i < length xs → ys ≡ map (cleared m) (take i xs) ++ drop i xs → is_at m (get_or ys i d) ≡ true → zs ≡ set ys i None → zs ≡ map (cleared m) (take (i + 1) xs) ++ drop (i + 1) xs
clears m xs ys zs i d lt e t p = p ∙ ap (λ b. set ys i (blanked b (get_or ys i d))) (sym t) ∙ clear_over m xs ys i d lt e

pub spares_place : (m : Literal) (xs ys zs : List (Option Literal)) (i : ℕ) (d : Option Literal) → i < length xs → ys ≡ map (cleared m) (take i xs) ++ drop i xs → is_at m (get_or ys i d) ≡ false → zs ≡ set ys i (get_or ys i d) → zs ≡ map (cleared m) (take (i + 1) xs) ++ drop (i + 1) xs
spares_place m xs ys zs i d lt e t p = p ∙ ap (λ b. set ys i (blanked b (get_or ys i d))) (sym t) ∙ clear_over m xs ys i d lt e

pub cleared_all : (m : Literal) (xs ys : List (Option Literal)) (i : ℕ) → length xs ≤ i → ys ≡ map (cleared m) (take i xs) ++ drop i xs → left_in ys ≡ lacking m (left_in xs)
cleared_all m xs ys i h e = ap left_in (e ∙ (λ j. map (cleared m) (take_all i xs h j) ++ drop_all i xs h j) ∙ append-nil (map (cleared m) xs)) ∙ left_cleared m xs
