-- A line's digits and a way's bytes by their pairs: what each pair gives, and what all of them come to.
use Rattle.std.proofs.Common.{◌≡◌, ℕ, suc, ◌+◌, ◌/◌, ◌<◌, ◌≤◌, false, if◌then◌else◌, List, [], ◌∷◌, ◌++◌, length, get_or, take, drop, set, map, Some, None, Ok, Err, Option, Result, min, sym, refl, ap, ◌∙◌, subst, append_assoc, append-nil, arith, Bor}
use Rattle.std.proofs.lemmas.List.{take_more, take_more_set, take_all, get_or-take, get_or-map, length-map, drop-set-lt, drop-drop, at_drop_more, at_drop_all}
use Rattle.std.specs.Option.{ok_or}
use Rattle.std.specs.Simd.{first_chunks}
use Rattle.rack.specs.declared.part.Literal.{Literal}
use Rattle.rack.specs.declared.part.NoSign.{NoSign}
use Rattle.rack.specs.declared.part.Sign.{Sign}
use Rattle.rack.specs.declared.refusal.Refusal.{Refusal}
use Rattle.rack.specs.declared.refusal.Refusal.TheVariants.{LineLength, UnknownSign}
use Rattle.rack.specs.Sign.{sign_of}
use Rattle.rack.specs.Way.{Way}
use Rattle.rack.specs.declared.refusal.Position.{Position}
use Rattle.text.specs.declared.frame.Frame.{Frame}
use Rattle.text.specs.declared.frame.Frame.TheVariants as frame
use Rattle.text.specs.Digits.{byte_of, decoded}
use Rattle.text.specs.Frames.{at, bad_length, no_digit, by_digits, checked, followed, frame_at, place, literal, before, literals_from, literals_at, rising, way_of_frame, way_at}
use Rattle.text.specs.Seen.{digits_of, seen_frame}

-- a line of a right length
pub refused_by_digits : (line : ℕ) (bs : List ℕ) → bad_length (length bs) ≡ false → checked line bs ≡ by_digits line (no_digit bs)
refused_by_digits line bs e = ap (λ t. (if t then Err (LineLength (at line 1)) else by_digits line (no_digit bs))) e

abbrev pub pairs : List ℕ → List (List ℕ)
pairs xs = first_chunks 2 (length xs / 2) xs

abbrev pub byte_at : List ℕ → ℕ
byte_at p = byte_of (get_or p 0 0) (get_or p 1 0)

pub decoded_pairs : (xs : List ℕ) → decoded xs ≡ map byte_at (pairs xs)
decoded_pairs [] = refl
decoded_pairs (a ∷ []) = refl
decoded_pairs (a ∷ b ∷ xs) =
    let more : length (a ∷ b ∷ xs) / 2 ≡ suc (length xs / 2) = omega arith in
    ap (λ (bs : List ℕ). byte_of a b ∷ bs) (decoded_pairs xs) ∙ sym (ap (λ n. map byte_at (first_chunks 2 n (a ∷ b ∷ xs))) more)

-- literals in front of those that are still to be read
abbrev pub behind : Way → Result Way Refusal → Result Way Refusal
behind w (Ok v) = Ok (w ++ v)
behind w (Err e) = Err e

-- the literals of pairs, from literal k on, or the first sign above 01
abbrev pub literals_of : ℕ → ℕ → List (List ℕ) → Result Way Refusal
literals_of line k [] = Ok []
literals_of line k (p ∷ ps) = elim (sign_of (get_or p 0 0)) [ Some g ↦ before (literal (get_or p 1 0) g) (literals_of line (k + 1) ps) | None ↦ Err (UnknownSign (place line k)) ]

abbrev by_sign : ℕ → ℕ → ℕ → Option Sign → Result Way Refusal → Result Way Refusal
by_sign line k part o rest = elim o [ Some g ↦ before (literal part g) rest | None ↦ Err (UnknownSign (place line k)) ]

pub literals_from_pairs : (line k : ℕ) (xs : List ℕ) → literals_from line k xs ≡ literals_of line k (pairs xs)
literals_from_pairs line k [] = refl
literals_from_pairs line k (a ∷ []) = refl
literals_from_pairs line k (a ∷ b ∷ xs) =
    let more : length (a ∷ b ∷ xs) / 2 ≡ suc (length xs / 2) = omega arith in
    ap (by_sign line k b (sign_of a)) (literals_from_pairs line (k + 1) xs) ∙ sym (ap (λ n. literals_of line k (first_chunks 2 n (a ∷ b ∷ xs))) more)

-- ---- a turn of the loop over the pairs of a line's digits, of which n fit
pub put_byte : (xs : List ℕ) (ps : List (List ℕ)) → ps ≡ pairs xs → (n : ℕ) → n ≤ length ps → (ys : List ℕ) (i : ℕ) → i < n → i < length ys → (b : ℕ) → b ≡ byte_at (get_or (take n ps) i []) → take i ys ≡ take i (decoded xs) → take (i + 1) (set ys i b) ≡ take (i + 1) (decoded xs)
put_byte xs ps is n few ys i inside room b e so =
    let all : decoded xs ≡ map byte_at ps = decoded_pairs xs ∙ ap (map byte_at) (sym is) in
    let here : i < length (map byte_at ps) = omega (arith, length-map ps byte_at) in
    let this : b ≡ get_or (map byte_at ps) i 0 = e ∙ ap byte_at (get_or-take n ps i [] inside) ∙ sym (get_or-map byte_at ps i [] 0 (omega arith)) in
    take_more_set ys i b room ∙ (λ j. (so ∙ ap (take i) all) j ++ this j ∷ []) ∙ sym (take_more (map byte_at ps) i 0 here) ∙ ap (take (i + 1)) (sym all)

pub rest_stays : (ys zs : List ℕ) (i b : ℕ) → i < length ys → length ys ≡ length zs → drop i ys ≡ drop i zs → drop (i + 1) (set ys i b) ≡ drop (i + 1) zs
rest_stays ys zs i b lt long so =
    let less : i < i + 1 = omega arith in
    drop-set-lt (i + 1) ys i b less ∙ sym (drop-drop 1 i ys) ∙ ap (drop 1) so ∙ drop-drop 1 i zs

-- ---- a turn of the loop over the pairs of a way's bytes
none_behind : (r : Result Way Refusal) → behind [] r ≡ r
none_behind (Ok v) = refl
none_behind (Err e) = refl

behind_one : (w : Way) (l : Literal) (r : Result Way Refusal) → behind (w ++ l ∷ []) r ≡ behind w (before l r)
behind_one w l (Ok v) = ap (λ (u : Way). Ok u) (append_assoc w (l ∷ []) v)
behind_one w l (Err e) = refl

no_sign : (o : Option Sign) (n x : NoSign) → Err n ≡ ok_or o x → o ≡ None
no_sign None n x e = refl
no_sign (Some g) n x e = cc

a_sign : (o : Option Sign) (g : Sign) (x : NoSign) → Ok g ≡ ok_or o x → o ≡ Some g
a_sign None g x e = cc
a_sign (Some h) g x e = cc

pub at_first : (line : ℕ) (xs : List ℕ) (ps : List (List ℕ)) → ps ≡ pairs xs → behind [] (literals_of line 0 ps) ≡ literals_from line 0 xs
at_first line xs ps e = none_behind (literals_of line 0 ps) ∙ ap (literals_of line 0) e ∙ sym (literals_from_pairs line 0 xs)

module _ (line : ℕ) (ps : List (List ℕ)) (k : ℕ) (all : Result Way Refusal) where
  module _ (lt : k < length ps) (x : NoSign) where
    abbrev sign_here : Option Sign
    sign_here = sign_of (get_or (get_or ps k []) 0 0)

    abbrev here : Option Sign → Result Way Refusal
    here o = by_sign line k (get_or (get_or ps k []) 1 0) o (literals_of line (k + 1) (drop (k + 1) ps))

    turn : literals_of line k (drop k ps) ≡ here sign_here
    turn = at_drop_more (literals_of line k) ps k [] lt

    pub wrong_sign : (ls : Way) (n : NoSign) → Err n ≡ ok_or sign_here x → behind ls (literals_of line k (drop k ps)) ≡ all → Err (UnknownSign (place line k)) ≡ all
    wrong_sign ls n e so = sym (ap (behind ls) (turn ∙ ap here (no_sign sign_here n x e))) ∙ so

    pub one_literal : (ls : Way) (g : Sign) → k < length ls → Ok g ≡ ok_or sign_here x → behind (take k ls) (literals_of line k (drop k ps)) ≡ all → behind (take (k + 1) (set ls k (literal (get_or (get_or ps k []) 1 0) g))) (literals_of line (k + 1) (drop (k + 1) ps)) ≡ all
    one_literal ls g room e so =
        let l = literal (get_or (get_or ps k []) 1 0) g in
        let later = literals_of line (k + 1) (drop (k + 1) ps) in
        ap (λ w. behind w later) (take_more_set ls k l room)
        ∙ behind_one (take k ls) l later
        ∙ sym (ap (behind (take k ls)) (turn ∙ ap here (a_sign sign_here g x e)))
        ∙ so

  pub all_literals : (ls : Way) → k ≡ length ps → k ≤ 24 → behind (take k ls) (literals_of line k (drop k ps)) ≡ all → Ok (take (min (length ps) 24) ls) ≡ all
  all_literals ls end few so =
      let same : min (length ps) 24 ≡ k = omega arith in
      ap (λ n. Ok (take n ls)) same
      ∙ ap (λ (w : Way). Ok w) (sym (append-nil (take k ls)))
      ∙ sym (ap (behind (take k ls)) (at_drop_all (literals_of line k) ps k (omega arith)))
      ∙ so

-- ---- a whole line
length_decoded : (xs : List ℕ) → length (decoded xs) ≡ length xs / 2
length_decoded [] = refl
length_decoded (a ∷ []) = omega arith
length_decoded (a ∷ b ∷ xs) = ap suc (length_decoded xs) ∙ omega arith

-- room for all bytes of a line: what is decoded is all of it
pub all_decoded : (xs ys : List ℕ) (n room : ℕ) → n ≡ min (length xs / 2) room → length xs / 2 ≤ room → take n ys ≡ take n (decoded xs) → take n ys ≡ decoded xs
all_decoded xs ys n room e le so = so ∙ take_all n (decoded xs) (omega (arith, length_decoded xs))

-- the frame f of a line is a way's with the digits ds, whose bytes stand in ys
module _ (line : ℕ) (text : List ℕ) {f : Frame} {p : Position} {ds : Bor (List ℕ)} (is : f ≡ frame.Way p ds) (read : Ok (seen_frame f) ≡ frame_at line text) (short : length (digits_of f) ≤ 98) where
  pub way_line : (ys : List ℕ) {n : ℕ} → n ≡ min (length ds.now / 2) 49 → take n ys ≡ take n (decoded ds.now) → {r : Result Way Refusal} → r ≡ literals_at line (take n ys) → followed r (rising line) ≡ way_at line text
  way_line ys {n} many so {r} e =
      let few : length ds.now ≤ 98 = subst (λ (g : Frame). length (digits_of g) ≤ 98) is short in
      ap (λ s. followed s (rising line)) (e ∙ ap (literals_at line) (all_decoded ds.now ys n 49 many (omega arith) so))
      ∙ ap (λ s. followed s (way_of_frame line)) (ap (λ g. Ok (seen_frame g)) (sym is) ∙ read)
