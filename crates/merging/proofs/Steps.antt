-- One label more of the last way keeps the links fitting.
use Rattle.std.proofs.Common.{◌≡◌, ℕ, zero, suc, ◌+◌, ◌<◌, ◌≤◌, Bool, true, false, eqb, ◌⊎◌, List, [], ◌∷◌, ◌++◌, length, get_or, sym, refl, ap, ◌∙◌, inl, inr, arith, eq-eqb, ne_eqb, eqb-true}
use Rattle.std.proofs.lemmas.Bool.{false≢true, cases_eq}
use Rattle.std.proofs.lemmas.List.{length_push, get_or_append_left, get_or_at, same_from_push}
use Rattle.definitions.specs.Combine.{choose}
use Rattle.merging.proofs.Labels.{Label, label_eq, label_true, label_ne, Word, rests_of, is_in, heads_after, heads, Link, none, child_lits, rests_at, rests_push, Fits}

abbrev by_head : Bool → Word → List Word → List Word
by_head t v ws = choose t (v ∷ ws) ws

abbrev by_new : Bool → List Label → List Label → List Word → List Label
by_new t gs hs ws = choose t (heads_after gs ws) (heads_after hs ws)

abbrev by_child : Bool → Label → List Label → List Label
by_child t l ls = choose t (l ∷ ls) ls

-- lists of ways, one after another

heads_append : (gs : List Label) (ws us : List Word) → heads_after gs (ws ++ us) ≡ heads_after (heads_after gs ws) us
heads_append gs [] us = refl
heads_append gs ([] ∷ ws) us = heads_append gs ws us
heads_append gs ((h ∷ v) ∷ ws) us = grind (arith, heads_append gs ws us, heads_append (gs ++ h ∷ []) ws us)

rests_append : (h : Label) (ws us : List Word) → rests_of h (ws ++ us) ≡ rests_of h ws ++ rests_of h us
rests_append h [] us = refl
rests_append h ([] ∷ ws) us = rests_append h ws us
rests_append h ((g ∷ v) ∷ ws) us = grind (arith, rests_append h ws us)

at_append : (p : List Label) (ws us : List Word) → rests_at p (ws ++ us) ≡ rests_at p ws ++ rests_at p us
at_append [] ws us = refl
at_append (h ∷ p) ws us = ap (rests_at p) (rests_append h ws us) ∙ at_append p (rests_of h ws) (rests_of h us)

-- the heads below p, by the ways before and the last one
heads_last : (p : List Label) (ws : List Word) (v : Word) → heads (rests_at p (ws ++ v ∷ [])) ≡ heads_after (heads (rests_at p ws)) (rests_at p (v ∷ []))
heads_last p ws v = ap heads (at_append p ws (v ∷ [])) ∙ heads_append [] (rests_at p ws) (rests_at p (v ∷ []))

at_none : (p : List Label) → rests_at p [] ≡ []
at_none [] = refl
at_none (h ∷ p) = at_none p

at_empty : (gs p : List Label) → heads_after gs (rests_at p ([] ∷ [])) ≡ gs
at_empty gs [] = refl
at_empty gs (h ∷ p) = ap (heads_after gs) (at_none p)

at_own : (v : Word) → rests_at v (v ∷ []) ≡ [] ∷ []
at_own [] = refl
at_own (h ∷ v) = grind (arith, label_eq h h refl, at_own v)

at_longer : (v : Word) (l : Label) → rests_at v ((v ++ l ∷ []) ∷ []) ≡ (l ∷ []) ∷ []
at_longer [] l = refl
at_longer (h ∷ v) l = grind (arith, label_eq h h refl, at_longer v l)

-- away from v nothing changes
heads_same : (gs p : List Label) (v : Word) (l : Label) → (p ≡ v → ⊥) → heads_after gs (rests_at p ((v ++ l ∷ []) ∷ [])) ≡ heads_after gs (rests_at p (v ∷ []))
heads_same gs [] [] l ne = absurd (ne refl)
heads_same gs [] (h ∷ v) l ne = refl
heads_same gs (q ∷ p) [] l ne = grind (arith, at_empty gs p, at_none p)
heads_same gs (q ∷ p) (h ∷ v) l ne = grind (arith, heads_same gs p v l, label_true h q)

-- a literal that is no head has no rests
in_more : (h g : Label) (gs : List Label) → is_in h gs ≡ true → is_in h (gs ++ g ∷ []) ≡ true
in_more h g [] e = absurd (false≢true e)
in_more h g (x ∷ gs) e = grind (arith, in_more h g gs)

pub in_last : (h : Label) (gs : List Label) → is_in h (gs ++ h ∷ []) ≡ true
in_last h [] = grind (arith, label_eq h h refl)
in_last h (x ∷ gs) = grind (arith, in_last h gs)

pub in_after : (h : Label) (gs : List Label) (ws : List Word) → is_in h gs ≡ true → is_in h (heads_after gs ws) ≡ true
in_after h gs [] e = e
in_after h gs ([] ∷ ws) e = in_after h gs ws e
in_after h gs ((g ∷ v) ∷ ws) e = grind (arith, in_after h gs ws e, in_after h (gs ++ g ∷ []) ws (in_more h g gs e))

no_rests : (h : Label) (gs : List Label) (ws : List Word) → is_in h (heads_after gs ws) ≡ false → rests_of h ws ≡ []
no_rests h gs [] e = refl
no_rests h gs ([] ∷ ws) e = no_rests h gs ws e
no_rests h gs ((g ∷ v) ∷ ws) e = grind (arith, no_rests h gs ws, no_rests h (gs ++ g ∷ []) ws, label_true g h, in_last g gs, in_after h gs ws, in_after h (gs ++ g ∷ []) ws)

-- the children of a node

kids_push_same : (m : ℕ) (l : Label) (R : List Link) → child_lits m (R ++ record { parent = m; label = l } ∷ []) ≡ child_lits m R ++ l ∷ []
kids_push_same m l [] = grind (arith, eq-eqb m m refl)
kids_push_same m l (b ∷ R) = grind (arith, kids_push_same m l R)

kids_push_other : (k m : ℕ) (l : Label) (R : List Link) → (m ≡ k → ⊥) → child_lits k (R ++ record { parent = m; label = l } ∷ []) ≡ child_lits k R
kids_push_other k m l [] ne = grind (arith, ne_eqb m k ne)
kids_push_other k m l (b ∷ R) ne = grind (arith, kids_push_other k m l R ne)

kids_none : (k : ℕ) (R : List Link) → ((i : ℕ) → i < length R → (get_or R i none).parent < k) → child_lits k R ≡ []
kids_none k [] low = refl
kids_none k (b ∷ R) low = grind (arith, eqb-true b.parent k, low 0 (omega arith), kids_none k R (λ i l. low (suc i) (omega arith)))

in_kids : (m : ℕ) (l : Label) (R : List Link) (i : ℕ) → i < length R → (get_or R i none).parent ≡ m → (get_or R i none).label ≡ l → is_in l (child_lits m R) ≡ true
in_kids m l [] i h p q = absurd (omega arith)
in_kids m l (b ∷ R) zero h p q = grind (arith, eq-eqb b.parent m p, label_eq b.label l q)
in_kids m l (b ∷ R) (suc i) h p q = grind (arith, in_kids m l R i (omega arith) p q)

not_in_kids : (m : ℕ) (l : Label) (R : List Link) → ((i : ℕ) → i < length R → (get_or R i none).parent ≡ m → (get_or R i none).label ≡ l → ⊥) → is_in l (child_lits m R) ≡ false
not_in_kids m l [] h = refl
not_in_kids m l (b ∷ R) h = grind (arith, not_in_kids m l R (λ i j. h (suc i) (omega arith)), h 0 (omega arith), eqb-true b.parent m, label_ne b.label l)

-- the heads at v once the last way goes on by l
heads_at : (ws : List Word) (v : Word) (l : Label) → heads (rests_at v (ws ++ (v ++ l ∷ []) ∷ [])) ≡ heads_after (heads (rests_at v (ws ++ v ∷ []))) ((l ∷ []) ∷ [])
heads_at ws v l = grind (arith, heads_last v ws (v ++ l ∷ []), at_longer v l, heads_last v ws v, at_own v)

heads_off : (p : List Label) (ws : List Word) (v : Word) (l : Label) → (p ≡ v → ⊥) → heads (rests_at p (ws ++ v ∷ [])) ≡ heads (rests_at p (ws ++ (v ++ l ∷ []) ∷ []))
heads_off p ws v l ne = grind (arith, heads_last p ws v, heads_same (heads (rests_at p ws)) p v l ne, heads_last p ws (v ++ l ∷ []))

-- an empty way is there before its first literal
pub way_starts : (R : List Link) (path : ℕ → List Label) (ws : List Word) → Fits R path ws → Fits R path (ws ++ [] ∷ [])
way_starts R path ws f =
    record {
      root = f.root;
      step = f.step;
      low = f.low;
      apart = f.apart;
      kids = λ k l. f.kids k l ∙ sym (heads_last (path k) ws [] ∙ at_empty (heads (rests_at (path k) ws)) (path k));
    }

-- the branch is there already
pub way_follows : (R : List Link) (path : ℕ → List Label) (ws : List Word) (v : Word) (m : ℕ) (l : Label) (i : ℕ) → Fits R path (ws ++ v ∷ []) → m ≤ length R → path m ≡ v → i < length R → (get_or R i none).parent ≡ m → (get_or R i none).label ≡ l → Fits R path (ws ++ (v ++ l ∷ []) ∷ [])
way_follows R path ws v m l i f ml pv il ip iq =
    record { root = f.root; step = f.step; low = f.low; apart = f.apart; kids = λ k kl. each k kl (cases_eq k m) }
  where
    each : (k : ℕ) → k ≤ length R → (k ≡ m) ⊎ (k ≡ m → ⊥) → child_lits k R ≡ heads (rests_at (path k) (ws ++ (v ++ l ∷ []) ∷ []))
    each k kl (inr ne) = f.kids k kl ∙ heads_off (path k) ws v l (λ e. ne (f.apart k m kl ml (e ∙ sym pv)))
    each k kl (inl e) =
        let there : child_lits m R ≡ heads (rests_at v (ws ++ v ∷ [])) = f.kids m ml ∙ ap (λ p. heads (rests_at p (ws ++ v ∷ []))) pv in
        rw (e, pv, heads_at ws v l) (grind (arith, there, in_kids m l R i il ip iq))

-- the paths once node n is new
abbrev pub paths_with : ℕ → List Label → (ℕ → List Label) → ℕ → List Label
paths_with n p path k = choose (eqb k n) p (path k)

module _ (R : List Link) (path : ℕ → List Label) (ws : List Word) (v : Word) (m : ℕ) (l : Label) (f : Fits R path (ws ++ v ∷ [])) (ml : m ≤ length R) (pv : path m ≡ v) (new : (i : ℕ) → i < length R → (get_or R i none).parent ≡ m → (get_or R i none).label ≡ l → ⊥) where
  abbrev N : ℕ
  N = length R + 1

  abbrev b : Link
  b = record { parent = m; label = l }

  abbrev p' : ℕ → List Label
  p' = paths_with N (v ++ l ∷ []) path

  old : (k : ℕ) → k ≤ length R → p' k ≡ path k
  old k h = grind (arith, ne_eqb k N)

  pub newest : p' N ≡ v ++ l ∷ []
  newest = grind (arith, eq-eqb N N refl)

  long : length (R ++ b ∷ []) ≡ length R + 1
  long = length_push R b

  at_old : (i : ℕ) → i < length R → get_or (R ++ b ∷ []) i none ≡ get_or R i none
  at_old i h = get_or_append_left R (b ∷ []) none i h

  at_new : get_or (R ++ b ∷ []) (length R) none ≡ b
  at_new = get_or_at R b [] none (length R) refl

  -- no node had the new path
  fresh : (k : ℕ) → k ≤ length R → path k ≡ v ++ l ∷ [] → ⊥
  fresh zero h e = grind (arith, f.root, length_push v l)
  fresh (suc i) h e =
      let at : i + 1 ≡ suc i = omega arith in
      let s = same_from_push (path (get_or R i none).parent) v (get_or R i none).label l (sym (f.step i h) ∙ ap path at ∙ e) in
      new i h (f.apart (get_or R i none).parent m (omega (arith, f.low i h)) ml (s.0 ∙ sym pv)) s.1

  last_or : (k : ℕ) → k ≤ length (R ++ b ∷ []) → (k ≡ N) ⊎ (k ≤ length R)
  last_or k h = elim (cases_eq k N) [ inl e ↦ inl e | inr ne ↦ inr (omega (arith, long, ne)) ]

  split : (i : ℕ) → i < length (R ++ b ∷ []) → (i ≡ length R) ⊎ (i < length R)
  split i h = elim (cases_eq i (length R)) [ inl e ↦ inl e | inr ne ↦ inr (omega (arith, long, ne)) ]

  steps : (i : ℕ) → (i ≡ length R) ⊎ (i < length R) → p' (i + 1) ≡ p' (get_or (R ++ b ∷ []) i none).parent ++ (get_or (R ++ b ∷ []) i none).label ∷ []
  steps i (inl e) = rw (e, at_new, newest, old m ml, pv) refl
  steps i (inr h) = rw (at_old i h, old (i + 1) (omega (arith, h)), old (get_or R i none).parent (omega (arith, h, f.low i h))) (f.step i h)

  lows : (i : ℕ) → (i ≡ length R) ⊎ (i < length R) → (get_or (R ++ b ∷ []) i none).parent ≤ i
  lows i (inl e) = grind (arith, at_new)
  lows i (inr h) = rw (at_old i h) (f.low i h)

  aparts : (j k : ℕ) → (j ≡ N) ⊎ (j ≤ length R) → (k ≡ N) ⊎ (k ≤ length R) → p' j ≡ p' k → j ≡ k
  aparts j k (inl x) (inl y) e = x ∙ sym y
  aparts j k (inl x) (inr h) e = absurd (fresh k h (sym (old k h) ∙ sym e ∙ ap p' x ∙ newest))
  aparts j k (inr g) (inl y) e = absurd (fresh j g (sym (old j g) ∙ e ∙ ap p' y ∙ newest))
  aparts j k (inr g) (inr h) e = f.apart j k g h (sym (old j g) ∙ e ∙ old k h)

  abbrev ws' : List Word
  ws' = ws ++ (v ++ l ∷ []) ∷ []

  there : child_lits m R ≡ heads (rests_at v (ws ++ v ∷ []))
  there = f.kids m ml ∙ ap (λ p. heads (rests_at p (ws ++ v ∷ []))) pv

  absent : is_in l (heads (rests_at v (ws ++ v ∷ []))) ≡ false
  absent = sym (ap (is_in l) there) ∙ not_in_kids m l R new

  kids_new : child_lits N (R ++ b ∷ []) ≡ heads (rests_at (v ++ l ∷ []) ws')
  kids_new =
      let none_behind = kids_none N (R ++ b ∷ []) (λ i h. let lo = lows i (split i h) in omega (arith, long)) in
      let v' = v ++ l ∷ [] in
      grind (arith, none_behind, heads_last v' ws v', at_own v', rests_push v l ws, no_rests l [] (rests_at v ws), heads_last v ws v, at_own v, absent)

  kids_all : (k : ℕ) → (k ≡ N) ⊎ (k ≤ length R) → child_lits k (R ++ b ∷ []) ≡ heads (rests_at (p' k) ws')
  kids_all k (inl e) = rw (e, newest) kids_new
  kids_all k (inr h) = rw (old k h) (by (cases_eq k m))
    where
      by : (k ≡ m) ⊎ (k ≡ m → ⊥) → child_lits k (R ++ b ∷ []) ≡ heads (rests_at (path k) ws')
      by (inl e) = rw (e, pv, kids_push_same m l R, heads_at ws v l) (grind (arith, there, absent))
      by (inr ne) = kids_push_other k m l R (λ e. ne (sym e)) ∙ f.kids k h ∙ heads_off (path k) ws v l (λ e. ne (f.apart k m h ml (e ∙ sym pv)))

  pub way_grows : Fits (R ++ b ∷ []) p' ws'
  way_grows =
      record {
        root = old 0 (omega arith) ∙ f.root;
        step = λ i h. steps i (split i h);
        low = λ i h. lows i (split i h);
        apart = λ j k g h. aparts j k (last_or j g) (last_or k h);
        kids = λ k h. kids_all k (last_or k h);
      }
