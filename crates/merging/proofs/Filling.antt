-- The records that the ways were entered in hold the ways.
use Rattle.std.proofs.Common.{◌≡◌, ℕ, ◌+◌, ◌<◌, ◌≤◌, true, ◌⊎◌, List, [], ◌∷◌, ◌++◌, length, get_or, sym, refl, ap, ◌∙◌, inl, inr, append_assoc, append-nil, arith}
use Rattle.std.proofs.lemmas.List.{length_push, length-map, get_or-map, map-append}
use Rattle.rack.specs.Way.{Way}
use Rattle.rack.specs.First.{FirstAt, Nowhere}
use Rattle.working.specs.declared.record.WorkingRecord.{WorkingRecord}
use Rattle.merging.specs.Trie.{is_mark, branch_at, end_at, reaching, entering, entering_all}
use Rattle.merging.proofs.Marks.{reaching_found, reaching_new, look}
use Rattle.merging.proofs.Labels.{Label, Label.lit, Label.end, Word, Link, link, view, view_same, whole, wholes, views, none, Fits, Filled}
use Rattle.merging.proofs.Steps.{way_starts, way_follows, way_grows, newest, paths_with}

pub views_index : (R : List WorkingRecord) (i : ℕ) (e : WorkingRecord) → i < length R → get_or (views R) i none ≡ view (get_or R i e)
views_index R i e l = get_or-map view R i e none l

-- the link that leads from R to node k, found or added
abbrev Placed : List Link → Link → List Link → ℕ → Type 0
Placed R b S k = ((S ≡ R) × ((i : ℕ) × (k ≡ i + 1) × (i < length R) × (get_or R i none ≡ b))) ⊎ ((S ≡ R ++ b ∷ []) × (k ≡ length R + 1) × ((i : ℕ) → i < length R → get_or R i none ≡ b → ⊥))

placed : (R : List WorkingRecord) (r : WorkingRecord) → is_mark r ≡ true → Placed (views R) (view r) (views (reaching r R).records) (reaching r R).node
placed R r m = go (look r m R)
  where
    go : ((i : ℕ) × FirstAt R r i) ⊎ Nowhere R r → Placed (views R) (view r) (views (reaching r R).records) (reaching r R).node
    go (inl f) =
        let i = f.0 in
        let e = reaching_found r m R i f.1 in
        let long = length-map R view in
        let inside : i < length R = f.1.inside in
        inl (ap (λ x. views x.records) e, (i, ap (λ x. x.node) e, omega arith, views_index R i r inside ∙ ap view f.1.here))
    go (inr new) =
        let e = reaching_new r m R new in
        let long = length-map R view in
        inr (
          ap (λ x. views x.records) e ∙ map-append view R (r ∷ []),
          ap (λ x. x.node) e ∙ ap (λ n. n + 1) (sym long),
          λ i il same. let inside : i < length R = omega arith in new i inside (view_same (get_or R i r) r m (sym (views_index R i r inside) ∙ same)),
        )

-- R holds ws and the beginning v of one way more, which leads to node m
record Partly (R : List Link) (ws : List Word) (v : Word) (m : ℕ) : Type 0 where
  path : ℕ → List Label
  fits : Fits R path (ws ++ v ∷ [])
  inside : m ≤ length R
  at : path m ≡ v

first : (R : List Link) (ws : List Word) → Filled R ws → Partly R ws [] 0
first R ws f = record { path = f.path; fits = way_starts R f.path ws f.fits; inside = omega arith; at = f.fits.root }

last : (R : List Link) (ws : List Word) (v : Word) (m : ℕ) → Partly R ws v m → Filled R (ws ++ v ∷ [])
last R ws v m p = record { path = p.path; fits = p.fits }

turn : (R S : List Link) (ws : List Word) (v : Word) (m : ℕ) (l : Label) (k : ℕ) → Placed R (link m l) S k → Partly R ws v m → Partly S ws (v ++ l ∷ []) k
turn R S ws v m l k (inl x) p =
    let i = x.1.0 in
    let il = x.1.2 in
    let same = x.1.3 in
    rw x.0 (record {
      path = p.path;
      fits = way_follows R p.path ws v m l i p.fits p.inside p.at il (ap (λ b. b.parent) same) (ap (λ b. b.label) same);
      inside = omega (arith, x.1.1, il);
      at = grind (arith, x.1.1, p.fits.step i il, same, p.at);
    })
turn R S ws v m l k (inr x) p =
    let new : (i : ℕ) → i < length R → (get_or R i none).parent ≡ m → (get_or R i none).label ≡ l → ⊥ = λ i il a b. x.2 i il (λ j. record { parent = a j; label = b j }) in
    rw x.0 (record {
      path = paths_with (length R + 1) (v ++ l ∷ []) p.path;
      fits = way_grows R p.path ws v m l p.fits p.inside p.at new;
      inside = omega (arith, x.1, length_push R (link m l));
      at = rw x.1 (newest R p.path ws v m l p.fits p.inside p.at new);
    })

on : (w : Way) (R : List WorkingRecord) (ws : List Word) (v : Word) (m : ℕ) → Partly (views R) ws v m → Filled (views (entering w m R)) (ws ++ (v ++ whole w) ∷ [])
on [] R ws v m p = last _ ws (v ++ end ∷ []) _ (turn (views R) _ ws v m end _ (placed R (end_at m) refl) p)
on (l ∷ w) R ws v m p =
    rw (← append_assoc v (lit l ∷ []) (whole w))
    (on w (reaching (branch_at m l) R).records ws (v ++ lit l ∷ []) (reaching (branch_at m l) R).node (turn (views R) _ ws v m (lit l) _ (placed R (branch_at m l) refl) p))

all : (us : List Way) (R : List WorkingRecord) (ws : List Word) → Filled (views R) ws → Filled (views (entering_all us R)) (ws ++ wholes us)
all [] R ws f = rw append-nil f
all (u ∷ us) R ws f =
    rw (← append_assoc ws (whole u ∷ []) (wholes us))
    (all us (entering u 0 R) (ws ++ whole u ∷ []) (on u R ws [] 0 (first (views R) ws f)))

empty : Filled [] []
empty =
    record {
      path = λ k. [];
      fits =
          record {
            root = refl;
            step = λ i h. absurd (omega arith);
            low = λ i h. absurd (omega arith);
            apart = λ j k g h e. omega arith;
            kids = λ k h. refl;
          };
    }

pub filled : (us : List Way) → Filled (views (entering_all us [])) (wholes us)
filled us = all us [] [] empty
