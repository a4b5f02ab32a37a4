-- Merging the records that the ways were entered in is merging the ways.
use Rattle.std.proofs.Common.{◌≡◌, ℕ, zero, suc, ◌+◌, ◌<◌, ◌≤◌, ◌||◌, List, [], ◌∷◌, ◌++◌, length, get_or, Some, None, Option, refl, ap, ◌∙◌, append-nil, arith, eqb-true}
use Rattle.std.specs.List.{flat_map}
use Rattle.std.proofs.lemmas.List.{length-map, get_or-map}
use Rattle.std.proofs.lemmas.Grind.{flat_map-append}
use Rattle.rack.specs.declared.part.Literal.{Literal}
use Rattle.rack.specs.Way.{Way}
use Rattle.table.specs.Kept.{same_literal}
use Rattle.definitions.specs.declared.operand.Operator.TheVariants.{Meet, Join}
use Rattle.definitions.specs.declared.operand.Operand.{Operand}
use Rattle.definitions.specs.declared.operand.Operand.TheVariants.{Never, Always}
use Rattle.definitions.specs.Combine.{Writing, give, and_then, choose, combining}
use Rattle.working.specs.declared.record.WorkingRecord.{WorkingRecord}
use Rattle.working.specs.declared.record.WorkingRecord.TheVariants as record_of
use Rattle.working.specs.Records.{has_empty, operand_of}
use Rattle.merging.specs.Merging.{join_heads, merge_in}
use Rattle.merging.specs.Merging as ways
use Rattle.merging.specs.Trie.{end_at, ended, branch_of, turn_by, join_at, merge_at, entering_all}
use Rattle.merging.proofs.Labels.{Label, Label.lit, Label.end, Label.other, rests_of, is_in, heads_after, heads, link, view, wholes, views, child_lits, rests_at, rests_push, none, Fits}
use Rattle.merging.proofs.Steps.{in_last, in_after}
use Rattle.merging.proofs.Filling.{filled}

-- the ways with their ends, by the first literal

rests_whole : (h : Literal) (W : List Way) → rests_of (lit h) (wholes W) ≡ wholes (ways.rests_of h W)
rests_whole h [] = refl
rests_whole h ([] ∷ W) = rests_whole h W
rests_whole h ((g ∷ w) ∷ W) = grind (arith, rests_whole h W)

abbrev lits : Label → List Literal
lits (lit l) = l ∷ []
lits end = []
lits other = []

-- the literals among some labels
abbrev somes : List Label → List Literal
somes gs = flat_map lits gs

in_somes : (h : Literal) (gs : List Label) → is_in (lit h) gs ≡ ways.is_in same_literal h (somes gs)
in_somes h [] = refl
in_somes h (lit g ∷ gs) = ap (λ t. same_literal g h || t) (in_somes h gs)
in_somes h (end ∷ gs) = in_somes h gs
in_somes h (other ∷ gs) = in_somes h gs

heads_whole : (gs : List Label) (W : List Way) → somes (heads_after gs (wholes W)) ≡ ways.heads_after same_literal (somes gs) W
heads_whole gs [] = refl
heads_whole gs ([] ∷ W) = grind (arith, heads_whole gs W, heads_whole (gs ++ end ∷ []) W, flat_map-append lits gs (end ∷ []), append-nil)
heads_whole gs ((h ∷ w) ∷ W) = grind (arith, heads_whole gs W, heads_whole (gs ++ lit h ∷ []) W, in_somes h gs, flat_map-append lits gs (lit h ∷ []))

-- a way has ended where the end is among the heads

in_other : (h : Literal) (gs : List Label) → is_in end (gs ++ lit h ∷ []) ≡ is_in end gs
in_other h [] = refl
in_other h (g ∷ gs) = grind (arith, in_other h gs)

in_heads : (gs : List Label) (W : List Way) → is_in end (heads_after gs (wholes W)) ≡ (is_in end gs || has_empty W)
in_heads gs [] = grind arith
in_heads gs ([] ∷ W) = grind (arith, in_after end gs (wholes W), in_after end (gs ++ end ∷ []) (wholes W) (in_last end gs))
in_heads gs ((h ∷ w) ∷ W) = grind (arith, in_heads gs W, in_heads (gs ++ lit h ∷ []) W, in_other h gs)

-- the records of a node

ended_is : (m : ℕ) (R : List WorkingRecord) → ended R m ≡ is_in end (child_lits m (views R))
ended_is m [] = refl
ended_is m (record_of.Way left ∷ R) = grind (arith, ended_is m R)
ended_is m (record_of.Branch p l ∷ R) = grind (arith, ended_is m R)
ended_is m (record_of.End q ∷ R) = grind (arith, ended_is m R)

abbrev some_lit : Option Literal → List Literal → List Literal
some_lit (Some l) ls = l ∷ ls
some_lit None ls = ls

abbrev branch_lits : ℕ → List WorkingRecord → List Literal
branch_lits m [] = []
branch_lits m (r ∷ R) = some_lit (branch_of m r) (branch_lits m R)

branch_lits_are : (m : ℕ) (R : List WorkingRecord) → branch_lits m R ≡ somes (child_lits m (views R))
branch_lits_are m [] = refl
branch_lits_are m (record_of.Way left ∷ R) = grind (arith, branch_lits_are m R)
branch_lits_are m (record_of.Branch p l ∷ R) = grind (arith, branch_lits_are m R)
branch_lits_are m (record_of.End q ∷ R) = grind (arith, branch_lits_are m R)

branch_view : (m : ℕ) (l : Literal) (r : WorkingRecord) → branch_of m r ≡ Some l → view r ≡ link m (lit l)
branch_view m l (record_of.Way left) e = grind arith
branch_view m l (record_of.Branch p x) e = grind (arith, eqb-true p.0 m)
branch_view m l (record_of.End n) e = grind arith

-- what stands for a record past the end
abbrev blank : WorkingRecord
blank = end_at 0

join_same : (limit : ℕ) (sub : ℕ → Writing) (sub' : List Way → Writing) (W : List Way) (m place : ℕ) (sofar : Operand) (S : List WorkingRecord) → ((i : ℕ) (l : Literal) → i < length S → branch_of m (get_or S i blank) ≡ Some l → sub (place + i + 1) ≡ sub' (ways.rests_of l W)) → join_at limit sub m place sofar S ≡ join_heads limit sub' W sofar (branch_lits m S)
join_same limit sub sub' W m place sofar [] each = refl
join_same limit sub sub' W m place sofar (b ∷ S) each = go (λ x. join_same limit sub sub' W m (place + 1) x S later) (branch_of m b) refl
  where
    later : (i : ℕ) (l : Literal) → i < length S → branch_of m (get_or S i blank) ≡ Some l → sub (place + 1 + i + 1) ≡ sub' (ways.rests_of l W)
    later i l il mine = let at : place + 1 + i + 1 ≡ place + suc i + 1 = omega arith in ap sub at ∙ each (suc i) l (omega arith) mine

    go : ((x : Operand) → join_at limit sub m (place + 1) x S ≡ join_heads limit sub' W x (branch_lits m S)) → (o : Option Literal) → branch_of m b ≡ o → turn_by limit (sub (place + 1)) sofar (λ j. join_at limit sub m (place + 1) j S) o ≡ join_heads limit sub' W sofar (some_lit o (branch_lits m S))
    go same None e = same sofar
    go same (Some l) e =
        let at : place + 1 ≡ place + 0 + 1 = omega arith in
        let below = ap sub at ∙ each 0 l (omega arith) e in
        (λ k. and_then (below k) (λ x. and_then (combining limit Meet (operand_of l) x) (λ y. and_then (combining limit Join sofar y) (λ j. same j k))))

module _ (limit : ℕ) (R : List WorkingRecord) (ws : List Way) (path : ℕ → List Label) (f : Fits (views R) path (wholes ws)) where
  -- W are the rests at node m
  ends_same : (m : ℕ) (W : List Way) → m ≤ length R → rests_at (path m) (wholes ws) ≡ wholes W → ended R m ≡ has_empty W
  ends_same m W l at =
      let long = length-map R view in
      ended_is m R ∙ ap (is_in end) (f.kids m (omega arith) ∙ ap heads at) ∙ in_heads [] W

  heads_same : (m : ℕ) (W : List Way) → m ≤ length R → rests_at (path m) (wholes ws) ≡ wholes W → branch_lits m R ≡ ways.heads W
  heads_same m W l at =
      let long = length-map R view in
      branch_lits_are m R ∙ ap somes (f.kids m (omega arith) ∙ ap heads at) ∙ heads_whole [] W

  rests_same : (m i : ℕ) (x : Literal) (W : List Way) → rests_at (path m) (wholes ws) ≡ wholes W → i < length R → branch_of m (get_or R i blank) ≡ Some x → rests_at (path (i + 1)) (wholes ws) ≡ wholes (ways.rests_of x W)
  rests_same m i x W at il mine =
      let long = length-map R view in
      let here : get_or (views R) i none ≡ link m (lit x) = get_or-map view R i blank none il ∙ branch_view m x (get_or R i blank) mine in
      let down : path (i + 1) ≡ path m ++ lit x ∷ [] = f.step i (omega arith) ∙ ap (λ b. path b.parent ++ b.label ∷ []) here in
      ap (λ p. rests_at p (wholes ws)) down ∙ rests_push (path m) (lit x) (wholes ws) ∙ ap (rests_of (lit x)) at ∙ rests_whole x W

  same_merge : (h m : ℕ) (W : List Way) → m ≤ length R → rests_at (path m) (wholes ws) ≡ wholes W → merge_at limit h R m ≡ merge_in limit h W
  same_merge zero m W l at = ap (λ t. choose t (give Always) (give Never)) (ends_same m W l at)
  same_merge (suc h) m W l at =
      let inner : join_at limit (merge_at limit h R) m 0 Never R ≡ join_heads limit (merge_in limit h) W Never (ways.heads W) =
      join_same limit (merge_at limit h R) (merge_in limit h) W m 0 Never R (λ i x il mine. let to : 0 + i + 1 ≡ i + 1 = omega arith in ap (merge_at limit h R) to ∙ same_merge h (i + 1) (ways.rests_of x W) (omega arith) (rests_same m i x W at il mine))
      ∙ ap (join_heads limit (merge_in limit h) W Never) (heads_same m W l at) in
      (λ k. choose (ends_same m W l at k) (give Always) (inner k))

pub linked : (limit h : ℕ) (us : List Way) → merge_at limit h (entering_all us []) 0 ≡ merge_in limit h us
linked limit h us =
    let f = filled us in
    same_merge limit (entering_all us []) us f.path f.fits h 0 us (omega arith) (ap (λ p. rests_at p (wholes us)) f.fits.root)
