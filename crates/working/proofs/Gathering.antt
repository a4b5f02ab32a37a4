-- The kept ways of a table, one record at a time: what they need, and where they go.
use Rattle.std.proofs.Common.{◌≡◌, ℕ, ◌+◌, ◌<◌, ◌≤◌, Bool, true, false, cond, List, [], ◌∷◌, ◌++◌, length, get_or, take, drop, set, Some, None, Option, sym, refl, ap, ◌∙◌, append_assoc, append-nil, arith}
use Rattle.std.proofs.lemmas.List.{length-append, length-map, length-take-le, map_push, take_more, take_more_set, take_all, drop_more, drop-set-lt, take-append-drop}
use Rattle.rack.specs.declared.part.Literal.{Literal}
use Rattle.rack.specs.declared.way.WayRecord.{WayRecord}
use Rattle.rack.specs.Way.{Way, way_of}
use Rattle.table.specs.Kept.{keeps, kept_after, ways_of}
use Rattle.table.proofs.KeptWays.{kept_at, kept_all}
use Rattle.working.specs.declared.record.WorkingRecord.{WorkingRecord}
use Rattle.working.specs.Records.{left_in, way_in, ways_in}
use Rattle.working.specs.Gather.{needed}

-- the kept ways from record i on
abbrev pub onward : List WayRecord → ℕ → List Way
onward rs i = kept_after (ways_of (take i rs)) (ways_of (drop i rs))

-- v is the way of record i, and t says whether it is kept
module _ (rs : List WayRecord) (i : ℕ) (d : WayRecord) (v : Way) (lt : i < length rs) (e : v ≡ way_of (get_or rs i d)) where
  pub kept_here : (t : Bool) → t ≡ keeps v (ways_of (take i rs)) → onward rs i ≡ cond t (v ∷ onward rs (i + 1)) (onward rs (i + 1))
  kept_here t f =
      kept_at rs i d lt t (f ∙ (λ j. keeps (e j) (ways_of (take i rs)))) ∙ ap (λ w. cond t (w ∷ onward rs (i + 1)) (onward rs (i + 1))) (sym e)

  -- what is spare falls as the need does
  pub spent : (all records spare less : ℕ) → true ≡ keeps v (ways_of (take i rs)) → needed (onward rs i) + records ≡ all + spare + 1 → less + (2 + length v) ≡ spare → needed (onward rs (i + 1)) + records ≡ all + less + 1
  spent all records spare less f h k = let n : needed (onward rs i) ≡ needed (v ∷ onward rs (i + 1)) = ap needed (kept_here true f) in omega arith

  pub passed : (all records spare less : ℕ) → false ≡ keeps v (ways_of (take i rs)) → needed (onward rs i) + records ≡ all + spare + 1 → less ≡ spare → needed (onward rs (i + 1)) + records ≡ all + less + 1
  passed all records spare less f h k = let n : needed (onward rs i) ≡ needed (onward rs (i + 1)) = ap needed (kept_here false f) in omega arith

  pub lacks : (all records spare : ℕ) → true ≡ keeps v (ways_of (take i rs)) → needed (onward rs i) + records ≡ all + spare + 1 → spare < 2 + length v → all ≤ records → ⊥
  lacks all records spare f h k le = let n : needed (onward rs i) ≡ needed (v ∷ onward rs (i + 1)) = ap needed (kept_here true f) in omega arith

  module _ (work : List WorkingRecord) (n : ℕ) (all : List Way) (room : n ≤ length work) (so : ways_in (take n work) ++ onward rs i ≡ all) where
    long : length (ways_in (take n work)) ≡ n
    long = length-map (take n work) way_in ∙ length-take-le n work room

    pub has_place : true ≡ keeps v (ways_of (take i rs)) → needed all ≤ length work → n < length work
    has_place f le =
        let here : length (onward rs i) ≡ length (v ∷ onward rs (i + 1)) = ap length (kept_here true f) in
        let sum : length (ways_in (take n work)) + length (onward rs i) ≡ length all = sym (length-append (ways_in (take n work)) (onward rs i)) ∙ ap length so in
        omega (arith, long)

    pub put : (r : WorkingRecord) → n < length work → way_in r ≡ v → true ≡ keeps v (ways_of (take i rs)) → ways_in (take (n + 1) (set work n r)) ++ onward rs (i + 1) ≡ all
    put r lt2 g f =
        ap (λ s. s ++ onward rs (i + 1)) (ap ways_in (take_more_set work n r lt2) ∙ map_push way_in (take n work) r ∙ ap (λ w. ways_in (take n work) ++ w ∷ []) g)
        ∙ append_assoc (ways_in (take n work)) (v ∷ []) (onward rs (i + 1))
        ∙ ap (λ s. ways_in (take n work) ++ s) (sym (kept_here true f))
        ∙ so

    pub skip : false ≡ keeps v (ways_of (take i rs)) → ways_in (take n work) ++ onward rs (i + 1) ≡ all
    skip f = ap (λ s. ways_in (take n work) ++ s) (sym (kept_here false f)) ∙ so

pub none_left : (rs : List WayRecord) (i : ℕ) → length rs ≤ i → needed (onward rs i) ≡ 1
none_left rs i h = ap needed (kept_all rs i h)

pub all_put : (rs : List WayRecord) (i : ℕ) (work : List WorkingRecord) (n : ℕ) (all : List Way) → length rs ≤ i → ways_in (take n work) ++ onward rs i ≡ all → ways_in (take n work) ≡ all
all_put rs i work n all h so = sym (append-nil (ways_in (take n work))) ∙ ap (λ s. ways_in (take n work) ++ s) (sym (kept_all rs i h)) ∙ so

pub so_many : (work : List WorkingRecord) (n : ℕ) (all : List Way) → n ≤ length work → ways_in (take n work) ≡ all → n ≡ length all
so_many work n all room e = sym (length-map (take n work) way_in ∙ length-take-le n work room) ∙ ap length e

-- the places of a way that is put into a record, one literal at a time
left_append : (xs ys : List (Option Literal)) → left_in (xs ++ ys) ≡ left_in xs ++ left_in ys
left_append [] ys = refl
left_append (None ∷ xs) ys = left_append xs ys
left_append (Some l ∷ xs) ys = ap (λ s. l ∷ s) (left_append xs ys)

none_behind : (y : Option Literal) (s : List (Option Literal)) → left_in (y ∷ s) ≡ [] → left_in s ≡ []
none_behind None s e = e
none_behind (Some l) s e = absurd (let z : ◌≡◌ {A = ℕ} 0 1 = cc in omega arith)

module _ (ps : List (Option Literal)) (w : Way) (i : ℕ) (d : Literal) (lt : i < length w) (room : i < length ps) where
  pub filled : left_in (take i ps) ≡ take i w → left_in (take (i + 1) (set ps i (Some (get_or w i d)))) ≡ take (i + 1) w
  filled e =
      ap left_in (take_more_set ps i (Some (get_or w i d)) room)
      ∙ left_append (take i ps) (Some (get_or w i d) ∷ [])
      ∙ ap (λ s. s ++ get_or w i d ∷ []) e
      ∙ sym (take_more w i d lt)

  pub open_behind : left_in (drop i ps) ≡ [] → left_in (drop (i + 1) (set ps i (Some (get_or w i d)))) ≡ []
  open_behind e =
      let less : i < i + 1 = omega arith in
      ap left_in (drop-set-lt (i + 1) ps i (Some (get_or w i d)) less) ∙ none_behind (get_or ps i None) (drop (i + 1) ps) (ap left_in (sym (drop_more ps i None room)) ∙ e)

pub filled_all : (ps : List (Option Literal)) (w : Way) (i : ℕ) → length w ≤ i → left_in (take i ps) ≡ take i w → left_in (drop i ps) ≡ [] → left_in ps ≡ w
filled_all ps w i h e f =
    ap left_in (sym (take-append-drop i ps)) ∙ left_append (take i ps) (drop i ps) ∙ (λ j. e j ++ f j) ∙ append-nil (take i w) ∙ take_all i w h
