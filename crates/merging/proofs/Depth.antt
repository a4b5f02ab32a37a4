-- The longest way is depth enough: more changes nothing, so the rule holds with no depth in sight.
use Rattle.std.proofs.Common.{◌≡◌, ℕ, zero, suc, ◌≤◌, min, max, Bool, true, false, cond, List, [], ◌∷◌, ◌++◌, length, sym, refl, ap, ◌∙◌, arith}
use Rattle.std.proofs.lemmas.Bool.{false≢true}
use Rattle.std.proofs.lemmas.List.{length-take}
use Rattle.rack.specs.declared.part.Literal.{Literal}
use Rattle.rack.specs.declared.way.WayRecord.{WayRecord}
use Rattle.rack.specs.Way.{Way}
use Rattle.table.specs.Kept.{same_literal, keeps, kept_after, kept, ways_of}
use Rattle.definitions.specs.declared.operand.Operator.TheVariants.{Meet, Join}
use Rattle.definitions.specs.declared.operand.Operand.{Operand}
use Rattle.definitions.specs.declared.operand.Operand.TheVariants.{Never, Always}
use Rattle.definitions.specs.Combine.{Writing, give, and_then, choose, combining}
use Rattle.working.specs.Records.{has_empty, operand_of, size}
use Rattle.merging.specs.Merging.{rests_of, heads, join_heads, merge_in, longer, longest, merging}

-- no way is longer than h
abbrev Within : ℕ → List Way → Type 0
Within h [] = Unit {0}
Within h (w ∷ ws) = (length w ≤ h) × Within h ws

wider : (g h : ℕ) (ws : List Way) → g ≤ h → Within g ws → Within h ws
wider g h [] le i = tt
wider g h (w ∷ ws) le i = (omega (arith, i.0), wider g h ws le i.1)

rests_within : (h : ℕ) (x : Literal) (ws : List Way) → Within (suc h) ws → Within h (rests_of x ws)
rests_within h x [] i = tt
rests_within h x ([] ∷ ws) i = rests_within h x ws i.1
rests_within h x ((g ∷ w) ∷ ws) i = elim (same_literal g x) as (λ t. Within h (choose t (w ∷ rests_of x ws) (rests_of x ws))) [ true ↦ (omega (arith, i.0), rests_within h x ws i.1) | false ↦ rests_within h x ws i.1 ]

above : (n : ℕ) (ws : List Way) → n ≤ longer n ws
above n [] = omega arith
above n (w ∷ ws) = let h = above (max n (length w)) ws in omega arith

covers : (n : ℕ) (ws : List Way) → Within (longer n ws) ws
covers n [] = tt
covers n (w ∷ ws) = let h = above (max n (length w)) ws in (omega arith, covers (max n (length w)) ws)

none_left : (ws : List Way) → Within 0 ws → has_empty ws ≡ false → ws ≡ []
none_left [] i e = refl
none_left ([] ∷ ws) i e = absurd (false≢true (sym e))
none_left ((h ∷ w) ∷ ws) i e = absurd (omega (arith, i.0))

module _ (limit : ℕ) where
  joins_alike : (sub sub' : List Way → Writing) (ws : List Way) (hs : List Literal) → ((l : Literal) → sub (rests_of l ws) ≡ sub' (rests_of l ws)) → (sofar : Operand) → join_heads limit sub ws sofar hs ≡ join_heads limit sub' ws sofar hs
  joins_alike sub sub' ws [] each sofar = refl
  joins_alike sub sub' ws (h ∷ hs) each sofar =
      (λ k. and_then (each h k) (λ b. and_then (combining limit Meet (operand_of h) b) (λ m. and_then (combining limit Join sofar m) (λ j. joins_alike sub sub' ws hs each j k))))

  enough : (a b : ℕ) (ws : List Way) → Within a ws → Within b ws → merge_in limit a ws ≡ merge_in limit b ws
  enough zero zero ws i j = refl
  enough zero (suc b) ws i j = grind (arith, none_left ws i)
  enough (suc a) zero ws i j = grind (arith, none_left ws j)
  enough (suc a) (suc b) ws i j =
      ap (choose (has_empty ws) (give Always)) (joins_alike (merge_in limit a) (merge_in limit b) ws (heads ws) (λ l. enough a b (rests_of l ws) (rests_within a l ws i) (rests_within b l ws j)) Never)

-- an empty way gives always; otherwise the heads one after another, each by the rule of its rests
pub merging_is : (limit : ℕ) (ws : List Way) → merging limit ws ≡ choose (has_empty ws) (give Always) (join_heads limit (merging limit) ws Never (heads ws))
merging_is limit ws =
    let h = longest ws in
    let tall : Within (suc h) ws = wider h (suc h) ws (omega arith) (covers 0 ws) in
    enough limit h (suc h) ws (covers 0 ws) tall
    ∙ ap (choose (has_empty ws) (give Always)) (joins_alike limit (merge_in limit h) (merging limit) ws (heads ws) (λ l. enough limit h (longest (rests_of l ws)) (rests_of l ws) (rests_within h l ws tall) (covers 0 (rests_of l ws))) Never)

all_within : (h : ℕ) (ws : List Way) → size ws ≤ h → Within h ws
all_within h [] le = tt
all_within h (w ∷ ws) le = (omega (arith, le), all_within h ws (omega (arith, le)))

-- no way has more literals than the ways have together
pub deep_enough : (limit h : ℕ) (ws : List Way) → size ws ≤ h → merging limit ws ≡ merge_in limit h ws
deep_enough limit h ws le = enough limit (longest ws) h ws (covers 0 ws) (all_within h ws le)

ways_within : (rs : List WayRecord) → Within 24 (ways_of rs)
ways_within [] = tt
ways_within (r ∷ rs) = (omega (arith, length-take (min r.count 24) r.places), ways_within rs)

kept_within : (h : ℕ) (earlier ws : List Way) → Within h ws → Within h (kept_after earlier ws)
kept_within h earlier [] i = tt
kept_within h earlier (w ∷ ws) i = go (kept_within h (earlier ++ w ∷ []) ws i.1) (keeps w earlier)
  where
    go : Within h (kept_after (earlier ++ w ∷ []) ws) → (t : Bool) → Within h (cond t (w ∷ kept_after (earlier ++ w ∷ []) ws) (kept_after (earlier ++ w ∷ []) ws))
    go a true = (i.0, a)
    go a false = a

-- the kept ways of a table are at most 24 literals long
pub table_deep_enough : (limit : ℕ) (rs : List WayRecord) → merging limit (kept (ways_of rs)) ≡ merge_in limit 24 (kept (ways_of rs))
table_deep_enough limit rs =
    let ws = kept (ways_of rs) in
    enough limit (longest ws) 24 ws (covers 0 ws) (kept_within 24 [] (ways_of rs) (ways_within rs))
