-- What decomposition writes: one definition fewer than there are literals at most, worth the join of the ways.
-- The three kinds of ways are written first; the close adds what their weights allow.
use Rattle.std.proofs.Common.{◌≡◌, ℕ, zero, suc, ◌+◌, ◌-◌, ◌≤◌, Bool, true, false, List, [], ◌∷◌, length, sym, refl, ap, ◌∙◌, ap₂, arith}
use Rattle.rack.specs.declared.part.Part.{Part}
use Rattle.rack.specs.Way.{Way}
use Rattle.table.specs.Kept.{literals}
use Rattle.definitions.specs.declared.operand.Operator.TheVariants.{Meet, Join}
use Rattle.definitions.specs.declared.operand.Operand.TheVariants.{Never, Always, Works, Out}
use Rattle.definitions.specs.declared.operand.Definition.{Definition}
use Rattle.definitions.specs.Combine.{choose, combining}
use Rattle.definitions.specs.Sound.{Sound}
use Rattle.working.specs.Records.{has_empty, size}
use Rattle.decomposition.specs.Decomposition.{working_of, out_of, under, beside, start_of, by_part, by_start, decompose_in, decomposing}
use Rattle.decomposition.proofs.Parted.{working_falls, out_falls, rest_falls}
use Rattle.algebra.specs.Algebra.{Algebra, Lattice}
use Rattle.algebra.specs.Worth.{Settings, ways_worth}
use Rattle.laws.proofs.Weights.{weigh_one, weigh_alive, alive_one}
use Rattle.laws.proofs.Combined.{Each, each_onward, each_map, combine_made}
use Rattle.laws.proofs.Ways.{empty_top, parted, literals_split, first_held}
use Rattle.laws.proofs.Written.{Written, onto, settled, still, still_legal, given}

module _ (A : Algebra) (L : Lattice A) (s : Settings A) (limit : ℕ) where
  abbrev Decomposed : ℕ → List Way → Type 0
  Decomposed n ws = (ds : List Definition) → Sound ds → Each (Written A s ds (literals ws) (length ws) (ways_worth A s ws)) (decompose_in limit n ws ds)

  module _ (n : ℕ) (v : Part) (ws : List Way) (some : 1 ≤ length (under (working_of v) ws) + length (under (out_of v) (beside (working_of v) ws)))
      (w1 : Decomposed n (under (working_of v) ws)) (w2 : Decomposed n (under (out_of v) (beside (working_of v) ws))) (w3 : Decomposed n (beside (out_of v) (beside (working_of v) ws))) where
    part_written : (z : ℕ) → 1 ≤ z → (ds : List Definition) → Sound ds → Each (Written A s ds (literals ws) z (ways_worth A s ws)) (by_part limit (decompose_in limit n) v ws (beside (working_of v) ws) ds)
    part_written z pos ds S =
        let others = beside (working_of v) ws in
        each_onward _ (decompose_in limit n (under (working_of v) ws) ds) _ (w1 ds S) (λ f1 g1.
        each_onward _ (decompose_in limit n (under (out_of v) others) f1.all) _ (w2 f1.all g1.grown.sound) (λ f2 g2.
        each_onward _ (decompose_in limit n (beside (out_of v) others) f2.all) _ (w3 f2.all g2.grown.sound) (λ f3 g3.
        let h13 = onto A L s g2.grown g3.grown in
        each_onward _ (combining limit Meet (Works v) f1.answer f3.all) _ (combine_made A L s limit Meet (Works v) f1.answer f3.all g3.grown.sound tt (still_legal A L s f1.answer h13 g1.grown.legal)) (λ m1 e1.
        let h2m = onto A L s g3.grown e1.grown in
        each_onward _ (combining limit Meet (Out v) f2.answer m1.all) _ (combine_made A L s limit Meet (Out v) f2.answer m1.all e1.grown.sound tt (still_legal A L s f2.answer h2m g2.grown.legal)) (λ m2 e2.
        each_onward _ (combining limit Join m1.answer m2.answer m2.all) _ (combine_made A L s limit Join m1.answer m2.answer m2.all e2.grown.sound (still_legal A L s m1.answer e2.grown e1.grown.legal) e2.grown.legal) (λ j e3.
        let h3j = onto A L s (onto A L s e1.grown e2.grown) e3.grown in
        each_map _ (combining limit Join j.answer f3.answer j.all) (combine_made A L s limit Join j.answer f3.answer j.all e3.grown.sound e3.grown.legal (still_legal A L s f3.answer h3j g3.grown.legal)) (λ st e4. record {
          grown = settled A L s (literals ws - 1) (ways_worth A s ws) (onto A L s (onto A L s g1.grown h13) (onto A L s h3j e4.grown))
              (omega (
                arith,
                g1.grown.few,
                g2.grown.few,
                g3.grown.few,
                e1.few_second,
                g1.light,
                weigh_one f1.answer,
                weigh_alive m1.answer,
                e1.live.1,
                g1.live,
                weigh_one m1.answer,
                e2.few_second,
                g2.light,
                weigh_one f2.answer,
                weigh_alive m2.answer,
                e2.live.1,
                g2.live,
                weigh_one m2.answer,
                e3.few_first,
                e3.few_second,
                e3.light,
                weigh_one j.answer,
                e4.few_first,
                e4.few_second,
                g3.light,
                literals_split (working_of v) ws,
                literals_split (out_of v) others,
                some,
              ))
              (ap₂ A.join
              (e3.grown.value ∙ ap₂ A.join
              (still A L s m1.answer e2.grown e1.grown.legal ∙ e1.grown.value ∙ ap (A.meet (s v.0)) (still A L s f1.answer h13 g1.grown.legal ∙ g1.grown.value))
              (e2.grown.value ∙ ap (A.meet (A.complement (s v.0))) (still A L s f2.answer h2m g2.grown.legal ∙ g2.grown.value)))
              (still A L s f3.answer h3j g3.grown.legal ∙ g3.grown.value)
              ∙ L.join_assoc _ _ _ ∙ ap (A.join (A.meet (s v.0) (ways_worth A s (under (working_of v) ws)))) (parted A L s (out_of v) others) ∙ parted A L s (working_of v) ws);
          light = omega (arith, weigh_one st.answer, literals_split (working_of v) ws, literals_split (out_of v) others, some);
          live = omega (arith, alive_one st.answer);
        })))))))

  decompose_in_written : (n : ℕ) (ws : List Way) → size ws ≤ n → Decomposed n ws
  decompose_in_written zero [] l ds S = given A L s Never ds 0 0 _ S tt refl (omega arith) (omega arith)
  decompose_in_written zero (w ∷ ws) l ds S = absurd (omega arith)
  decompose_in_written (suc n) [] l ds S = given A L s Never ds 0 0 _ S tt refl (omega arith) (omega arith)
  decompose_in_written (suc n) ([] ∷ ws) l ds S = given A L s Always ds _ _ _ S tt (sym (empty_top A L s ([] ∷ ws) refl)) (omega arith) (omega arith)
  decompose_in_written (suc n) ((h ∷ w) ∷ ws) l ds S = go (λ us m. decompose_in_written n us m) (has_empty ws) refl
    where
      all : List Way
      all = (h ∷ w) ∷ ws

      others : List Way
      others = beside (working_of h.part) all

      -- t: whether a way behind the first has no literal; then all ways begin as an empty one does, and otherwise as the first
      goal : Bool → Type 0
      goal t = Each (Written A s ds (literals all) (length all) (ways_worth A s all)) (by_start limit (decompose_in limit n) all (choose t (start_of ([] ∷ [])) (start_of ((h ∷ w) ∷ []))) ds)

      go : ((us : List Way) → size us ≤ n → Decomposed n us) → (t : Bool) → has_empty ws ≡ t → goal t
      go sub true e = given A L s Always ds _ _ _ S tt (sym (empty_top A L s all e)) (omega arith) (omega arith)
      go sub false e =
          let v = h.part in
          let begins : start_of all ≡ start_of ((h ∷ w) ∷ []) = ap (λ t. choose t (start_of ([] ∷ [])) (start_of ((h ∷ w) ∷ []))) e in
          part_written n v all (first_held h w ws)
          (sub (under (working_of v) all) (omega (arith, working_falls v all begins)))
          (sub (under (out_of v) others) (omega (arith, out_falls v all begins)))
          (sub (beside (out_of v) others) (omega (arith, rest_falls v all begins)))
          (length all) (omega arith) ds S

  pub decomposing_written : (ws : List Way) (ds : List Definition) → Sound ds → Each (Written A s ds (literals ws) (length ws) (ways_worth A s ws)) (decomposing limit ws ds)
  decomposing_written ws ds S = decompose_in_written (size ws) ws (omega arith) ds S
