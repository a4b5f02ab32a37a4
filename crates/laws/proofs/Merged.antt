-- What node merging writes: one definition fewer than there are literals at most, worth the join of the ways.
-- It goes head by head: the rests of each first, then the meet with the head, then the join with what came before.
use Rattle.std.proofs.Common.{◌≡◌, ℕ, zero, suc, ◌+◌, ◌-◌, ◌≤◌, Bool, true, false, List, [], ◌∷◌, length, sym, refl, ap, ◌∙◌, subst, ap₂, arith}
use Rattle.rack.specs.declared.part.Literal.{Literal}
use Rattle.rack.specs.Way.{Way}
use Rattle.table.specs.Kept.{literals}
use Rattle.definitions.specs.declared.operand.Operator.TheVariants.{Meet, Join}
use Rattle.definitions.specs.declared.operand.Operand.{Operand}
use Rattle.definitions.specs.declared.operand.Operand.TheVariants.{Never, Always}
use Rattle.definitions.specs.declared.operand.Definition.{Definition}
use Rattle.definitions.specs.Combine.{Writing, give, choose, combining}
use Rattle.definitions.specs.Sound.{Legal, Sound}
use Rattle.working.specs.Records.{has_empty, size, operand_of}
use Rattle.merging.specs.Merging.{rests_of, heads, join_heads, merging}
use Rattle.merging.proofs.Depth.{merging_is}
use Rattle.algebra.specs.Algebra.{Algebra, Lattice}
use Rattle.algebra.specs.Worth.{Settings, worth, ways_worth}
use Rattle.laws.proofs.Lattices.{join_bottom_left}
use Rattle.laws.proofs.Weights.{weigh, weigh_one, alive_one}
use Rattle.laws.proofs.Combined.{Each, each_onward, each_map, combine_made}
use Rattle.laws.proofs.Ways.{literal_legal, literal_worth_is, empty_top, size_rests}
use Rattle.laws.proofs.Headed.{heads_literals, heads_literals_bound, heads_worth, heads_worth_is}
use Rattle.laws.proofs.Written.{Written, onto, settled, still, still_legal, given}

module _ (A : Algebra) (L : Lattice A) (s : Settings A) (limit : ℕ) where
  abbrev Merged : List Way → Writing → Type 0
  Merged ws w = (ds : List Definition) → Sound ds → Each (Written A s ds (literals ws) 1 (ways_worth A s ws)) (w ds)

  heads_written : (ws : List Way) → ((h : Literal) → Merged (rests_of h ws) (merging limit (rests_of h ws))) → (hs : List Literal) (sofar : Operand) (ds : List Definition) → Sound ds → Legal (length ds) sofar
      → Each (Written A s ds (weigh sofar + heads_literals ws hs) 1 (A.join (worth A s ds sofar) (heads_worth A L s ws hs))) (join_heads limit (merging limit) ws sofar hs ds)
  heads_written ws sub [] sofar ds S k = given A L s sofar ds _ _ _ S k (sym (L.join_bottom _)) (omega arith) (alive_one sofar)
  heads_written ws sub (h ∷ hs) sofar ds S k =
      each_onward _ (merging limit (rests_of h ws) ds) _ (sub h ds S) (λ b g.
      each_onward _ (combining limit Meet (operand_of h) b.answer b.all) _ (combine_made A L s limit Meet (operand_of h) b.answer b.all g.grown.sound (literal_legal (length b.all) h) g.grown.legal) (λ m e1.
      let hm = onto A L s g.grown e1.grown in
      each_onward _ (combining limit Join sofar m.answer m.all) _ (combine_made A L s limit Join sofar m.answer m.all e1.grown.sound (still_legal A L s sofar hm k) e1.grown.legal) (λ j e2.
      each_map _ (join_heads limit (merging limit) ws j.answer hs j.all) (heads_written ws sub hs j.answer j.all e2.grown.sound e2.grown.legal) (λ st r. record {
        grown = settled A L s (weigh sofar + heads_literals ws (h ∷ hs) - 1) (A.join (worth A s ds sofar) (heads_worth A L s ws (h ∷ hs))) (onto A L s (onto A L s hm e2.grown) r.grown)
            (omega (arith, g.grown.few, g.light, weigh_one b.answer, e1.few_second, weigh_one m.answer, e2.few_first, e2.few_second, e2.light, weigh_one j.answer, r.grown.few))
            (ap (λ x. A.join x (heads_worth A L s ws hs)) (e2.grown.value ∙ ap₂ A.join (still A L s sofar hm k) (e1.grown.value ∙ ap₂ A.meet (literal_worth_is A L s _ h) g.grown.value)) ∙ L.join_assoc _ _ _);
        light = omega (arith, weigh_one st.answer);
        live = r.live;
      }))))

  -- one level: an empty way gives always, and otherwise the heads
  level_written : (ws : List Way) → ((h : Literal) → Merged (rests_of h ws) (merging limit (rests_of h ws))) → Merged ws (choose (has_empty ws) (give Always) (join_heads limit (merging limit) ws Never (heads ws)))
  level_written ws sub ds S = go (has_empty ws) refl
    where
      go : (t : Bool) → has_empty ws ≡ t → Each (Written A s ds (literals ws) 1 (ways_worth A s ws)) (choose t (give Always) (join_heads limit (merging limit) ws Never (heads ws)) ds)
      go true e = given A L s Always ds _ _ _ S tt (sym (empty_top A L s ws e)) (omega arith) (omega arith)
      go false e =
          each_map _ (join_heads limit (merging limit) ws Never (heads ws) ds) (heads_written ws sub (heads ws) Never ds S tt) (λ st r. record {
            grown = settled A L s (literals ws - 1) (ways_worth A s ws) r.grown (omega (arith, r.grown.few, heads_literals_bound ws e)) (join_bottom_left A L _ ∙ heads_worth_is A L s ws e);
            light = omega (arith, r.light, heads_literals_bound ws e);
            live = r.live;
          })

  merged_in : (n : ℕ) (ws : List Way) → size ws ≤ n → Merged ws (merging limit ws)
  merged_in n [] l = λ ds S. given A L s Never ds 0 1 _ S tt refl (omega arith) (omega arith)
  merged_in zero (w ∷ ws) l = absurd (omega arith)
  merged_in (suc n) (w ∷ ws) l =
      let all : List Way = w ∷ ws in
      subst (Merged all) (sym (merging_is limit all)) (level_written all (λ h. merged_in n (rests_of h all) (omega (arith, size_rests h all))))

  pub merging_written : (ws : List Way) (ds : List Definition) → Sound ds → Each (Written A s ds (literals ws) 1 (ways_worth A s ws)) (merging limit ws ds)
  merging_written ws ds S = merged_in (size ws) ws (omega arith) ds S
