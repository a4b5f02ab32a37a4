-- What the naive method writes: one definition fewer than there are literals at most, worth the join of the ways.
use Rattle.std.proofs.Common.{ℕ, suc, ◌+◌, ◌-◌, List, [], ◌∷◌, length, sym, ap, ◌∙◌, ap₂, arith}
use Rattle.rack.specs.Way.{Way}
use Rattle.table.specs.Kept.{literals}
use Rattle.definitions.specs.declared.operand.Operator.TheVariants.{Meet, Join}
use Rattle.definitions.specs.declared.operand.Operand.{Operand}
use Rattle.definitions.specs.declared.operand.Operand.TheVariants.{Never, Always}
use Rattle.definitions.specs.declared.operand.Definition.{Definition}
use Rattle.definitions.specs.Combine.{combining}
use Rattle.definitions.specs.Sound.{Legal, Sound}
use Rattle.working.specs.Records.{operand_of}
use Rattle.naive.specs.Naive.{meeting, joining, naively}
use Rattle.algebra.specs.Algebra.{Algebra, Lattice}
use Rattle.algebra.specs.Worth.{Settings, worth, literal_worth, way_worth, ways_worth}
use Rattle.laws.proofs.Lattices.{join_bottom_left, meet_top_left}
use Rattle.laws.proofs.Weights.{weigh, weigh_one, alive_one}
use Rattle.laws.proofs.Combined.{Each, each_onward, each_map, combine_made}
use Rattle.laws.proofs.Ways.{literal_legal, literal_worth_is}
use Rattle.laws.proofs.Written.{Written, onto, settled, still, still_legal, given}

module _ (A : Algebra) (L : Lattice A) (s : Settings A) (limit : ℕ) where
  meeting_written : (w : Way) (sofar : Operand) (ds : List Definition) → Sound ds → Legal (length ds) sofar → Each (Written A s ds (weigh sofar + length w) 1 (A.meet (worth A s ds sofar) (way_worth A s w))) (meeting limit sofar w ds)
  meeting_written [] sofar ds S k = given A L s sofar ds (weigh sofar + 0) 1 _ S k (sym (L.meet_top _)) (omega arith) (alive_one sofar)
  meeting_written (l ∷ w) sofar ds S k =
      each_onward _ (combining limit Meet sofar (operand_of l) ds) _ (combine_made A L s limit Meet sofar (operand_of l) ds S k (literal_legal (length ds) l)) (λ m made.
      each_map _ (meeting limit m.answer w m.all) (meeting_written w m.answer m.all made.grown.sound made.grown.legal) (λ st r. record {
        grown = settled A L s (weigh sofar + suc (length w) - 1) (A.meet (worth A s ds sofar) (A.meet (literal_worth A s l) (way_worth A s w))) (onto A L s made.grown r.grown)
            (omega (arith, made.few_first, weigh_one m.answer, r.grown.few))
            (ap (λ x. A.meet x (way_worth A s w)) (made.grown.value ∙ ap (A.meet (worth A s ds sofar)) (literal_worth_is A L s _ l)) ∙ L.meet_assoc _ _ _);
        light = omega (arith, weigh_one st.answer);
        live = alive_one st.answer;
      }))

  joining_written : (ws : List Way) (sofar : Operand) (ds : List Definition) → Sound ds → Legal (length ds) sofar → Each (Written A s ds (weigh sofar + literals ws) 1 (A.join (worth A s ds sofar) (ways_worth A s ws))) (joining limit sofar ws ds)
  joining_written [] sofar ds S k = given A L s sofar ds (weigh sofar + 0) 1 _ S k (sym (L.join_bottom _)) (omega arith) (alive_one sofar)
  joining_written (w ∷ ws) sofar ds S k =
      each_onward _ (meeting limit Always w ds) _ (meeting_written w Always ds S tt) (λ m met.
      each_onward _ (combining limit Join sofar m.answer m.all) _ (combine_made A L s limit Join sofar m.answer m.all met.grown.sound (still_legal A L s sofar met.grown k) met.grown.legal) (λ j made.
      each_map _ (joining limit j.answer ws j.all) (joining_written ws j.answer j.all made.grown.sound made.grown.legal) (λ st r. record {
        grown = settled A L s (weigh sofar + (length w + literals ws) - 1) (A.join (worth A s ds sofar) (A.join (way_worth A s w) (ways_worth A s ws))) (onto A L s (onto A L s met.grown made.grown) r.grown)
            (omega (arith, met.grown.few, met.light, made.few_first, made.few_second, made.light, weigh_one j.answer, weigh_one m.answer, r.grown.few))
            (ap (λ x. A.join x (ways_worth A s ws)) (made.grown.value ∙ ap₂ A.join (still A L s sofar met.grown k) (met.grown.value ∙ meet_top_left A L _)) ∙ L.join_assoc _ _ _);
        light = omega (arith, met.light, made.light, r.light);
        live = alive_one st.answer;
      })))

  pub naively_written : (ws : List Way) (ds : List Definition) → Sound ds → Each (Written A s ds (literals ws) 1 (ways_worth A s ws)) (naively limit ws ds)
  naively_written ws ds S = each_map _ (naively limit ws ds) (joining_written ws Never ds S tt) (λ st r. record {
    grown = settled A L s (literals ws - 1) (ways_worth A s ws) r.grown (omega (arith, r.grown.few)) (join_bottom_left A L _);
    light = omega (arith, r.light);
    live = r.live;
  })
