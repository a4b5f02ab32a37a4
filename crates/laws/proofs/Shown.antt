-- The laws, from what combining and each method write, and from what the kept ways are worth.
use Rattle.std.proofs.Common.{ℕ, ◌-◌, List, length, ap, subst, arith}
use Rattle.std.proofs.lemmas.List.{length-append}
use Rattle.rack.specs.Way.{Way}
use Rattle.table.specs.Kept.{kept, literals}
use Rattle.definitions.specs.declared.operand.Definition.{Definition}
use Rattle.definitions.specs.Combine.{State}
use Rattle.definitions.specs.Sound.{Sound}
use Rattle.naive.specs.Naive.{naively}
use Rattle.decomposition.specs.Decomposition.{decomposing}
use Rattle.merging.specs.Merging.{merging}
use Rattle.methods.specs.declared.translate.Method.{Method}
use Rattle.methods.specs.declared.translate.Method.TheVariants.{Naive, Decomposition, NodeMerging}
use Rattle.methods.specs.Methods.{rule_of}
use Rattle.algebra.specs.Algebra.{Algebra, Lattice, EveryAlgebra}
use Rattle.algebra.specs.Worth.{Settings, ways_worth}
use Rattle.laws.specs.Laws.{ComesTo, CombineRight, MethodsRight, KeptRight, TranslationRight}
use Rattle.laws.proofs.Values.{worth_kept}
use Rattle.laws.proofs.Combined.{Each, each_map, Grown, Made, combine_made}
use Rattle.laws.proofs.Naively.{naively_written}
use Rattle.laws.proofs.Decomposed.{decomposing_written}
use Rattle.laws.proofs.Merged.{merging_written}
use Rattle.laws.proofs.Keeps.{kept_worth}

comes : (A : Algebra) (s : Settings A) (ds : List Definition) (n : ℕ) (v : A.Value) (st : State) → Grown A s ds n v st → ComesTo A s ds n v st
comes A s ds n v st g =
    record {
      rest = g.ext.rest;
      grows = g.ext.grows;
      few = omega (arith, g.few, ap length g.ext.grows, length-append ds g.ext.rest);
      sound = g.sound;
      legal = g.legal;
      value = g.value;
      others_stay = λ a k. worth_kept A s a g.ext k;
    }

rule_grown : (A : Algebra) → Lattice A → (s : Settings A) (m : Method) (limit : ℕ) (ws : List Way) (ds : List Definition) → Sound ds → Each (Grown A s ds (literals ws - 1) (ways_worth A s ws)) (rule_of m limit ws ds)
rule_grown A L s Naive limit ws ds S = each_map _ (naively limit ws ds) (naively_written A L s limit ws ds S) (λ st w. w.grown)
rule_grown A L s Decomposition limit ws ds S = each_map _ (decomposing limit ws ds) (decomposing_written A L s limit ws ds S) (λ st w. w.grown)
rule_grown A L s NodeMerging limit ws ds S = each_map _ (merging limit ws ds) (merging_written A L s limit ws ds S) (λ st w. w.grown)

-- of the laws of the algebra, those of the lattice
pub combine_right : (A : Algebra) → Lattice A → CombineRight A
combine_right A L limit o a b ds st S ka kb e s = comes A s ds 1 _ st (subst (Each (Made A s ds o a b)) e (combine_made A L s limit o a b ds S ka kb)).grown

-- of the laws of the algebra, those of the lattice
pub methods_right : (A : Algebra) → Lattice A → MethodsRight A
methods_right A L m limit ws ds st S e s = comes A s ds _ _ st (subst (Each (Grown A s ds (literals ws - 1) (ways_worth A s ws))) e (rule_grown A L s m limit ws ds S))

pub kept_right : EveryAlgebra KeptRight
kept_right A L C ws s = kept_worth A L s C ws

pub translation_right : EveryAlgebra TranslationRight
translation_right A L C m limit ws ds st S e s =
    let P : A.Value → Type 0 = λ v. ComesTo A s ds (literals (kept ws) - 1) v st in
    subst P (kept_right A L C ws s) (methods_right A L m limit (kept ws) ds st S e s)
