-- `every_life_everywhere` meets its contract, which states the promise of every life over every algebra, and so a fact of `Type 1`: the
-- body is walked by hand, and the fact is given where it returns. Assumes `Logic`.
use Rattle.std.proofs.Common.{true, List, [], ◌∷◌, refl}
use seplogic.Ra.Ura.{Ura}
use mir.Val.{Val, vbool}
use base.Logic.{SProp, ent, via, sep, emp, emp∗, mono_l, comm∗, fst∗}
use base.Fml.{ftrue}
use prog.Memory.{Memory}
use prog.Routine.{Routine}
use prog.Wp.{WpFn, Tables}
use types.Logic.{Logic}
use contract.Monad.{Fun}
use contract.Fact.{fact, fact_i}
use contract.Running.{tables, tables_of}
use sound.WpLaws.{WpFn-mono}
use types.Kit.{Item, Step, prop, step, ‵, ◌$◌, ◌∵◌, !, qed, keep, join, feq_i, suffices, done}
use types.Run.{true_lit, of_opd, returns, enter}
use types.ByLocal.{alloc_all, pass_all, free_all, look_at, sets}
use denote.Steps.{nothing}
use denote.Triple.Clauses.{Clauses, closing}
use denote.Triple.Entry.{on_entry}
use denote.Triple.Spec.{Meets, triple_of}
use denote.Triple.Table.{entered}
use denote.Triple.Walked.{walk_of, ends_at, walked, walk_Meets}
use Rattle.lives.proofs.Lived.{every_life}
use Rattle.lives.specs.contracts.every_life_everywhere as F
use Rattle.lives.specs.contracts.every_life_everywhere.Key.{name as #self}
use Rattle.lives.proofs.every_life_everywhere.Statement as stated
use Rattle.lives.proofs.every_life_everywhere.Code as code

-- `says` of the kit, at a fact of any level up to 1
says₁ : {M : Type 1} {𝓤 : Ura M} {𝓛 : Logic 𝓤} {K : Type 0} {Γ : List (Item 𝓤)} → K → {φ : Type 1} {P : SProp 𝓤} → φ → Step K 𝓛 Γ (prop P) Γ (prop (sep 𝓤 P (fact 𝓤 φ)))
says₁ {𝓤 = 𝓤} {𝓛 = 𝓛} {Γ = Γ} t {φ} {P} x = step (λ s. record { prf = via 𝓤 P s.prf (via 𝓤 (sep 𝓤 (emp 𝓤) P) (emp∗ 𝓤 P) (via 𝓤 (sep 𝓤 (fact 𝓤 φ) P) (mono_l 𝓤 P (fact_i 𝓤 φ (emp 𝓤) x)) (comm∗ 𝓤 (fact 𝓤 φ) P))) })

module _ {M : Type 1} {𝓤 : Ura M} (𝓛 : Logic 𝓤) (at_mem : Memory → SProp 𝓤) (run : Routine → Fun 𝓤) (𝓣 : Tables 𝓤 𝓛.H) where
  open 𝓛 use {H}

  abbrev clauses : Clauses 𝓤 F.ended
  clauses = F.clauses 𝓛 at_mem run

  walk : ent 𝓤 (on_entry 𝓛 F.signature tt tt tt tt) (WpFn 𝓤 H 𝓣.C 𝓣.Λ code.function [] ((walk_of 𝓛 F.ended tt clauses).post ((tt, tt, tt, tt, tt), tt)))
  walk =
      qed 𝓛 (‵ ftrue ∷ ‵ ftrue ∷ []) ∵ enter ! 𝓣.C 𝓣.Λ code.function [] _ $
      alloc_all ! (λ l. pass_all ! refl tt $
      sets ! (of_opd ! (true_lit !)) refl (tt, record {}) $
      returns ! (look_at ! 0 refl) $ free_all ! refl $
      suffices ! _ (ends_at 𝓛 F.ended tt clauses ((tt, tt, tt, tt, tt), tt) (vbool true) true tt tt) $ says₁ ! every_life $
      feq_i ! (List Val) (vbool true ∷ []) (vbool true ∷ []) refl $ nothing ! $ join ! $ nothing ! $ join ! $ keep ! (0 ∷ []) $ done !)

  meets : Meets 𝓛 F.signature (WpFn 𝓤 H 𝓣.C 𝓣.Λ code.function) (closing 𝓛 F.ended clauses)
  meets =
      walk_Meets 𝓛 F.ended tt tt clauses (WpFn 𝓤 H 𝓣.C 𝓣.Λ code.function) (WpFn-mono 𝓤 H 𝓛.laws 𝓣 code.function)
      (walked 𝓛 F.ended tt clauses (WpFn 𝓤 H 𝓣.C 𝓣.Λ code.function) (λ κs. tt) (λ κs. tt)
      (λ κs qs bounds a g are. via 𝓤 _ (fst∗ 𝓤 _ ((clauses κs a).requires g)) walk))

pub every_life_everywhere_spec : {M : Type 1} → stated.statement M
unfolding tables_of
every_life_everywhere_spec 𝓤 𝓛 𝓜 𝓡 wired =
    let A = 𝓛.A in
    let 𝓣 : Tables 𝓤 𝓛.H = tables_of 𝓤 𝓛.H 𝓜 (tables 𝓤 𝓛.H 𝓜 𝓡 𝓡.env) in
    entered 𝓤 𝓛.H (triple_of 𝓛 F.signature (F.spec 𝓛 𝓜.mem 𝓡.returns)) 𝓣.C 𝓣.Λ #self code.function (code.unfolded 𝓤 𝓛.H 𝓜 𝓡 wired)
    (meets 𝓛 𝓜.mem 𝓡.returns 𝓣)
