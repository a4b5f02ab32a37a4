-- An evaluation that passes the three checks: what was worked out is what the operand asks for.
use Rattle.std.proofs.Common.{◌≡◌, ℕ, ◌≤◌, Bool, true, List, map, length, take, drop, Some, None, Option, sym, ap, ◌∙◌}
use Rattle.std.proofs.lemmas.List.{length-take-le}
use Rattle.std.proofs.lemmas.Bool.{eq-eqb, le-ltb}
use Rattle.rack.specs.declared.refusal.Refusal.{Refusal}
use Rattle.rack.specs.declared.refusal.Refusal.TheVariants.{NoSuchDefinition, WrongSettings, MemoryShort}
use Rattle.definitions.specs.declared.operand.Operand.{Operand}
use Rattle.definitions.specs.declared.operand.Definition.{Definition}
use Rattle.definitions.specs.Operands.{reach}
use Rattle.definitions.specs.Combine.{choose}
use Rattle.script.specs.Script.{known}
use Rattle.algebra.specs.Algebra.{Algebra}
use Rattle.algebra.specs.Worth.{operand_worth}
use Rattle.evaluate.specs.Evaluation.{settings_of, evaluation_refusal, WorkedOut, Evaluated}
use Rattle.evaluate.proofs.Runs.{reached, first_worth}

abbrev checked : Bool → Bool → Bool → Option Refusal
checked a b c = choose a (choose b (choose c (Some MemoryShort) None) (Some WrongSettings)) (Some NoSuchDefinition)

passed : (ds : List Definition) (x : Operand) (n k : ℕ) → known (length ds) x ≡ true → n ≡ 256 → reach x ≤ k → evaluation_refusal ds x n k ≡ None
passed ds x n k h whole room = λ i. checked (h i) (eq-eqb n 256 whole i) (le-ltb k (reach x) room i)

module _ (A : Algebra) {X : Type 0} (f : X → A.Value) (ds : List Definition) (x : Operand) (settings was after : List X) (n : ℕ) where
  pub accepted : (element : X) → known (length ds) x ≡ true → length settings ≡ 256 → reach x ≤ length was → WorkedOut A f (take (reach x) ds) settings was after n → f element ≡ operand_worth A (settings_of A (map f settings)) (map f (take (reach x) after)) x → Evaluated A f ds x settings was after element n
  accepted element h whole room w e =
      let s = settings_of A (map f settings) in
      let count : length (take (reach x) ds) ≡ reach x = length-take-le (reach x) ds (reached (length ds) x h) in
      let worked = ap (λ m. map f (take m after)) (sym count) ∙ w.worked in
      record {
        due = passed ds x (length settings) (length was) h whole room;
        answer = e ∙ ap (λ vs. operand_worth A s vs x) worked ∙ first_worth A s ds x h;
        operations = w.operations ∙ count;
        worked = worked;
        later = ap (λ m. drop m after) (sym count) ∙ w.later ∙ ap (λ m. drop m was) count;
      }
