-- The life is lived call by call; each answer is computed.
use Rattle.std.proofs.Common.{ℕ, true, List, [], ◌∷◌, replicate, refl, arith}
use Rattle.rack.specs.declared.refusal.Refusal.TheVariants.{NoSuchDefinition}
use Rattle.definitions.specs.declared.operand.Operator.TheVariants.{Meet, Join}
use Rattle.definitions.specs.declared.operand.Operand.TheVariants.{Works}
use Rattle.definitions.specs.Operands.{numbered}
use Rattle.methods.specs.declared.translate.Method.TheVariants.{NodeMerging}
use Rattle.algebra.specs.Models.{one_state}
use Rattle.lives.specs.Moments.{Call.combine, outset}
use Rattle.lives.specs.Life.{Life, Life.opening, Life.translating, Life.combining, Life.evaluating, Life.beginning, Life.going_on, Life.closing, Life.refusing}
use Rattle.lives.specs.Example.{one_way, first_definition, second_definition, SomeLife}
use Rattle.lives.proofs.some_life.Goals as goal

abbrev buffer : List ℕ
buffer = replicate 17 0

some_life : SomeLife
some_life =
    let l0 : Life one_state 2 outset = opening in
    let l1 = translating l0 NodeMerging one_way 5 (numbered 1) 1 (first_definition ∷ []) ((omega arith, (omega arith, tt)), tt) refl refl in
    let l2 = combining l1 Join (numbered 1) (Works (record { 0 = 0x13 })) _ (omega arith) (omega arith) refl refl in
    let l3 = evaluating l2 (numbered 2) (replicate 256 true) 2 true 2 refl refl refl in
    let l4 = refusing l3 (combine Meet (numbered 9) (numbered 1)) NoSuchDefinition (first_definition ∷ second_definition ∷ []) (refl, refl) in
    let l5 = beginning l4 (numbered 1) buffer _ 7 (omega arith) refl (record { length_is = refl; line_is = refl }) in
    let l6 = going_on l5 0 buffer _ 17 (omega arith) refl (record { length_is = refl; line_is = refl }) in
    let l7 = closing l6 0 buffer _ 9 (omega arith) refl (record { length_is = refl; line_is = refl }) in
    (_, l7, refl)

pub returns : goal.returns
returns c = some_life
