-- What needs no algebra: combining and each method add definitions at the end, keep them sound, and answer a legal operand.
-- It is the laws at an algebra of one value.
use Rattle.std.proofs.Common.{◌≡◌, ℕ, List, ◌++◌, length, Some, refl}
use Rattle.rack.specs.Way.{Way}
use Rattle.definitions.specs.declared.operand.Operator.{Operator}
use Rattle.definitions.specs.declared.operand.Operand.{Operand}
use Rattle.definitions.specs.declared.operand.Definition.{Definition}
use Rattle.definitions.specs.Combine.{State, combining}
use Rattle.definitions.specs.Sound.{Legal, Sound}
use Rattle.methods.specs.declared.translate.Method.{Method}
use Rattle.methods.specs.Methods.{rule_of}
use Rattle.algebra.specs.Algebra.{Algebra, Lattice}
use Rattle.laws.specs.Laws.{ComesTo}
use Rattle.laws.proofs.Shown.{combine_right, methods_right}

abbrev single : Algebra
single = record { Value = Unit {0}; meet = λ a b. tt; join = λ a b. tt; bottom = tt; top = tt; complement = λ a. tt }

single_lattice : Lattice single
single_lattice =
    record {
      meet_comm = λ a b. refl;
      join_comm = λ a b. refl;
      meet_assoc = λ a b c. refl;
      join_assoc = λ a b c. refl;
      meet_absorbs = λ a b. refl;
      join_absorbs = λ a b. refl;
      distributes = λ a b c. refl;
      meet_top = λ a. refl;
      join_bottom = λ a. refl;
    }

-- what is there now is ds and more behind, and the answer can be read by it
abbrev pub Soundly : List Definition → State → Type 0
Soundly ds st = ((rest : List Definition) × (st.all ≡ ds ++ rest)) × Sound st.all × Legal (length st.all) st.answer

soundly : {n : ℕ} {ds : List Definition} {st : State} → ComesTo single (λ p. tt) ds n tt st → Soundly ds st
soundly c = ((c.rest, c.grows), c.sound, c.legal)

pub combine_sound : (limit : ℕ) (o : Operator) (a b : Operand) (ds : List Definition) (st : State) → Sound ds → Legal (length ds) a → Legal (length ds) b → combining limit o a b ds ≡ Some st → Soundly ds st
combine_sound limit o a b ds st S ka kb e = soundly (combine_right single single_lattice limit o a b ds st S ka kb e (λ p. tt))

pub method_sound : (m : Method) (limit : ℕ) (ws : List Way) (ds : List Definition) (st : State) → Sound ds → rule_of m limit ws ds ≡ Some st → Soundly ds st
method_sound m limit ws ds st S e = soundly (methods_right single single_lattice m limit ws ds st S e (λ p. tt))
