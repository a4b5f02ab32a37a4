-- What combine and the three methods come to, over one algebra: what they add, that it is sound, and what the answer is worth.
-- Each law is stated once, for both operators or for all three methods.
use Rattle.std.specs.Prelude.{◌≡◌, ℕ, ◌-◌, ◌≤◌, List, ◌++◌, length, Some}
use Rattle.rack.specs.Way.{Way}
use Rattle.table.specs.Kept.{kept, literals}
use Rattle.definitions.specs.declared.operand.Operator.{Operator}
use Rattle.definitions.specs.declared.operand.Operand.{Operand}
use Rattle.definitions.specs.declared.operand.Definition.{Definition}
use Rattle.definitions.specs.Combine.{State, combining}
use Rattle.definitions.specs.Sound.{Legal, Sound}
use Rattle.methods.specs.declared.translate.Method.{Method}
use Rattle.methods.specs.Methods.{rule_of}
use Rattle.algebra.specs.Algebra.{Algebra}
use Rattle.algebra.specs.Worth.{Settings, applied, worth, ways_worth}

-- st has the definitions ds and at most n behind them, is sound, and its operand is worth v; every operand of ds is worth what it was
pub record ComesTo (A : Algebra) (s : Settings A) (ds : List Definition) (n : ℕ) (v : A.Value) (st : State) : Type 0 where
  pub rest : List Definition
  pub grows : st.all ≡ ds ++ rest
  pub few : length rest ≤ n
  pub sound : Sound st.all
  pub legal : Legal (length st.all) st.answer
  pub value : worth A s st.all st.answer ≡ v
  pub others_stay : (a : Operand) → Legal (length ds) a → worth A s st.all a ≡ worth A s ds a

-- holds by the laws of the lattice alone
abbrev pub CombineRight : Algebra → Type 0
CombineRight A =
    (limit : ℕ) (o : Operator) (a b : Operand) (ds : List Definition) (st : State) → Sound ds → Legal (length ds) a → Legal (length ds) b
    → combining limit o a b ds ≡ Some st → (s : Settings A) → ComesTo A s ds 1 (applied A o (worth A s ds a) (worth A s ds b)) st

-- ws are any lists of literals; holds by the laws of the lattice alone
abbrev pub MethodsRight : Algebra → Type 0
MethodsRight A =
    (m : Method) (limit : ℕ) (ws : List Way) (ds : List Definition) (st : State) → Sound ds
    → rule_of m limit ws ds ≡ Some st → (s : Settings A) → ComesTo A s ds (literals ws - 1) (ways_worth A s ws) st

-- the one law that needs the complement, and of its laws only that the meet with it is bottom
abbrev pub KeptRight : Algebra → Type 0
KeptRight A = (ws : List Way) (s : Settings A) → ways_worth A s (kept ws) ≡ ways_worth A s ws

-- ws are all ways entered: what is written of the kept ones is worth what all of them are
abbrev pub TranslationRight : Algebra → Type 0
TranslationRight A =
    (m : Method) (limit : ℕ) (ws : List Way) (ds : List Definition) (st : State) → Sound ds
    → rule_of m limit (kept ws) ds ≡ Some st → (s : Settings A) → ComesTo A s ds (literals (kept ws) - 1) (ways_worth A s ws) st
