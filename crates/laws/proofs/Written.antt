-- What a method has written of some ways: how many definitions, by which weights, and what the answer is worth; and how one step follows
-- another.
use Rattle.std.proofs.Common.{◌≡◌, ℕ, ◌+◌, ◌-◌, ◌≤◌, List, length, ◌∙◌, arith}
use Rattle.definitions.specs.declared.operand.Operand.{Operand}
use Rattle.definitions.specs.declared.operand.Definition.{Definition}
use Rattle.definitions.specs.Combine.{State}
use Rattle.definitions.specs.Sound.{Legal, Sound}
use Rattle.algebra.specs.Algebra.{Algebra, Lattice}
use Rattle.algebra.specs.Worth.{Settings, worth}
use Rattle.laws.proofs.Values.{extends_trans, extends_legal, worth_kept}
use Rattle.laws.proofs.Weights.{weigh, alive}
use Rattle.laws.proofs.Combined.{Grown, give_grown}

-- from ds by at most t - 1 definitions; the answer is a constant where t is 0, and never where z is 0
pub record Written (A : Algebra) (s : Settings A) (ds : List Definition) (t z : ℕ) (v : A.Value) (st : State) : Type 0 where
  pub grown : Grown A s ds (t - 1) v st
  pub light : weigh st.answer ≤ t
  pub live : alive st.answer ≤ z

module _ (A : Algebra) (L : Lattice A) (s : Settings A) where
  -- one step after another; how many definitions in all is told apart
  pub onto : {ds : List Definition} {m n : ℕ} {u v : A.Value} {p q : State} → Grown A s ds m u p → Grown A s p.all n v q → Grown A s ds (length q.all) v q
  onto g h = record { ext = extends_trans g.ext h.ext; sound = h.sound; legal = h.legal; value = h.value; few = omega arith }

  pub settled : {ds : List Definition} {m : ℕ} {u : A.Value} {q : State} (n : ℕ) (v : A.Value) → Grown A s ds m u q → length q.all ≤ length ds + n → u ≡ v → Grown A s ds n v q
  settled n v g l e = record { ext = g.ext; sound = g.sound; legal = g.legal; value = g.value ∙ e; few = l }

  -- an operand of before a step is worth the same after it
  pub still : {ds : List Definition} {m : ℕ} {u : A.Value} {q : State} (a : Operand) → Grown A s ds m u q → Legal (length ds) a → worth A s q.all a ≡ worth A s ds a
  still a g k = worth_kept A s a g.ext k

  pub still_legal : {ds : List Definition} {m : ℕ} {u : A.Value} {q : State} (a : Operand) → Grown A s ds m u q → Legal (length ds) a → Legal (length q.all) a
  still_legal a g k = extends_legal a g.ext k

  pub given : (x : Operand) (ds : List Definition) (t z : ℕ) (v : A.Value) → Sound ds → Legal (length ds) x → worth A s ds x ≡ v → weigh x ≤ t → alive x ≤ z → Written A s ds t z v (record { answer = x; all = ds })
  given x ds t z v S k e l a = record { grown = give_grown A L s x ds (t - 1) v S k e; light = l; live = a }
