-- Two counts of an operand, by which definitions are counted: a constant weighs nothing, and only never is not alive.
use Rattle.std.proofs.Common.{◌≡◌, ℕ, ◌≤◌, false, sym, arith}
use Rattle.std.proofs.lemmas.Bool.{false≢true}
use Rattle.definitions.specs.declared.operand.Operand.{Operand}
use Rattle.definitions.specs.declared.operand.Operand.TheVariants.{Never, Always, Works, Out, Defined}
use Rattle.definitions.specs.Operands.{same_operand}
use Rattle.definitions.specs.Sound.{Constant}

-- 1 unless the operand is a constant
abbrev pub weigh : Operand → ℕ
weigh Never = 0
weigh Always = 0
weigh (Works p) = 1
weigh (Out p) = 1
weigh (Defined k) = 1

-- 1 unless the operand is never
abbrev pub alive : Operand → ℕ
alive Never = 0
alive Always = 1
alive (Works p) = 1
alive (Out p) = 1
alive (Defined k) = 1

pub weigh_one : (a : Operand) → weigh a ≤ 1
weigh_one Never = omega arith
weigh_one Always = omega arith
weigh_one (Works p) = omega arith
weigh_one (Out p) = omega arith
weigh_one (Defined k) = omega arith

pub alive_one : (a : Operand) → alive a ≤ 1
alive_one Never = omega arith
alive_one Always = omega arith
alive_one (Works p) = omega arith
alive_one (Out p) = omega arith
alive_one (Defined k) = omega arith

pub weigh_alive : (a : Operand) → weigh a ≤ alive a
weigh_alive Never = omega arith
weigh_alive Always = omega arith
weigh_alive (Works p) = omega arith
weigh_alive (Out p) = omega arith
weigh_alive (Defined k) = omega arith

pub weigh_plain : (a : Operand) → (Constant a → ⊥) → 1 ≤ weigh a
weigh_plain Never n = absurd (n tt)
weigh_plain Always n = absurd (n tt)
weigh_plain (Works p) n = omega arith
weigh_plain (Out p) n = omega arith
weigh_plain (Defined k) n = omega arith

pub not_constant : (a : Operand) → same_operand a Never ≡ false → same_operand a Always ≡ false → Constant a → ⊥
not_constant Never e f = λ c. false≢true (sym e)
not_constant Always e f = λ c. false≢true (sym f)
not_constant (Works p) e f = λ c. c
not_constant (Out p) e f = λ c. c
not_constant (Defined k) e f = λ c. c
