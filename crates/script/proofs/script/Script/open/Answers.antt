-- An empty script is sound.
use Rattle.std.proofs.Common.{refl, arith}
use Rattle.script.proofs.Soundness.{empty_sound}
use Rattle.script.proofs.script.Script.open.Goals as goal

pub invariant_of-result : goal.invariant_of-result
invariant_of-result c = record { room = refl; within = omega arith; bounded = omega arith; sound = ∣ empty_sound ∣₁ }
