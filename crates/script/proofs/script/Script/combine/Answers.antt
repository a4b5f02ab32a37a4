-- The count stays within the limit, and what is written keeps the script sound.
use Rattle.std.proofs.Common.{sym, arith, rules}
use Rattle.script.proofs.Soundness.{ran_sound}
use Rattle.script.proofs.script.Script.combine.Goals as goal

pub invariant_of-self-2 : goal.invariant_of-self-2
invariant_of-self-2 c =
    let self = c.args.self.now in
    let wrote = c.combine.ensures in
    record {
      room = c.combine.new.self.room;
      within = omega (arith, wrote.grown.within);
      bounded = self.bounded;
      sound = ran_sound c.args.operator c.args.first c.args.second c.combine.result (search rules) self.sound (sym c.if-not-knows.ensures) (sym c.if-not-knows-2.ensures) wrote;
    }
