-- Whatever the method wrote keeps the script sound.
use Rattle.std.proofs.Common.{Ok, arith}
use Rattle.table.specs.Kept.{ways_of}
use Rattle.script.proofs.Soundness.{settled_sound}
use Rattle.script.proofs.script.Script.translate.Goals as goal

pub invariant_of-self-2 : goal.invariant_of-self-2
invariant_of-self-2 c =
    let self = c.args.self.now in
    let settled = c.in_ok-answer.ensures in
    record {
      room = c.translate.new.draft.room;
      within = omega (arith, settled.translated.grown.within);
      bounded = self.bounded;
      sound = settled_sound c.args.method (ways_of c.args.table.now.ways.now) c.args.work.now c.translate.new.work (Ok c.in_ok-answer.answer) self.sound settled;
    }
