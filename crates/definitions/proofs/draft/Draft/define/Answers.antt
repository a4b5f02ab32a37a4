-- The finder looks at the definitions in hand; what it finds, or that there is room, decides.
use Rattle.std.proofs.Common.{refl, arith}
use Rattle.std.proofs.lemmas.List.{take-set-le}
use Rattle.definitions.proofs.Alike.{found_at, missing_at, full_at}
use Rattle.definitions.proofs.Written.{stays}
use Rattle.definitions.proofs.draft.Draft.define.Goals as goal

pub returns-in-Some : goal.returns-in-Some
returns-in-Some c = record { answer = found_at c.args.self.now.limit c.args.self.now.slots.now c.args.self.now.count c.min-n.result c.args.definition c.min-n.ensures (omega arith) c.in-Some.i c.in-Some.ensures; grown = stays refl refl refl refl }

pub returns-then-n-min : goal.returns-then-n-min
returns-then-n-min c = record { answer = full_at c.args.self.now.limit c.args.self.now.slots.now c.args.self.now.count c.min-n.result c.args.definition c.min-n.ensures (omega arith) (omega arith) c.in-None.ensures; grown = stays refl refl refl refl }

pub returns-else-n-min : goal.returns-else-n-min
returns-else-n-min c =
    let d = c.args.self.now in
    let n = c.min-n.result in
    record {
      answer = missing_at d.limit d.slots.now d.count n c.args.definition c.min-n.ensures (omega arith) (omega arith) c.in-None.ensures;
      grown = record {
        below = take-set-le d.count d.slots.now n c.args.definition (omega arith);
        grown = omega arith;
        within = omega arith;
        limit = refl;
        lender = refl;
      };
    }
