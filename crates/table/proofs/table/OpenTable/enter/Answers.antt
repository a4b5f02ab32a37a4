-- The way is read at the line that is due, and goes into the next record where there is one.
use Rattle.std.proofs.Common.{length, set, refl, ap, inl, inr, arith}
use Rattle.std.proofs.lemmas.Result.{err_from_is_err_and}
use Rattle.table.proofs.Tables.{enter_refused, enter_full, enter_housed}
use Rattle.table.proofs.table.OpenTable.enter.Goals as goal
use Rattle.table.proofs.table.OpenTable.enter.Goals.{then-n-self-via-then-n-self, then-n-self-via-else-n-self+then-self-ge-MOST_WAYS}

pub returns-in_err-way-clause-answer : goal.returns-in_err-way-clause-answer
returns-in_err-way-clause-answer c =
    let told = err_from_is_err_and c.from_residual.result c.from_residual.ensures.1 in
    rw (told.1, told.2) (record {
      line = enter_refused c.args.self.now.entered c.due-line.ensures.number c.due-line.ensures.bytes (length c.args.self.now.records.now) c.in_err-way.ensures;
      stays = record { number = refl; count = refl; contents = refl };
    })

pub returns-then-n-self-clause-answer : goal.returns-then-n-self-clause-answer
returns-then-n-self-clause-answer c =
    record {
      line =
          enter_full c.args.self.now.entered c.due-line.ensures.number c.due-line.ensures.bytes (length c.args.self.now.records.now) c.in_ok-way.ensures c.at.ensures
          (elim c.then-n-self.branch [ then-n-self-via-then-n-self w ↦ inl (omega arith) | then-n-self-via-else-n-self+then-self-ge-MOST_WAYS w ↦ inr w.if-self-ge-MOST_WAYS.true ]);
      stays = record { number = refl; count = refl; contents = refl };
    }

pub returns-clause-answer : goal.returns-clause-answer
returns-clause-answer c =
    record {
      written = c.in_ok-way.way;
      line = enter_housed c.args.self.now.entered c.due-line.ensures.number c.due-line.ensures.bytes (length c.args.self.now.records.now) c.in_ok-way.ensures (omega arith) c.if-self-ge-MOST_WAYS.false;
      room = omega arith;
      number_is = refl;
      number = refl;
      count = refl;
      contents = ap (λ n. set c.args.self.now.records.now n c.in_ok-way.way) c.from-n.ensures;
    }
