-- A line that is no end is entered, or stops the reading; an end closes the table, and what follows it decides.
use Rattle.std.proofs.Common.{sym, ap, ◌∙◌}
use Rattle.std.proofs.lemmas.Result.{err_from_is_err_and}
use Rattle.table.specs.Tables.{body_from}
use Rattle.table.proofs.Readings.{body_more, filled_more, body_stops, close_stops}
use Rattle.table.proofs.table.OpenTable.fill.Goals as goal

pub returns-in_err-check_close-clause-outcome : goal.returns-in_err-check_close-clause-outcome
returns-in_err-check_close-clause-outcome c =
    let told = err_from_is_err_and c.from_residual.result c.from_residual.ensures.1 in
    let all = c.args.lines in
    let ls = c.next.new.self in
    let rest = ap (body_from c.loop-bytes.self) (sym c.in-Some.ensures.steps) ∙ c.loop-bytes.invariant.rest in
    rw (told.1, told.2) (close_stops c.loop-bytes.invariant.filled all ls rest c.due.ensures.number c.due.ensures.bytes c.if-is_end.ensures c.in_err-check_close.ensures)

pub loop-bytes-preserved : goal.loop-bytes-preserved
loop-bytes-preserved c =
    let so = c.loop-bytes.invariant in
    let all = c.args.lines in
    let ls = c.next.new.self in
    let rest = ap (body_from c.loop-bytes.self) (sym c.in-Some.ensures.steps) ∙ so.rest in
    record {
      rest = body_more so.filled all ls rest c.due.ensures.number c.due.ensures.bytes _ c.if-is_end.ensures c.in_ok-enter.ensures.answer;
      filled = filled_more so.filled all ls rest c.due.ensures.number c.due.ensures.bytes _ c.if-is_end.ensures c.in_ok-enter.ensures.answer;
      lender = c.in_ok-enter.ensures.lender ∙ so.lender;
    }

pub returns-in_err-enter-clause-outcome : goal.returns-in_err-enter-clause-outcome
returns-in_err-enter-clause-outcome c =
    let told = err_from_is_err_and c.from_residual-in_err-enter.result c.from_residual-in_err-enter.ensures.1 in
    let all = c.args.lines in
    let ls = c.next.new.self in
    let rest = ap (body_from c.loop-bytes.self) (sym c.in-Some.ensures.steps) ∙ c.loop-bytes.invariant.rest in
    rw (told.1, told.2) (body_stops c.loop-bytes.invariant.filled all ls rest c.due.ensures.number c.due.ensures.bytes _ c.if-is_end.ensures c.in_err-enter.ensures.answer)
