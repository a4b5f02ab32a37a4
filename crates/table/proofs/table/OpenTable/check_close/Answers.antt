-- The end is read at the line that is due.
use Rattle.std.proofs.lemmas.Result.{err_from_is_err_and}
use Rattle.table.proofs.Tables.{close_refused}
use Rattle.table.proofs.table.OpenTable.check_close.Goals as goal

pub returns-in_err-end : goal.returns-in_err-end
returns-in_err-end c =
    let told = err_from_is_err_and c.from_residual.result c.from_residual.ensures.1 in
    rw (told.1, told.2) (close_refused c.args.self.now.entered c.due-line.ensures.number c.due-line.ensures.bytes c.in_err-end.ensures)
