-- The lines from here on come to what all of them come to.
use Rattle.std.proofs.Common.{◌≡◌}
use Rattle.table.specs.Tables.{Filled, body_from}
use Rattle.table.proofs.table.OpenTable.fill.Given as goal

abbrev pub invariant-loop-bytes : goal.invariant-loop-bytes
invariant-loop-bytes l = record {
  rest : body_from l.self l.lines ≡ body_from l.initial.self l.initial.lines;
  filled : Filled l.initial.self l.self;
  lender : l.self.records.ghost_name ≡ l.initial.self.records.ghost_name;
}
