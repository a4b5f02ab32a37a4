-- The finder finds a literal exactly where the way holds it.
use Rattle.std.proofs.Common.{◌∙◌}
use Rattle.table.proofs.KeptWays.{found_held}
use Rattle.table.proofs.kept.is_held.Goals as goal

pub returns : goal.returns
returns c = c.is_some.ensures ∙ found_held c.args.way.now c.args.literal.now c.find_first.result c.find_first.ensures
