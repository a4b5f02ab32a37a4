-- Each record is compared by its literals.
use Rattle.std.proofs.Common.{◌∙◌, rules}
use borrow.Author.Tests.{tests}
use Rattle.std.proofs.lemmas.Iterator.{YieldsList-from_slice}
use Rattle.std.proofs.lemmas.Iterator.Search.{any_from_yields_List}
use Rattle.rack.specs.declared.way.WayRecord.{WayRecord}
use Rattle.rack.specs.Way.{way_of}
use Rattle.table.specs.Kept.{same_way}
use Rattle.table.proofs.KeptWays.{among_any}
use Rattle.table.proofs.kept.is_among.Goals as goal

pub returns : goal.returns
returns c =
    any_from_yields_List (λ (r : WayRecord). same_way (way_of r) c.args.way.now) c.any.new.self _ c.any.result c.any.ensures.ran (YieldsList-from_slice c.args.earlier.now (cc)) (λ x b q k. search (rules, tests))
    ∙ among_any c.args.way.now c.args.earlier.now
