-- Each literal is compared with the one before.
use Rattle.std.proofs.Common.{not, rules}
use borrow.Author.Tests.{tests}
use Rattle.std.proofs.lemmas.Iterator.{YieldsList-from_slice, YieldsList-from_zip}
use Rattle.std.proofs.lemmas.Iterator.Adapters.{YieldsList-from_skip}
use Rattle.std.proofs.lemmas.Iterator.Consumers.{YieldsList-at}
use Rattle.std.proofs.lemmas.Iterator.Search.{position_from_yields_List}
use Rattle.rack.specs.declared.part.Literal.{Literal}
use Rattle.rack.specs.Rank.{rank_of}
use Rattle.text.specs.Frames.{rises}
use Rattle.text.proofs.frame.not_rising.Goals as goal

pub returns-clause-value : goal.returns-clause-value
returns-clause-value c =
    let w = c.args.way.now in
    let first = YieldsList-at c.zip.ensures.first (YieldsList-from_slice w (cc)) in
    let second = YieldsList-at c.zip.ensures.second (YieldsList-from_skip 1 (YieldsList-at c.skip.ensures.source (YieldsList-from_slice w (cc))) c.skip.ensures.count) in
    position_from_yields_List (λ (p : Literal × Literal). not (rises rank_of p.0 p.1)) c.position.new.self _ _ c.position.ensures.ran (YieldsList-from_zip first second) (λ x b q k. search (rules, tests))
