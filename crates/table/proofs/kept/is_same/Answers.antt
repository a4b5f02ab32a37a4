-- Ways of the same length are the same where every literal is.
use Rattle.std.proofs.Common.{◌≡◌, false, nat_eq, length, sym, ◌∙◌, rules, arith}
use borrow.Author.Tests.{tests}
use Rattle.std.proofs.lemmas.Iterator.{YieldsList-from_slice, YieldsList-from_zip}
use Rattle.std.proofs.lemmas.Iterator.Consumers.{YieldsList-at}
use Rattle.std.proofs.lemmas.Iterator.Search.{all_from_yields_List}
use Rattle.rack.specs.declared.part.Literal.{Literal}
use Rattle.table.specs.Kept.{same_literal}
use Rattle.table.proofs.KeptWays.{decides_literal, same_places, longer}
use Rattle.table.proofs.kept.is_same.Goals as goal

pub returns-then-way-other : goal.returns-then-way-other
returns-then-way-other c =
    let w = c.args.way.now in
    let v = c.args.other.now in
    let first = YieldsList-at c.zip.ensures.first (YieldsList-from_slice w (cc)) in
    let second = YieldsList-from_slice v c.zip.ensures.second.0 in
    all_from_yields_List (λ (p : Literal × Literal). same_literal p.0 p.1) c.all.new.self _ c.all.result c.all.ensures.ran (YieldsList-from_zip first second) (λ x b q k. search (rules, tests, decides_literal))
    ∙ same_places w v (omega (arith, c.if-way-other.true))

pub returns-else-way-other : goal.returns-else-way-other
returns-else-way-other c =
    let w = c.args.way.now in
    let v = c.args.other.now in
    let no : nat_eq (length w) (length v) ≡ false = let ne = c.if-way-other.false in grind arith in
    no ∙ sym (longer w v (λ e. c.if-way-other.false (omega (arith, e))))
