-- A way with no literal left decides; otherwise the first record does.
use Rattle.std.proofs.Common.{sym, ◌∙◌, rules, tests}
use Rattle.std.proofs.lemmas.Iterator.{YieldsList-from_slice}
use Rattle.std.proofs.lemmas.Iterator.Search.{any_from_yields_List}
use Rattle.working.specs.Records.{ways_in}
use Rattle.decomposition.proofs.Begun.{spent, any_spent, begins_empty, begins_part}
use Rattle.decomposition.proofs.split.begins.Goals as goal

pub returns-then-any : goal.returns-then-any
returns-then-any c =
    let some = any_from_yields_List spent c.any.new.self _ c.any.result c.any.ensures.ran (YieldsList-from_slice c.args.list.now (cc)) (λ x b q k. search (rules, tests)) in
    begins_empty (ways_in c.args.list.now) (sym (some ∙ any_spent c.args.list.now) ∙ c.if-any.true)

pub returns-in-Some : goal.returns-in-Some
returns-in-Some c =
    let some = any_from_yields_List spent c.any.new.self _ c.any.result c.any.ensures.ran (YieldsList-from_slice c.args.list.now (cc)) (λ x b q k. search (rules, tests)) in
    begins_part c.args.list.now _ (sym (some ∙ any_spent c.args.list.now) ∙ c.if-any.false) c.first.ensures.value c.and_then.ensures c.in-Some.is
