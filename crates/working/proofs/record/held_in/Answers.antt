-- A place holds the wanted literal where its own is the same.
use Rattle.std.proofs.Common.{◌∙◌, refl, rules}
use Rattle.working.proofs.Places.{holds_where}
use Rattle.working.proofs.record.held_in.Goals as goal

pub returns : goal.returns
returns c = c.contains.ensures.value ∙ holds_where c.args.wanted _ refl (λ l. search rules) c.args.left.now
