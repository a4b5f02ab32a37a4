-- The definition that is sent stands behind those sent before.
use Rattle.std.proofs.Common.{◌≡◌, length, get_or, refl, ap, ◌∙◌, rules}
use Rattle.definitions.specs.Sound.{blank}
use Rattle.delivery.specs.Lines.{definition_line, over}
use Rattle.delivery.specs.Calls.{sources, next_line}
use Rattle.delivery.proofs.delivery.Delivery.next.Goals as goal

pub returns : goal.returns
returns c =
    let due : c.definition_line.result ≡ next_line (sources c.args.self.now) c.args.self.now.sent =
    c.definition_line.ensures ∙ ap (λ ds. definition_line (get_or ds c.args.self.now.sent blank)) c.definitions.ensures in
    record {
      due = search rules;
      length_is = c.put_front.ensures.length ∙ ap length due;
      line = c.put_front.ensures.front ∙ ap (λ l. over l c.args.line.now) due;
      script_is = refl;
      operand_is = refl;
      one_more = refl;
    }
