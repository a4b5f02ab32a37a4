-- The lines of a delivery that are unsent: each next that is accepted takes the first of them.
use Rattle.std.proofs.Common.{◌≡◌, ℕ, suc, ◌+◌, ◌-◌, ◌<◌, List, ◌++◌, length, take, drop, None, ap, ◌∙◌, add-one, append_assoc, arith}
use Rattle.std.proofs.Math.Seq.{take-append_seam}
use Rattle.std.proofs.lemmas.Bool.Decides.{nat_tests}
use Rattle.definitions.specs.declared.operand.Operand.{Operand}
use Rattle.definitions.specs.Operands.{reach}
use Rattle.script.specs.Script.{definitions_of}
use Rattle.delivery.specs.declared.delivery.Delivery.{Delivery}
use Rattle.delivery.specs.Calls.{next_line, next_refusal, sources, Went}
use Rattle.preprocess.specs.Answer.{lines_from}

-- the lines of the definitions that are still to be sent
abbrev pub unsent_lines : Delivery → List ℕ
unsent_lines d = lines_from (sources d) d.sent (reach d.operand - d.sent)

next_due : (x : Operand) (sent : ℕ) (buffer : List ℕ) → next_refusal x sent buffer ≡ None → sent < reach x
next_due x sent buffer e = grind (arith, nat_tests)

pub unsent_lines-next : (d e : Delivery) (was after : List ℕ) (n : ℕ) (items : List ℕ) → Went d e was after n → items ++ take (n - 0) after ++ unsent_lines e ≡ items ++ unsent_lines d
unsent_lines-next d e was after n items w =
    let ds = sources d in
    let x = d.operand in
    let i = d.sent in
    let line = next_line ds i in
    let length_is : n - 0 ≡ length line = omega (arith, w.length_is) in
    let line_is : take (n - 0) after ≡ line = ap (λ k. take k after) length_is ∙ ap (take (length line)) w.line ∙ take-append_seam line (drop (length line) was) in
    let one_less : suc (reach x - (i + 1)) ≡ reach x - i = omega (arith, next_due x i was w.due) in
    let rest : unsent_lines e ≡ lines_from ds (suc i) (reach x - (i + 1)) =
    ap (λ s. lines_from (definitions_of s) e.sent (reach e.operand - e.sent)) w.script_is ∙ ap (λ y. lines_from ds e.sent (reach y - e.sent)) w.operand_is ∙ ap (λ k. lines_from ds k (reach x - k)) w.one_more ∙ ap (λ k. lines_from ds k (reach x - (i + 1))) (add-one i) in
    append_assoc items (take (n - 0) after) (unsent_lines e) ∙ ap (λ t. items ++ t) (ap (λ t. t ++ unsent_lines e) line_is ∙ ap (λ t. line ++ t) rest ∙ ap (lines_from ds i) one_less)
