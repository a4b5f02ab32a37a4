-- An operand that a translation gave is one that its script can read.
use Rattle.std.proofs.Common.{◌≡◌, ℕ, true, leb, List, [], length, Ok, Result, sym, refl, ap, ◌∙◌, arith}
use Rattle.std.proofs.lemmas.Bool.Decides.{nat_tests}
use Rattle.rack.specs.declared.refusal.Refusal.{Refusal}
use Rattle.rack.specs.Way.{Way}
use Rattle.table.specs.Kept.{kept}
use Rattle.definitions.specs.declared.operand.Operand.{Operand}
use Rattle.definitions.specs.declared.operand.Operand.TheVariants.{Never, Always, Works, Out, Defined}
use Rattle.definitions.specs.declared.operand.Definition.{Definition}
use Rattle.definitions.specs.Sound.{Legal}
use Rattle.working.specs.Gather.{needed}
use Rattle.working.specs.Translation.{outcome, shown}
use Rattle.methods.specs.declared.translate.Method.{Method}
use Rattle.methods.specs.Methods.{rule_of}
use Rattle.laws.proofs.Soundly.{method_sound}
use Rattle.script.specs.Script.{known}
use Rattle.script.proofs.Soundness.{empty_sound, wrote_by}

legal_known : (n : ℕ) (x : Operand) → Legal n x → known n x ≡ true
legal_known n Never h = refl
legal_known n Always h = refl
legal_known n (Works p) h = refl
legal_known n (Out p) h = refl
legal_known n (Defined k) h = let l = h.0 in let m = h.1 in grind (arith, nat_tests)

pub answer_known : (m : Method) (limit : ℕ) (ws : List Way) (records : ℕ) (ds all : List Definition) (r : Result (Operand × ℕ) Refusal) (x : Operand) (added : ℕ) → ds ≡ [] → shown r all ≡ outcome (rule_of m) limit ws records ds → r ≡ Ok (x, added) → known (length all) x ≡ true
answer_known m limit ws records ds all r x added e h is =
    let answer = sym (ap (λ s. shown s all) is) ∙ h ∙ ap (outcome (rule_of m) limit ws records) e in
    legal_known (length all) x (method_sound m limit (kept ws) [] (record { answer = x; all = all }) empty_sound (wrote_by (rule_of m limit (kept ws) []) [] (leb (needed (kept ws)) records) _ x added all answer)).2
