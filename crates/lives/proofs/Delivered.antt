-- What the lines of a delivery read back as: each call leaves its line in the buffer's first bytes, and definitions in range read as
-- themselves.
use Rattle.std.proofs.Common.{◌≡◌, ℕ, ◌+◌, ◌-◌, ◌<◌, ◌≤◌, Bool, true, false, eqb, ltb, List, [], ◌∷◌, ◌++◌, map, length, get_or, take, drop, Some, None, Option, sym, refl, ap, ◌∙◌, arith}
use Rattle.std.specs.List.{AllByRecursion}
use Rattle.std.proofs.lemmas.List.{length_push, take-append-le, take_all, take_more, map-append, get_or_at}
use Rattle.std.proofs.lemmas.Bool.{ltb-true, ltb-false}
use Rattle.rack.specs.declared.refusal.Refusal.{Refusal}
use Rattle.rack.specs.declared.refusal.Refusal.TheVariants.{NoSuchDefinition, OutOfTurn, WrongSettings, MemoryShort}
use Rattle.definitions.specs.declared.operand.Operand.{Operand}
use Rattle.definitions.specs.declared.operand.Operand.TheVariants.{Never, Always, Works, Out, Defined}
use Rattle.definitions.specs.declared.operand.Definition.{Definition}
use Rattle.definitions.specs.Operands.{number, reach}
use Rattle.definitions.specs.Combine.{choose}
use Rattle.definitions.specs.Sound.{blank, Legal}
use Rattle.script.specs.Script.{known}
use Rattle.script.proofs.Soundness.{known_legal}
use Rattle.evaluate.specs.Evaluation.{evaluation_refusal}
use Rattle.delivery.specs.Lines.{start_line, definition_line, end_line}
use Rattle.delivery.specs.Calls.{buffer_refusal, begin_refusal, next_refusal, close_refusal, next_line}
use Rattle.delivery.specs.ReadBack.{in_front, end_read, definitions_read}
use Rattle.delivery.proofs.ReadBack.{definition_reads, end_line_reads}
use Rattle.lives.specs.Ranges.{InRange}
use Rattle.lives.specs.Moments.{OpenDelivery}
use Rattle.lives.specs.Life.{Left}
use Rattle.lives.proofs.Ranged.{DefinitionInRange}

-- ---- calls that are not refused
none_some : {e : Refusal} → Some e ≡ None → ⊥
none_some h = let z : ◌≡◌ {A = ℕ} 0 1 = cc in omega arith

-- the first test passed, and so the second was asked
passed : (t : Bool) (e : Refusal) (rest : Option Refusal) → choose t rest (Some e) ≡ None → t ≡ true
passed true e rest h = refl
passed false e rest h = absurd (none_some h)

-- the first test did not refuse
spared : (t : Bool) (e : Refusal) (rest : Option Refusal) → choose t (Some e) rest ≡ None → t ≡ false
spared true e rest h = absurd (none_some h)
spared false e rest h = refl

pub begin_known : (ds : List Definition) (x : Operand) (buffer : List ℕ) → begin_refusal ds x buffer ≡ None → Legal (length ds) x
begin_known ds x buffer h = known_legal (length ds) x (passed (known (length ds) x) NoSuchDefinition (buffer_refusal buffer) h)

pub evaluate_known : (ds : List Definition) (x : Operand) (settings elements : ℕ) → evaluation_refusal ds x settings elements ≡ None → Legal (length ds) x
evaluate_known ds x settings elements h =
    known_legal (length ds) x (passed (known (length ds) x) NoSuchDefinition (choose (eqb settings 256) (choose (ltb elements (reach x)) (Some MemoryShort) None) (Some WrongSettings)) h)

next_due : (x : Operand) (sent : ℕ) (buffer : List ℕ) → next_refusal x sent buffer ≡ None → sent < reach x
next_due x sent buffer h = ltb-true sent (reach x) (passed (ltb sent (reach x)) OutOfTurn (buffer_refusal buffer) h)

close_due : (x : Operand) (sent : ℕ) (buffer : List ℕ) → close_refusal x sent buffer ≡ None → reach x ≤ sent
close_due x sent buffer h = ltb-false sent (reach x) (spared (ltb sent (reach x)) OutOfTurn (buffer_refusal buffer) h)

pub reach_legal : (n : ℕ) (x : Operand) → Legal n x → reach x ≤ n
reach_legal n Never k = omega arith
reach_legal n Always k = omega arith
reach_legal n (Works p) k = omega arith
reach_legal n (Out p) k = omega arith
reach_legal n (Defined p) k = k.1

pub legal_reach : (n : ℕ) (x : Operand) → Legal n x → Legal (reach x) x
legal_reach n Never k = tt
legal_reach n Always k = tt
legal_reach n (Works p) k = tt
legal_reach n (Out p) k = tt
legal_reach n (Defined p) k = (k.0, omega arith)

-- ---- lines
number_fits : (x : Operand) → InRange x → number x < 65536
number_fits Never h = omega arith
number_fits Always h = omega arith
number_fits (Works p) h = omega arith
number_fits (Out p) h = omega arith
number_fits (Defined n) h = h

-- what stands in front is the line
left_line : {line buffer after : List ℕ} {n : ℕ} → Left line buffer after n → take n after ≡ line
left_line {line} {buffer} {after} {n} l =
    let rest = drop (length line) buffer in
    (λ i. take (l.length_is i) (l.line_is i)) ∙ take-append-le (length line) line rest (omega arith) ∙ take_all (length line) line (omega arith)

lines_read : (es : List Definition) (x : Operand) → AllByRecursion DefinitionInRange es → definitions_read (map definition_line es ++ end_line x ∷ []) ≡ es
lines_read [] x r = refl
lines_read (d ∷ es) x r =
    ap (λ o. in_front o (definitions_read (map definition_line es ++ end_line x ∷ []))) (definition_reads d (number_fits d.first r.0.0) (number_fits d.second r.0.1))
    ∙ ap (λ (l : List Definition). d ∷ l) (lines_read es x r.1)

-- what an open delivery has left, and what its operand is
pub record Running (ds : List Definition) (p : OpenDelivery) : Type 0 where
  pub legal : Legal (length ds) p.operand
  pub ranged : InRange p.operand
  pub due : p.sent ≤ reach p.operand
  pub lines : p.lines ≡ start_line (reach p.operand) ∷ map definition_line (take p.sent ds)

module _ (ds : List Definition) where
  pub running_begun : (x : Operand) (buffer after : List ℕ) (n : ℕ) → InRange x → begin_refusal ds x buffer ≡ None → Left (start_line (reach x)) buffer after n
      → Running ds (record { operand = x; sent = 0; lines = take n after ∷ [] })
  running_begun x buffer after n r h l = record { legal = begin_known ds x buffer h; ranged = r; due = omega arith; lines = ap (λ (b : List ℕ). b ∷ []) (left_line l) }

  module _ (p : OpenDelivery) (g : Running ds p) (buffer after : List ℕ) (n : ℕ) where
    pub running_on : next_refusal p.operand p.sent buffer ≡ None → Left (next_line ds p.sent) buffer after n → Running ds (record { operand = p.operand; sent = p.sent + 1; lines = p.lines ++ take n after ∷ [] })
    running_on h l =
        let far = reach_legal (length ds) p.operand g.legal in
        let ahead = next_due p.operand p.sent buffer h in
        let inside : p.sent < length ds = omega arith in
        record {
          legal = g.legal;
          ranged = g.ranged;
          due = omega arith;
          lines = (λ i. g.lines i ++ left_line l i ∷ [])
              ∙ ap (λ (ls : List (List ℕ)). start_line (reach p.operand) ∷ ls) (sym (map-append definition_line (take p.sent ds) (get_or ds p.sent blank ∷ [])) ∙ ap (map definition_line) (sym (take_more ds p.sent blank inside)));
        }

    -- all lines of a delivery that is closed
    all_lines : close_refusal p.operand p.sent buffer ≡ None → Left (end_line p.operand) buffer after n → p.lines ++ take n after ∷ [] ≡ start_line (reach p.operand) ∷ (map definition_line (take (reach p.operand) ds) ++ end_line p.operand ∷ [])
    all_lines h l =
        let over = close_due p.operand p.sent buffer h in
        let all : p.sent ≡ reach p.operand = omega (arith, g.due) in
        (λ i. g.lines i ++ left_line l i ∷ []) ∙ ap (λ k. start_line (reach p.operand) ∷ (map definition_line (take k ds) ++ end_line p.operand ∷ [])) all

    pub closed_reads : close_refusal p.operand p.sent buffer ≡ None → Left (end_line p.operand) buffer after n → AllByRecursion DefinitionInRange (take (reach p.operand) ds) → definitions_read (p.lines ++ take n after ∷ []) ≡ take (reach p.operand) ds
    closed_reads h l r = ap definitions_read (all_lines h l) ∙ lines_read (take (reach p.operand) ds) p.operand r

    pub closed_ends : Left (end_line p.operand) buffer after n → end_read (get_or (p.lines ++ take n after ∷ []) (length (p.lines ++ take n after ∷ []) - 1) []) ≡ Some p.operand
    closed_ends l =
        ap end_read (get_or_at p.lines (take n after) [] [] (length (p.lines ++ take n after ∷ []) - 1) (omega (arith, length_push p.lines (take n after))) ∙ left_line l)
        ∙ end_line_reads p.operand (number_fits p.operand g.ranged)
