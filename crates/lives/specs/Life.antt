-- The lives of a script: every order of calls that the borrow of a delivery allows, each answered as the contract of the call says.
-- A script is opened with a limit; translate and combine change it, and wait until no delivery is open. What calls are handed is in range
-- where the promise depends on it, and otherwise any numbers and any bytes.
use Rattle.std.specs.Prelude.{◌≡◌, ℕ, ◌+◌, ◌<◌, List, [], ◌∷◌, ◌++◌, length, take, slice_set, Some, None}
use Rattle.rack.specs.declared.refusal.Refusal.{Refusal}
use Rattle.rack.specs.Way.{Way}
use Rattle.definitions.specs.declared.operand.Operator.{Operator}
use Rattle.definitions.specs.declared.operand.Operand.{Operand}
use Rattle.definitions.specs.declared.operand.Definition.{Definition}
use Rattle.definitions.specs.Operands.{reach}
use Rattle.definitions.specs.Combine.{State, counted}
use Rattle.working.specs.Translation.{Outcome.written, Outcome.refused, outcome}
use Rattle.methods.specs.declared.translate.Method.{Method}
use Rattle.methods.specs.Methods.{rule_of}
use Rattle.script.specs.Combination.{Reply.done, Reply.told, combination}
use Rattle.algebra.specs.Algebra.{Algebra}
use Rattle.algebra.specs.Worth.{worth}
use Rattle.evaluate.specs.Evaluation.{settings_of, evaluation_refusal}
use Rattle.delivery.specs.Lines.{start_line, end_line, over}
use Rattle.delivery.specs.Calls.{begin_refusal, next_refusal, close_refusal, next_line}
use Rattle.lives.specs.Ranges.{InRange, WaysInRange}
use Rattle.lives.specs.Moments.{Call, Call.translate, Call.combine, Call.evaluate, Call.evaluate_elsewhere, Call.begin, Call.next, Call.close, Event.translated, Event.combined, Event.evaluated, Event.evaluated_elsewhere, Event.begun, Event.gone_on, Event.closed, Event.struck, Event.turned_down, Moment, outset, then_on, delivery_at, without}

-- a call of a delivery answered n and left a line at the front of a buffer, whose later bytes stay
pub record Left (line buffer after : List ℕ) (n : ℕ) : Type 0 where
  pub length_is : n ≡ length line
  pub line_is : after ≡ over line buffer

-- the call can be made at the moment m, is refused by e, and leaves the definitions `after`
abbrev pub Refused : (A : Algebra) → ℕ → Moment A.Value → Call A.Value → Refusal → List Definition → Type 0
Refused A limit m (translate method ws records) e after = (m.deliveries ≡ []) × (outcome (rule_of method) (counted limit) ws records m.definitions ≡ refused e) × (after ≡ m.definitions)
Refused A limit m (combine o a b) e after = (m.deliveries ≡ []) × (combination (counted limit) o a b m.definitions ≡ told e after)
Refused A limit m (evaluate x settings elements) e after = (evaluation_refusal m.definitions x (length settings) elements ≡ Some e) × (after ≡ m.definitions)
Refused A limit m (evaluate_elsewhere x settings elements) e after = (evaluation_refusal m.definitions x settings elements ≡ Some e) × (after ≡ m.definitions)
Refused A limit m (begin x buffer) e after = (begin_refusal m.definitions x buffer ≡ Some e) × (after ≡ m.definitions)
Refused A limit m (next i buffer) e after = (i < length m.deliveries) × (next_refusal (delivery_at m i).operand (delivery_at m i).sent buffer ≡ Some e) × (after ≡ m.definitions)
Refused A limit m (close i buffer) e after = (i < length m.deliveries) × (close_refusal (delivery_at m i).operand (delivery_at m i).sent buffer ≡ Some e) × (after ≡ m.definitions)

-- the moments that a script opened with the limit can come to; a limit above 4,096 counts as 4,096.
-- The line of a call of a delivery is what it left in the first bytes of the buffer, as many as it answered
pub data Life (A : Algebra) (limit : ℕ) : Moment A.Value → Type 0 where
  opening : Life A limit outset
  translating : {m : Moment A.Value} → Life A limit m → (method : Method) (ws : List Way) (records : ℕ) (x : Operand) (added : ℕ) (all : List Definition)
      → WaysInRange ws → m.deliveries ≡ []
      → outcome (rule_of method) (counted limit) ws records m.definitions ≡ written x added all
      → Life A limit (then_on m all m.deliveries (translated ws x added m.definitions all))
  combining : {m : Moment A.Value} → Life A limit m → (o : Operator) (a b : Operand) (st : State)
      → InRange a → InRange b → m.deliveries ≡ []
      → combination (counted limit) o a b m.definitions ≡ done st
      → Life A limit (then_on m st.all m.deliveries (combined o a b st.answer))
  evaluating : {m : Moment A.Value} → Life A limit m → (x : Operand) (settings : List A.Value) (elements : ℕ) (answer : A.Value) (operations : ℕ)
      → evaluation_refusal m.definitions x (length settings) elements ≡ None
      → answer ≡ worth A (settings_of A settings) m.definitions x → operations ≡ reach x
      → Life A limit (then_on m m.definitions m.deliveries (evaluated x settings answer operations))
  evaluating_elsewhere : {m : Moment A.Value} → Life A limit m → (x : Operand) (settings elements operations : ℕ)
      → evaluation_refusal m.definitions x settings elements ≡ None → operations ≡ reach x
      → Life A limit (then_on m m.definitions m.deliveries (evaluated_elsewhere x operations))
  beginning : {m : Moment A.Value} → Life A limit m → (x : Operand) (buffer after : List ℕ) (n : ℕ) → InRange x
      → begin_refusal m.definitions x buffer ≡ None → Left (start_line (reach x)) buffer after n
      → Life A limit (then_on m m.definitions (record { operand = x; sent = 0; lines = take n after ∷ [] } ∷ m.deliveries) (begun x (take n after)))
  going_on : {m : Moment A.Value} → Life A limit m → (i : ℕ) (buffer after : List ℕ) (n : ℕ) → i < length m.deliveries
      → next_refusal (delivery_at m i).operand (delivery_at m i).sent buffer ≡ None → Left (next_line m.definitions (delivery_at m i).sent) buffer after n
      → Life A limit (then_on m m.definitions (slice_set m.deliveries i (record { operand = (delivery_at m i).operand; sent = (delivery_at m i).sent + 1; lines = (delivery_at m i).lines ++ take n after ∷ [] })) (gone_on (delivery_at m i).operand (take n after)))
  closing : {m : Moment A.Value} → Life A limit m → (i : ℕ) (buffer after : List ℕ) (n : ℕ) → i < length m.deliveries
      → close_refusal (delivery_at m i).operand (delivery_at m i).sent buffer ≡ None → Left (end_line (delivery_at m i).operand) buffer after n
      → Life A limit (then_on m m.definitions (without m.deliveries i) (closed (delivery_at m i).operand ((delivery_at m i).lines ++ take n after ∷ [])))
  -- a delivery is given up
  striking : {m : Moment A.Value} → Life A limit m → (i : ℕ) → i < length m.deliveries
      → Life A limit (then_on m m.definitions (without m.deliveries i) (struck (delivery_at m i).operand (delivery_at m i).lines))
  refusing : {m : Moment A.Value} → Life A limit m → (c : Call A.Value) (e : Refusal) (after : List Definition) → Refused A limit m c e after
      → Life A limit (then_on m after m.deliveries (turned_down c e m.definitions after))
