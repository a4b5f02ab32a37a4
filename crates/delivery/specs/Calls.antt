-- The calls of a delivery: when each is refused, what it writes, and what becomes of the delivery.
use Rattle.std.specs.Prelude.{◌≡◌, ℕ, ◌+◌, List, length, Some, None, Option, Result, MatchResult, nat_lt, slice_index_or}
use Rattle.rack.specs.declared.refusal.Refusal.{Refusal}
use Rattle.rack.specs.declared.refusal.Refusal.TheVariants.{NoSuchDefinition, BufferShort, OutOfTurn}
use Rattle.definitions.specs.declared.operand.Operand.{Operand}
use Rattle.definitions.specs.declared.operand.Definition.{Definition}
use Rattle.definitions.specs.Operands.{reach}
use Rattle.definitions.specs.Combine.{choose}
use Rattle.definitions.specs.Sound.{blank}
use Rattle.script.specs.declared.script.Script.{Script}
use Rattle.script.specs.Script.{definitions_of, known}
use Rattle.delivery.specs.declared.delivery.Delivery.{Delivery}
use Rattle.delivery.specs.Lines.{start_line, definition_line, end_line, over}

-- the longest line has 17 bytes, and a shorter buffer takes none
abbrev pub buffer_refusal : List ℕ → Option Refusal
buffer_refusal buffer = choose (nat_lt (length buffer) 17) (Some BufferShort) None

abbrev pub begin_refusal : List Definition → Operand → List ℕ → Option Refusal
begin_refusal ds x buffer = choose (known (length ds) x) (buffer_refusal buffer) (Some NoSuchDefinition)

-- of a delivery of x, so many sent
abbrev pub next_refusal : Operand → ℕ → List ℕ → Option Refusal
next_refusal x sent buffer = choose (nat_lt sent (reach x)) (buffer_refusal buffer) (Some OutOfTurn)

abbrev pub close_refusal : Operand → ℕ → List ℕ → Option Refusal
close_refusal x sent buffer = choose (nat_lt sent (reach x)) (Some OutOfTurn) (buffer_refusal buffer)

-- the definition that comes next behind so many sent
abbrev pub next_line : List Definition → ℕ → List ℕ
next_line ds sent = definition_line (slice_index_or ds sent blank)

-- the definitions of the script that a delivery borrows
abbrev pub sources : Delivery → List Definition
sources d = definitions_of d.script.now

-- begin, where it is accepted
pub record Opened (s : Script) (x : Operand) (was after : List ℕ) (d : Delivery) (n : ℕ) : Type 0 where
  pub due : begin_refusal (definitions_of s) x was ≡ None
  pub length_is : n ≡ length (start_line (reach x))
  pub line : after ≡ over (start_line (reach x)) was
  pub script_is : d.script.now ≡ s
  pub operand_is : d.operand ≡ x
  pub none_sent : d.sent ≡ 0

abbrev pub Begun : Script → Operand → List ℕ → List ℕ → Result (Delivery × ℕ) Refusal → Type 0
Begun s x was after r = MatchResult r (λ p. Opened s x was after p.0 p.1) (λ e. (begin_refusal (definitions_of s) x was ≡ Some e) × (after ≡ was))

-- next, where it is accepted
pub record Went (d e : Delivery) (was after : List ℕ) (n : ℕ) : Type 0 where
  pub due : next_refusal d.operand d.sent was ≡ None
  pub length_is : n ≡ length (next_line (sources d) d.sent)
  pub line : after ≡ over (next_line (sources d) d.sent) was
  pub script_is : e.script.now ≡ d.script.now
  pub operand_is : e.operand ≡ d.operand
  pub one_more : e.sent ≡ d.sent + 1

abbrev pub Sent : Delivery → Delivery → List ℕ → List ℕ → Result ℕ Refusal → Type 0
Sent d e was after r = MatchResult r (Went d e was after) (λ f. (next_refusal d.operand d.sent was ≡ Some f) × (e ≡ d) × (after ≡ was))

-- close, where it is accepted
pub record Ended (d : Delivery) (was after : List ℕ) (n : ℕ) : Type 0 where
  pub due : close_refusal d.operand d.sent was ≡ None
  pub length_is : n ≡ length (end_line d.operand)
  pub line : after ≡ over (end_line d.operand) was

abbrev pub Closed : Delivery → List ℕ → List ℕ → Result ℕ (Refusal × Delivery) → Type 0
Closed d was after r = MatchResult r (Ended d was after) (λ p. (close_refusal d.operand d.sent was ≡ Some p.0) × (p.1 ≡ d) × (after ≡ was))
