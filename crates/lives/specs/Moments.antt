-- A moment in the life of a script: its definitions, its open deliveries, and what has happened, the latest first.
-- V is what settings and answers of evaluations are: values of the algebra that the life is looked at over.
use Rattle.std.specs.Prelude.{ℕ, zero, suc, List, [], ◌∷◌, slice_index_or}
use Rattle.rack.specs.declared.refusal.Refusal.{Refusal}
use Rattle.rack.specs.Way.{Way}
use Rattle.definitions.specs.declared.operand.Operator.{Operator}
use Rattle.definitions.specs.declared.operand.Operand.{Operand}
use Rattle.definitions.specs.declared.operand.Operand.TheVariants.{Never}
use Rattle.definitions.specs.declared.operand.Definition.{Definition}
use Rattle.methods.specs.declared.translate.Method.{Method}

-- a delivery: the operand it was begun with, how many definitions were sent, and the lines that its calls left in buffers, as bytes
pub record OpenDelivery : Type 0 where
  pub operand : Operand
  pub sent : ℕ
  pub lines : List (List ℕ)

-- the calls that can be refused, with all that they are handed: ways entered and how many working records; operands; settings and how
-- many elements; the bytes of a buffer. i is the place of a delivery among the open ones
pub data Call (V : Type 0) : Type 0 where
  translate : (method : Method) (ws : List Way) (records : ℕ) → Call V
  combine : (o : Operator) (a b : Operand) → Call V
  evaluate : (x : Operand) (settings : List V) (elements : ℕ) → Call V
  -- over another algebra: only how many settings and elements there are matters
  evaluate_elsewhere : (x : Operand) (settings elements : ℕ) → Call V
  begin : (x : Operand) (buffer : List ℕ) → Call V
  next : (i : ℕ) (buffer : List ℕ) → Call V
  close : (i : ℕ) (buffer : List ℕ) → Call V

-- a call with its answer; `before` and `after` are the definitions then
pub data Event (V : Type 0) : Type 0 where
  translated : (ws : List Way) (x : Operand) (added : ℕ) (before after : List Definition) → Event V
  combined : (o : Operator) (a b x : Operand) → Event V
  evaluated : (x : Operand) (settings : List V) (answer : V) (operations : ℕ) → Event V
  evaluated_elsewhere : (x : Operand) (operations : ℕ) → Event V
  begun : (x : Operand) (line : List ℕ) → Event V
  gone_on : (x : Operand) (line : List ℕ) → Event V
  -- all lines of the delivery, from its start on
  closed : (x : Operand) (lines : List (List ℕ)) → Event V
  struck : (x : Operand) (lines : List (List ℕ)) → Event V
  turned_down : (c : Call V) (e : Refusal) (before after : List Definition) → Event V

pub record Moment (V : Type 0) : Type 0 where
  pub definitions : List Definition
  pub deliveries : List OpenDelivery
  pub history : List (Event V)

-- a script that was just opened
abbrev pub outset : {V : Type 0} → Moment V
outset = record { definitions = []; deliveries = []; history = [] }

-- the moment behind m, where an event left these definitions and these deliveries
abbrev pub then_on : {V : Type 0} → Moment V → List Definition → List OpenDelivery → Event V → Moment V
then_on m ds ps e = record { definitions = ds; deliveries = ps; history = e ∷ m.history }

-- what a place past the end is read as
abbrev pub no_delivery : OpenDelivery
no_delivery = record { operand = Never; sent = 0; lines = [] }

abbrev pub delivery_at : {V : Type 0} → Moment V → ℕ → OpenDelivery
delivery_at m i = slice_index_or m.deliveries i no_delivery

-- all but the one at place i
abbrev pub without : List OpenDelivery → ℕ → List OpenDelivery
without [] i = []
without (p ∷ ps) zero = ps
without (p ∷ ps) (suc i) = p ∷ without ps i
