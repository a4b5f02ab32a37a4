-- One life, spelled out: a table of one way is translated, its operand combined and evaluated, a call refused, and a delivery closed.
use Rattle.std.specs.Prelude.{◌≡◌, ℕ, Bool, true, List, [], ◌∷◌, ◌++◌, replicate, codes}
use Rattle.rack.specs.declared.part.Sign.TheVariants as sign
use Rattle.rack.specs.declared.refusal.Refusal.TheVariants.{NoSuchDefinition}
use Rattle.rack.specs.Way.{Way}
use Rattle.definitions.specs.declared.operand.Operator.TheVariants.{Meet, Join}
use Rattle.definitions.specs.declared.operand.Operand.{Operand}
use Rattle.definitions.specs.declared.operand.Operand.TheVariants.{Works}
use Rattle.definitions.specs.declared.operand.Definition.{Definition}
use Rattle.definitions.specs.Operands.{numbered}
use Rattle.algebra.specs.Models.{one_state}
use Rattle.lives.specs.Moments.{Call.combine, Event, Event.translated, Event.combined, Event.evaluated, Event.begun, Event.gone_on, Event.closed, Event.turned_down, Moment}
use Rattle.lives.specs.Life.{Life}

abbrev works : ℕ → Operand
works p = Works (record { 0 = p })

-- parts 20 and 12 work
abbrev pub one_way : List Way
one_way = (record { part = record { 0 = 0x20 }; sign = sign.Works } ∷ record { part = record { 0 = 0x12 }; sign = sign.Works } ∷ []) ∷ []

abbrev pub first_definition : Definition
first_definition = record { operator = Meet; first = works 0x20; second = works 0x12 }

abbrev pub second_definition : Definition
second_definition = record { operator = Join; first = numbered 1; second = works 0x13 }

abbrev pub example_lines : List (List ℕ)
example_lines = (codes "400001" ++ 10 ∷ []) ∷ (codes "5000020020020012" ++ 10 ∷ []) ∷ (codes "60040001" ++ 10 ∷ []) ∷ []

-- the latest first
abbrev pub example_history : List (Event Bool)
example_history =
    closed (numbered 1) example_lines
    ∷ gone_on (numbered 1) (codes "5000020020020012" ++ 10 ∷ [])
    ∷ begun (numbered 1) (codes "400001" ++ 10 ∷ [])
    ∷ turned_down (combine Meet (numbered 9) (numbered 1)) NoSuchDefinition (first_definition ∷ second_definition ∷ []) (first_definition ∷ second_definition ∷ [])
    ∷ evaluated (numbered 2) (replicate 256 true) true 2
    ∷ combined Join (numbered 1) (works 0x13) (numbered 2)
    ∷ translated one_way (numbered 1) 1 [] (first_definition ∷ [])
    ∷ []

-- over one state, with a limit of two definitions
abbrev pub SomeLife : Type 0
SomeLife = (m : Moment Bool) × (Life one_state 2 m) × (m.history ≡ example_history)
