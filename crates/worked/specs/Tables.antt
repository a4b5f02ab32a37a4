-- The tables of the worked cases, way by way, and the script that the worked table comes to.
use Rattle.std.specs.Prelude.{ℕ, List, [], ◌∷◌}
use Rattle.rack.specs.declared.part.Literal.{Literal}
use Rattle.rack.specs.declared.part.Sign.TheVariants as sign
use Rattle.rack.specs.Way.{Way}
use Rattle.definitions.specs.declared.operand.Operator.{Operator}
use Rattle.definitions.specs.declared.operand.Operator.TheVariants.{Meet, Join}
use Rattle.definitions.specs.declared.operand.Operand.{Operand}
use Rattle.definitions.specs.declared.operand.Operand.TheVariants.{Works, Out}
use Rattle.definitions.specs.declared.operand.Definition.{Definition}
use Rattle.definitions.specs.Operands.{numbered}

abbrev on : ℕ → Literal
on p = record { part = record { 0 = p }; sign = sign.Works }

abbrev off : ℕ → Literal
off p = record { part = record { 0 = p }; sign = sign.Out }

abbrev pub works : ℕ → Operand
works p = Works (record { 0 = p })

abbrev pub out : ℕ → Operand
out p = Out (record { 0 = p })

abbrev pub defined : Operator → Operand → Operand → Definition
defined o a b = record { operator = o; first = a; second = b }

abbrev pub no_ways : List Way
no_ways = []

abbrev pub empty_way : List Way
empty_way = [] ∷ []

abbrev pub one_part : List Way
one_part = (on 0x20 ∷ []) ∷ []

-- part 20 works and is out
abbrev pub contradictory_way : List Way
contradictory_way = (on 0x20 ∷ off 0x20 ∷ []) ∷ []

-- the second way holds all that the first does
abbrev pub covered : List Way
covered = (on 0x20 ∷ []) ∷ (on 0x20 ∷ on 0x12 ∷ []) ∷ []

-- part 20 works, or it is out
abbrev pub either : List Way
either = (on 0x20 ∷ []) ∷ (off 0x20 ∷ []) ∷ []

-- the worked table
abbrev pub worked_table : List Way
worked_table =
    (on 0x20 ∷ on 0x12 ∷ []) ∷ (on 0x20 ∷ on 0x22 ∷ on 0x13 ∷ []) ∷ (on 0x10 ∷ on 0x11 ∷ on 0x12 ∷ []) ∷ (on 0x10 ∷ on 0x11 ∷ on 0x22 ∷ on 0x13 ∷ []) ∷ []

-- its definitions by node merging
abbrev pub merged_script : List Definition
merged_script =
    defined Meet (works 0x22) (works 0x13)
    ∷ defined Join (works 0x12) (numbered 1)
    ∷ defined Meet (works 0x20) (numbered 2)
    ∷ defined Meet (works 0x11) (numbered 2)
    ∷ defined Meet (works 0x10) (numbered 4)
    ∷ defined Join (numbered 3) (numbered 5)
    ∷ []
