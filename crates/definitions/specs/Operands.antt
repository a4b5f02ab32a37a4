-- Operands by kind and number, by the definitions they need and by the literal they stand for; operators by code; and when two operands
-- or two definitions are the same.
use Rattle.std.specs.Prelude.{ℕ, Bool, cond, ◌&&◌, Some, None, Option, ◌==◌, nat_lt}
use Rattle.rack.specs.declared.part.Literal.{Literal}
use Rattle.rack.specs.declared.part.Part.{Part}
use Rattle.rack.specs.declared.part.Sign.{Sign}
use Rattle.rack.specs.declared.part.Sign.TheVariants as sign
use Rattle.definitions.specs.declared.operand.Operator.{Operator}
use Rattle.definitions.specs.declared.operand.Operator.TheVariants.{Meet, Join}
use Rattle.definitions.specs.declared.operand.Operand.{Operand}
use Rattle.definitions.specs.declared.operand.Operand.TheVariants.{Never, Always, Works, Out, Defined}
use Rattle.definitions.specs.declared.operand.Definition.{Definition}

-- as a frame writes them
abbrev pub kind : Operand → ℕ
kind Never = 0
kind Always = 1
kind (Works p) = 2
kind (Out p) = 3
kind (Defined n) = 4

abbrev pub number : Operand → ℕ
number Never = 0
number Always = 0
number (Works p) = p.0
number (Out p) = p.0
number (Defined n) = n.0

-- how many definitions an operand needs: its number where it is a definition, and otherwise 0
abbrev pub reach : Operand → ℕ
reach Never = 0
reach Always = 0
reach (Works p) = 0
reach (Out p) = 0
reach (Defined k) = k.0

abbrev pub signed : Sign → Part → Operand
signed sign.Works p = Works p
signed sign.Out p = Out p

-- the operand of a literal
abbrev pub operand_of : Literal → Operand
operand_of l = signed l.sign l.part

abbrev pub code : Operator → ℕ
code Meet = 0
code Join = 1

-- the operand of a definition's number
abbrev pub numbered : ℕ → Operand
numbered n = Defined (record { 0 = n })

abbrev pub same_operand : Operand → Operand → Bool
same_operand a b = kind a == kind b && number a == number b

-- the operand of a kind and a number, where they name one: a constant has the number 0, and a part one below 256
abbrev pub operand_of_kind : ℕ → ℕ → Option Operand
operand_of_kind kind number =
    cond (kind == 0 && number == 0) (Some Never)
    (cond (kind == 1 && number == 0) (Some Always)
    (cond (kind == 2 && nat_lt number 256) (Some (Works (record { 0 = number })))
    (cond (kind == 3 && nat_lt number 256) (Some (Out (record { 0 = number })))
    (cond (kind == 4) (Some (numbered number)) None))))

-- operator, first and second operand agree
abbrev pub alike : Definition → Definition → Bool
alike d e = code d.operator == code e.operator && (same_operand d.first e.first && same_operand d.second e.second)
