-- What calls can be handed: a part's number is a u8 and a definition's number a u16, in operands and in the literals of ways.
use Rattle.std.specs.Prelude.{◌<◌, List}
use Rattle.std.specs.List.{AllByRecursion}
use Rattle.rack.specs.declared.part.Literal.{Literal}
use Rattle.rack.specs.Way.{Way}
use Rattle.definitions.specs.declared.operand.Operand.{Operand}
use Rattle.definitions.specs.declared.operand.Operand.TheVariants.{Never, Always, Works, Out, Defined}

abbrev pub InRange : Operand → Type 0
InRange Never = Unit {0}
InRange Always = Unit {0}
InRange (Works p) = p.0 < 256
InRange (Out p) = p.0 < 256
InRange (Defined n) = n.0 < 65536

abbrev pub LiteralInRange : Literal → Type 0
LiteralInRange l = l.part.0 < 256

abbrev pub WayInRange : Way → Type 0
WayInRange w = AllByRecursion LiteralInRange w

abbrev pub WaysInRange : List Way → Type 0
WaysInRange ws = AllByRecursion WayInRange ws
