-- The fifteen refusals: the number of each, and of the nine that reading tells the position and the layer.
use Rattle.std.specs.Prelude.{ℕ, Some, None, Option}
use Rattle.rack.specs.declared.refusal.Position.{Position}
use Rattle.rack.specs.declared.refusal.Layer.{Layer}
use Rattle.rack.specs.declared.refusal.Layer.TheVariants.{Line, Frame, Table}
use Rattle.rack.specs.declared.refusal.Refusal.{Refusal}
use Rattle.rack.specs.declared.refusal.Refusal.TheVariants.{LineLength, NoDigit, UnknownKind, NotDue, Misfit, UnknownSign, NotRising, TableFull, WrongCount, LimitReached, NoSuchDefinition, WrongSettings, MemoryShort, BufferShort, OutOfTurn}

-- as a refusal line writes it
abbrev pub number_of : Refusal → ℕ
number_of (LineLength at) = 1
number_of (NoDigit at) = 2
number_of (UnknownKind at) = 3
number_of (NotDue at) = 4
number_of (Misfit at) = 5
number_of (UnknownSign at) = 6
number_of (NotRising at) = 7
number_of (TableFull at) = 8
number_of (WrongCount at) = 9
number_of LimitReached = 10
number_of NoSuchDefinition = 11
number_of WrongSettings = 12
number_of MemoryShort = 13
number_of BufferShort = 14
number_of OutOfTurn = 15

abbrev pub position_of : Refusal → Option Position
position_of (LineLength at) = Some at
position_of (NoDigit at) = Some at
position_of (UnknownKind at) = Some at
position_of (NotDue at) = Some at
position_of (Misfit at) = Some at
position_of (UnknownSign at) = Some at
position_of (NotRising at) = Some at
position_of (TableFull at) = Some at
position_of (WrongCount at) = Some at
position_of LimitReached = None
position_of NoSuchDefinition = None
position_of WrongSettings = None
position_of MemoryShort = None
position_of BufferShort = None
position_of OutOfTurn = None

abbrev pub layer_of : Refusal → Option Layer
layer_of (LineLength at) = Some Line
layer_of (NoDigit at) = Some Line
layer_of (UnknownKind at) = Some Frame
layer_of (NotDue at) = Some Table
layer_of (Misfit at) = Some Frame
layer_of (UnknownSign at) = Some Frame
layer_of (NotRising at) = Some Table
layer_of (TableFull at) = Some Table
layer_of (WrongCount at) = Some Table
layer_of LimitReached = None
layer_of NoSuchDefinition = None
layer_of WrongSettings = None
layer_of MemoryShort = None
layer_of BufferShort = None
layer_of OutOfTurn = None
