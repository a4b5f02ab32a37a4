-- Decomposition: what is written of a list of ways, by the part that comes first in it.
-- Those that hold the part working are written first, then of the others those that hold it out, then the rest; the close joins the
-- three operands.
use Rattle.std.specs.Prelude.{ℕ, zero, suc, not, List, [], ◌∷◌, map, filter}
use Rattle.std.specs.declared.ops.ControlFlow.{ControlFlow}
use Rattle.std.specs.declared.ops.ControlFlow.TheVariants.{Continue, Break}
use Rattle.rack.specs.declared.part.Literal.{Literal}
use Rattle.rack.specs.declared.part.Part.{Part}
use Rattle.rack.specs.declared.part.Sign.TheVariants as sign
use Rattle.rack.specs.Way.{Way}
use Rattle.table.specs.Kept.{holds}
use Rattle.definitions.specs.declared.operand.Operand.{Operand}
use Rattle.definitions.specs.declared.operand.Operand.TheVariants.{Never, Always, Works, Out}
use Rattle.definitions.specs.declared.operand.Operator.TheVariants.{Meet, Join}
use Rattle.definitions.specs.Combine.{Writing, give, and_then, choose, combining}
use Rattle.working.specs.Records.{lacking, has_empty, size}
use Rattle.working.specs.Translation.{Rule}

-- the literal of a part that asks that it works
abbrev pub working_of : Part → Literal
working_of v = record { part = v; sign = sign.Works }

-- the literal of a part that asks that it is out
abbrev pub out_of : Part → Literal
out_of v = record { part = v; sign = sign.Out }

-- the ways that hold h, each without it
abbrev pub under : Literal → List Way → List Way
under h ws = map (lacking h) (filter (holds h) ws)

-- the ways that do not hold h
abbrev pub beside : Literal → List Way → List Way
beside h ws = filter (λ w. not (holds h w)) ws

-- the part of the first literal of the first way; or what the ways are worth at once: never where there is no way, always where one
-- has no literal
abbrev pub start_of : List Way → ControlFlow Operand Part
start_of [] = Break Never
start_of ([] ∷ ws) = Break Always
start_of ((l ∷ w) ∷ ws) = choose (has_empty ws) (Break Always) (Continue l.part)

-- a, b and c stand for the ways that hold v working, those that hold it out, and the rest
abbrev pub closing : ℕ → Part → Operand → Operand → Operand → Writing
closing limit v a b c =
    and_then (combining limit Meet (Works v) a) (λ m. and_then (combining limit Meet (Out v) b) (λ n. and_then (combining limit Join m n) (λ j. combining limit Join j c)))

-- `others` are those of ws that do not hold v working; sub writes each of the three kinds
abbrev pub by_part : ℕ → (List Way → Writing) → Part → List Way → List Way → Writing
by_part limit sub v ws others =
    and_then (sub (under (working_of v) ws)) (λ a. and_then (sub (under (out_of v) others)) (λ b. and_then (sub (beside (out_of v) others)) (λ c. closing limit v a b c)))

-- ways that are worth a constant at once are that, and otherwise the part that comes first divides them
abbrev pub by_start : ℕ → (List Way → Writing) → List Way → ControlFlow Operand Part → Writing
by_start limit sub ws (Break x) = give x
by_start limit sub ws (Continue v) = by_part limit sub v ws (beside (working_of v) ws)

-- the same, at most so many levels deep; each kind is smaller than the whole, so that the size of the list is deep enough
abbrev pub decompose_in : ℕ → ℕ → List Way → Writing
decompose_in limit zero ws = give Never
decompose_in limit (suc n) ws = by_start limit (decompose_in limit n) ws (start_of ws)

-- the rule of decomposition
abbrev pub decomposing : Rule
decomposing limit ws = decompose_in limit (size ws) ws
