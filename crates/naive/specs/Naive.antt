-- The naive method: begin with never; for each way, meet its literals from the left, beginning with always, and join the result so far
-- with that meet.
use Rattle.std.specs.Prelude.{ℕ, List, [], ◌∷◌}
use Rattle.rack.specs.Way.{Way}
use Rattle.definitions.specs.declared.operand.Operator.TheVariants.{Meet, Join}
use Rattle.definitions.specs.declared.operand.Operand.{Operand}
use Rattle.definitions.specs.declared.operand.Operand.TheVariants.{Never, Always}
use Rattle.definitions.specs.Combine.{Writing, give, and_then, combining}
use Rattle.working.specs.Records.{operand_of}
use Rattle.working.specs.Translation.{Rule}

abbrev pub meeting : ℕ → Operand → Way → Writing
meeting limit sofar [] = give sofar
meeting limit sofar (l ∷ w) = and_then (combining limit Meet sofar (operand_of l)) (λ m. meeting limit m w)

abbrev pub joining : ℕ → Operand → List Way → Writing
joining limit sofar [] = give sofar
joining limit sofar (w ∷ ws) = and_then (meeting limit Always w) (λ m. and_then (combining limit Join sofar m) (λ j. joining limit j ws))

abbrev pub naively : Rule
naively limit ws = joining limit Never ws
