-- What an operand is worth over an algebra: at settings of the parts, and by a list of definitions, each worth its operator applied to
-- what its operands are worth. And what a table's ways are worth: the join over the ways of the meet of each way's literals.
use Rattle.std.specs.Prelude.{ℕ, ◌-◌, List, [], ◌∷◌, ◌++◌, slice_index_or}
use Rattle.rack.specs.declared.part.Literal.{Literal}
use Rattle.rack.specs.declared.part.Sign.{Sign}
use Rattle.rack.specs.declared.part.Sign.TheVariants as sign
use Rattle.rack.specs.Way.{Way}
use Rattle.definitions.specs.declared.operand.Operator.{Operator}
use Rattle.definitions.specs.declared.operand.Operator.TheVariants.{Meet, Join}
use Rattle.definitions.specs.declared.operand.Operand.{Operand}
use Rattle.definitions.specs.declared.operand.Operand.TheVariants.{Never, Always, Works, Out, Defined}
use Rattle.definitions.specs.declared.operand.Definition.{Definition}
use Rattle.algebra.specs.Algebra.{Algebra}

-- a value for every part, by part number
abbrev pub Settings : Algebra → Type 0
Settings A = ℕ → A.Value

abbrev pub applied : (A : Algebra) → Operator → A.Value → A.Value → A.Value
applied A Meet a b = A.meet a b
applied A Join a b = A.join a b

-- vs are the values of the definitions, from number 1 on
abbrev pub operand_worth : (A : Algebra) → Settings A → List A.Value → Operand → A.Value
operand_worth A s vs Never = A.bottom
operand_worth A s vs Always = A.top
operand_worth A s vs (Works p) = s p.0
operand_worth A s vs (Out p) = A.complement (s p.0)
operand_worth A s vs (Defined n) = slice_index_or vs (n.0 - 1) A.bottom

abbrev pub definition_worth : (A : Algebra) → Settings A → List A.Value → Definition → A.Value
definition_worth A s vs d = applied A d.operator (operand_worth A s vs d.first) (operand_worth A s vs d.second)

-- the values of ds behind vs, one after another
abbrev pub values_after : (A : Algebra) → Settings A → List A.Value → List Definition → List A.Value
values_after A s vs [] = vs
values_after A s vs (d ∷ ds) = values_after A s (vs ++ definition_worth A s vs d ∷ []) ds

abbrev pub values : (A : Algebra) → Settings A → List Definition → List A.Value
values A s ds = values_after A s [] ds

-- what an operand is worth by the definitions ds
abbrev pub worth : (A : Algebra) → Settings A → List Definition → Operand → A.Value
worth A s ds x = operand_worth A s (values A s ds) x

abbrev pub signed_worth : (A : Algebra) → Sign → A.Value → A.Value
signed_worth A sign.Works v = v
signed_worth A sign.Out v = A.complement v

abbrev pub literal_worth : (A : Algebra) → Settings A → Literal → A.Value
literal_worth A s l = signed_worth A l.sign (s l.part.0)

-- a meet over no literals is top
abbrev pub way_worth : (A : Algebra) → Settings A → Way → A.Value
way_worth A s [] = A.top
way_worth A s (l ∷ w) = A.meet (literal_worth A s l) (way_worth A s w)

-- a join over no ways is bottom
abbrev pub ways_worth : (A : Algebra) → Settings A → List Way → A.Value
ways_worth A s [] = A.bottom
ways_worth A s (w ∷ ws) = A.join (way_worth A s w) (ways_worth A s ws)
