-- Combine: what the meet or join of two operands makes of a list of definitions, within a limit.
-- Its four rules, in their order: a constant gives way; two equal operands are one; an alike definition gives its number; otherwise
-- the next number is defined, or the limit is reached.
use Rattle.std.specs.Prelude.{ℕ, ◌+◌, min, Bool, true, false, List, [], ◌∷◌, ◌++◌, length, Some, None, Option, nat_lt}
use Rattle.definitions.specs.declared.operand.Operator.{Operator}
use Rattle.definitions.specs.declared.operand.Operator.TheVariants.{Meet, Join}
use Rattle.definitions.specs.declared.operand.Operand.{Operand}
use Rattle.definitions.specs.declared.operand.Operand.TheVariants.{Never, Always}
use Rattle.definitions.specs.declared.operand.Definition.{Definition}
use Rattle.definitions.specs.Operands.{numbered, same_operand, alike}

-- an operand, and the definitions by which it is read
pub record State : Type 0 where
  pub answer : Operand
  pub all : List Definition

-- what is written behind a list of definitions; None where a definition is due and the limit is reached
abbrev pub Writing : Type 0
Writing = List Definition → Option State

abbrev pub give : Operand → Writing
give x ds = Some (record { answer = x; all = ds })

abbrev pub onward : Option State → (Operand → Writing) → Option State
onward None next = None
onward (Some s) next = next s.answer s.all

-- one writing and then another; a refusal ends both
abbrev pub and_then : Writing → (Operand → Writing) → Writing
and_then w next ds = onward (w ds) next

-- the first test that holds decides
abbrev pub choose : {X : Type 0} → Bool → X → X → X
choose true x y = x
choose false x y = y

-- the first two rules: the operand that needs no definition, if there is one
abbrev pub simply : Operator → Operand → Operand → Option Operand
simply Meet a b = choose (same_operand a Never) (Some Never) (choose (same_operand b Never) (Some Never) (choose (same_operand a Always) (Some b) (choose (same_operand b Always) (Some a) (choose (same_operand a b) (Some a) None))))
simply Join a b = choose (same_operand a Always) (Some Always) (choose (same_operand b Always) (Some Always) (choose (same_operand a Never) (Some b) (choose (same_operand b Never) (Some a) (choose (same_operand a b) (Some a) None))))

abbrev pub later : Option ℕ → Option ℕ
later None = None
later (Some i) = Some (i + 1)

-- the place of the first alike definition, from 0
abbrev pub place_in : Definition → List Definition → Option ℕ
place_in d [] = None
place_in d (e ∷ es) = choose (alike e d) (Some 0) (later (place_in d es))

-- a limit above 4,096 counts as 4,096
abbrev pub counted : ℕ → ℕ
counted limit = min limit 4096

abbrev pub or_add : ℕ → Definition → Option ℕ → Writing
or_add limit d (Some i) ds = give (numbered (i + 1)) ds
or_add limit d None ds = choose (nat_lt (length ds) (counted limit)) (give (numbered (length ds + 1)) (ds ++ d ∷ [])) None

-- the last two rules
abbrev pub defining : ℕ → Definition → Writing
defining limit d ds = or_add limit d (place_in d ds) ds

abbrev pub or_define : ℕ → Option Operand → Definition → Writing
or_define limit (Some x) d ds = give x ds
or_define limit None d ds = defining limit d ds

abbrev pub combining : ℕ → Operator → Operand → Operand → Writing
combining limit o a b = or_define limit (simply o a b) (record { operator = o; first = a; second = b })
