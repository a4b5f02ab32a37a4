-- What combine answers on a script: 11 for either operand first, and then by the rules within the limit.
use Rattle.std.specs.Prelude.{◌≡◌, ℕ, ◌&&◌, List, length, Some, None, Ok, Err, Option, Result}
use Rattle.rack.specs.declared.refusal.Refusal.{Refusal}
use Rattle.rack.specs.declared.refusal.Refusal.TheVariants.{LimitReached, NoSuchDefinition}
use Rattle.definitions.specs.declared.operand.Operator.{Operator}
use Rattle.definitions.specs.declared.operand.Operand.{Operand}
use Rattle.definitions.specs.declared.operand.Definition.{Definition}
use Rattle.definitions.specs.Combine.{State, choose, combining}
use Rattle.script.specs.declared.script.Script.{Script}
use Rattle.script.specs.Script.{definitions_of, known}

-- an operand with the definitions then, or a refusal, which leaves the definitions as they were
pub data Reply : Type 0 where
  done : State → Reply
  told : Refusal → List Definition → Reply

abbrev pub or_limit : List Definition → Option State → Reply
or_limit ds None = told LimitReached ds
or_limit ds (Some s) = done s

abbrev pub combination : ℕ → Operator → Operand → Operand → List Definition → Reply
combination limit o a b ds = choose (known (length ds) a && known (length ds) b) (or_limit ds (combining limit o a b ds)) (told NoSuchDefinition ds)

abbrev pub replied : Result Operand Refusal → List Definition → Reply
replied (Ok x) ds = done (record { answer = x; all = ds })
replied (Err e) ds = told e ds

pub record Combined (was after : Script) (o : Operator) (a b : Operand) (r : Result Operand Refusal) : Type 0 where
  pub answer : replied r (definitions_of after) ≡ combination was.limit o a b (definitions_of was)
  pub limit : after.limit ≡ was.limit
