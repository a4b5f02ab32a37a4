-- What a call that writes leaves in the draft that it was lent.
use Rattle.std.specs.Prelude.{◌≡◌, ◌≤◌, max, List, take, Some, None, Ok, Err, Option, Result}
use Rattle.definitions.specs.declared.operand.Operand.{Operand}
use Rattle.definitions.specs.declared.operand.Definition.{Definition}
use Rattle.definitions.specs.declared.draft.Draft.{Draft}
use Rattle.definitions.specs.declared.draft.LimitReached.{LimitReached}
use Rattle.definitions.specs.Combine.{State, Writing, counted}

-- the definitions of a draft; slots behind them are open
abbrev pub written_in : Draft → List Definition
written_in d = take d.count d.slots.now

-- what a call says: an operand over the definitions that are there now, or that the limit is reached
abbrev pub seen : Result Operand LimitReached → List Definition → Option State
seen (Ok x) ds = Some (record { answer = x; all = ds })
seen (Err e) ds = None

-- nothing but definitions behind the first ones changed, and no more of them are there than the limit allows
pub record Grown (was after : Draft) : Type 0 where
  pub below : take was.count after.slots.now ≡ written_in was
  pub grown : was.count ≤ after.count
  pub within : after.count ≤ max was.count (counted was.limit)
  pub limit : after.limit ≡ was.limit
  pub lender : after.slots.ghost_name ≡ was.slots.ghost_name

-- the call found the draft as it was, and left it as it is after: its answer and the definitions are as w has it
pub record Wrote (was after : Draft) (r : Result Operand LimitReached) (w : Writing) : Type 0 where
  pub answer : seen r (written_in after) ≡ w (written_in was)
  pub grown : Grown was after
