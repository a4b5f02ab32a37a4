-- The number is from 1 to the count.
use Rattle.std.proofs.Common.{arith}
use Rattle.script.proofs.Fetched.{fetches}
use Rattle.script.proofs.script.Script.definition.Goals as goal

pub returns : goal.returns
returns c = fetches c.args.self.now.slots c.args.self.now.count c.args.number.0 (omega arith) (omega arith) (omega arith)
