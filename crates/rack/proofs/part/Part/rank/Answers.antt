-- Each of the 256 entries is the exchange of its place's digits.
use Rattle.std.proofs.Common.{◌<◌, arith, rules}
use Rattle.rack.specs.Rank.{rank_of}
use Rattle.rack.proofs.Apart.{apart}
use Rattle.rack.proofs.Table.{at}
use Rattle.rack.proofs.part.Part.rank.Goals as goal

pub returns : goal.returns
returns c =
    let within : c.args.self.0 < 256 = omega arith in
    record { place = search (rules, at rank_of 256); apart = apart }
