-- Byte i is that of pair i of the digits.
use Rattle.std.proofs.Common.{◌<◌, ◌∙◌, length, arith}
use Rattle.std.proofs.lemmas.List.{length-set, length-take-le}
use Rattle.text.proofs.Pairs.{put_byte, rest_stays}
use Rattle.text.proofs.digits.decode.Goals as goal

pub loop-i-preserved : goal.loop-i-preserved
loop-i-preserved c =
    let so = c.loop-i.invariant in
    let inside : c.loop-i.i < c.min-n.result = omega (arith, length-take-le c.min-n.result c.as_chunks.result.0.now (omega arith)) in
    let room : c.loop-i.i < length c.loop-i.into = omega (arith, so.long) in
    record {
      long = length-set c.loop-i.into c.loop-i.i c.byte.result ∙ so.long;
      front = put_byte c.args.digits.now c.as_chunks.result.0.now c.as_chunks.ensures.front c.min-n.result (omega arith) c.loop-i.into c.loop-i.i inside room c.byte.result c.byte.ensures so.front;
      rest = rest_stays c.loop-i.into c.args.into.now c.loop-i.i c.byte.result room so.long so.rest;
    }
