-- The ways that are moved to the front of the room leave enough of it, and the three calls and the close follow the rule.
use Rattle.std.proofs.Common.{take, sym, ap, ◌∙◌, arith}
use Rattle.table.specs.Kept.{literals}
use Rattle.definitions.proofs.Written.{at_once, like, stop}
use Rattle.working.specs.Records.{ways_in, size}
use Rattle.decomposition.specs.Decomposition.{working_of, out_of, under, beside}
use Rattle.decomposition.proofs.Parted.{beside_literals, working_falls, out_falls, rest_falls}
use Rattle.decomposition.proofs.Fuel.{decomposed_by_constant}
use Rattle.decomposition.proofs.Decomposed.{spare_serves, next, told, last, third, second, whole}
use Rattle.decomposition.proofs.split.+decompose.Goals as goal

pub returns-in-Break : goal.returns-in-Break
returns-in-Break t c = like (decomposed_by_constant c.args.draft.now.limit c.in-Break.constant (ways_in c.args.list.now) c.in-Break.ensures) (at_once c.in-Break.constant)

pub decompose-requires : goal.decompose-requires
decompose-requires t c =
    let v = c.in-Continue.part in
    let ws = ways_in c.args.list.now in
    let cut = c.split_at_mut-ways.ensures in
    let front = ap ways_in cut.front ∙ c.divide-held.ensures.held in (
      omega (arith, working_falls v ws (sym c.in-Continue.ensures), ap size front),
      spare_serves (working_of v) ws _ _ front cut.front_len cut.back_len (omega (arith, c.requires, c.divide-held.auto.room)),
    )

pub returns-in_err-working : goal.returns-in_err-working
returns-in_err-working t c =
    let v = c.in-Continue.part in
    let others = ways_in (take c.divide-held.result.1 c.divide-held.new.list) in
    let front = ap ways_in c.split_at_mut-ways.ensures.front ∙ c.divide-held.ensures.held in
    whole v (ways_in c.args.list.now) c.in-Continue.ensures c.divide-held.ensures.left
    (stop _ (second v others _) c.from_residual.ensures.0 (told front c.in_err-working.ensures))

pub divide-held-requires-2 : goal.divide-held-requires-2
divide-held-requires-2 t c = omega (arith, c.requires, beside_literals (working_of c.in-Continue.part) (ways_in c.args.list.now), ap literals c.divide-held.ensures.left, c.divide-held.auto.room)

pub decompose-requires-2 : goal.decompose-requires-2
decompose-requires-2 t c =
    let v = c.in-Continue.part in
    let ws = ways_in c.args.list.now in
    let others = ways_in (take c.divide-held.result.1 c.divide-held.new.list) in
    let left = c.divide-held.ensures.left in
    let cut = c.split_at_mut-ways-2.ensures in
    let front = ap ways_in cut.front ∙ c.divide-held-2.ensures.held in (
      omega (arith, out_falls v ws (sym c.in-Continue.ensures), ap size (front ∙ ap (under (out_of v)) left)),
      spare_serves (out_of v) others _ _ front cut.front_len cut.back_len (omega (arith, c.requires, beside_literals (working_of v) ws, ap literals left, c.divide-held.auto.room, c.divide-held-2.auto.room)),
    )

pub returns-in_err-out : goal.returns-in_err-out
returns-in_err-out t c =
    let v = c.in-Continue.part in
    let others = ways_in (take c.divide-held.result.1 c.divide-held.new.list) in
    let front = ap ways_in c.split_at_mut-ways.ensures.front ∙ c.divide-held.ensures.held in
    let front_2 = ap ways_in c.split_at_mut-ways-2.ensures.front ∙ c.divide-held-2.ensures.held in
    whole v (ways_in c.args.list.now) c.in-Continue.ensures c.divide-held.ensures.left
    (next (second v others) (told front c.in_ok-working.ensures)
    (stop _ (third v others c.in_ok-working.working _) c.from_residual-in_err-out.ensures.0 (told front_2 c.in_err-out.ensures)))

pub decompose-requires-3 : goal.decompose-requires-3
decompose-requires-3 t c =
    let v = c.in-Continue.part in
    let ws = ways_in c.args.list.now in
    let others = ways_in (take c.divide-held.result.1 c.divide-held.new.list) in
    let left = c.divide-held.ensures.left in
    let left_2 = c.divide-held-2.ensures.left in (
      omega (arith, rest_falls v ws (sym c.in-Continue.ensures), ap size (left_2 ∙ ap (beside (out_of v)) left)),
      omega (arith, c.requires, beside_literals (working_of v) ws, ap literals left, beside_literals (out_of v) others, ap literals left_2, c.divide-held.auto.room, c.divide-held-2.auto.room),
    )

pub returns-in_err-rest : goal.returns-in_err-rest
returns-in_err-rest t c =
    let v = c.in-Continue.part in
    let others = ways_in (take c.divide-held.result.1 c.divide-held.new.list) in
    let front = ap ways_in c.split_at_mut-ways.ensures.front ∙ c.divide-held.ensures.held in
    let front_2 = ap ways_in c.split_at_mut-ways-2.ensures.front ∙ c.divide-held-2.ensures.held in
    whole v (ways_in c.args.list.now) c.in-Continue.ensures c.divide-held.ensures.left
    (next (second v others) (told front c.in_ok-working.ensures)
    (next (third v others c.in_ok-working.working) (told front_2 c.in_ok-out.ensures)
    (stop _ (last v c.in_ok-working.working c.in_ok-out.out _) c.from_residual-in_err-rest.ensures.0 (told c.divide-held-2.ensures.left c.in_err-rest.ensures))))

pub returns : goal.returns
returns t c =
    let v = c.in-Continue.part in
    let others = ways_in (take c.divide-held.result.1 c.divide-held.new.list) in
    let front = ap ways_in c.split_at_mut-ways.ensures.front ∙ c.divide-held.ensures.held in
    let front_2 = ap ways_in c.split_at_mut-ways-2.ensures.front ∙ c.divide-held-2.ensures.held in
    whole v (ways_in c.args.list.now) c.in-Continue.ensures c.divide-held.ensures.left
    (next (second v others) (told front c.in_ok-working.ensures)
    (next (third v others c.in_ok-working.working) (told front_2 c.in_ok-out.ensures)
    (next (last v c.in_ok-working.working c.in_ok-out.out) (told c.divide-held-2.ensures.left c.in_ok-rest.ensures) c.close.ensures)))
