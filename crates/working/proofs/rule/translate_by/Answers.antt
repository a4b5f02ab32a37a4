-- The kept ways stand at the front of the working records, and what is written of them is what is answered.
use Rattle.std.proofs.Common.{ap, sym}
use Rattle.table.specs.Kept.{ways_of}
use Rattle.definitions.proofs.Written.{like}
use Rattle.working.specs.Gather.{Held}
use Rattle.working.proofs.Translating.{told_short, told_written, told_limit, in_front, room_behind}
use Rattle.working.proofs.rule.translate_by.Goals as goal

pub write-requires : goal.write-requires
write-requires g c =
    let cut = c.split_at_mut-list.ensures in
    room_behind c.in-Some.ensures _ _ cut.value cut.front_len c.gather.auto.work cut.back_len

pub returns-in_default : goal.returns-in_default
returns-in_default g c = told_short g.W.Writer.rule (ways_of c.args.ways.now) c.args.work.now _ c.args.draft.now c.in_default.ensures

pub returns-in_err-operand : goal.returns-in_err-operand
returns-in_err-operand g c =
    let cut = c.split_at_mut-list.ensures in
    let ws = ways_of c.args.ways.now in
    let h : Held ws c.args.work.now c.gather.new.work c.in-Some.n = c.in-Some.ensures in
    told_limit g.W.Writer.rule ws c.args.work.now _ c.args.draft.now h.serves _ c.from_residual.ensures.1
    (like (ap (g.W.Writer.rule c.args.draft.now.limit) (sym (in_front h _ _ cut.value cut.front_len))) c.in_err-operand.ensures)

pub returns : goal.returns
returns g c =
    let cut = c.split_at_mut-list.ensures in
    let ws = ways_of c.args.ways.now in
    let h : Held ws c.args.work.now c.gather.new.work c.in-Some.n = c.in-Some.ensures in
    told_written g.W.Writer.rule ws c.args.work.now _ c.args.draft.now h.serves
    (like (ap (g.W.Writer.rule c.args.draft.now.limit) (sym (in_front h _ _ cut.value cut.front_len))) c.in_ok-operand.ensures)
