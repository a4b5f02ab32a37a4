-- What a translation gave can be delivered.
use Rattle.std.proofs.Common.{length}
use Rattle.table.specs.Kept.{ways_of}
use Rattle.script.specs.Script.{definitions_of}
use Rattle.preprocess.proofs.Known.{answer_known}
use Rattle.preprocess.proofs.answer.answer.Goals as goal

pub deliver-requires : goal.deliver-requires
deliver-requires c =
    answer_known c.args.method c.open-script.result.limit (ways_of c.in-Ok.table.ways.now) (length c.args.work.now) (definitions_of c.open-script.result) (definitions_of c.translate.new.self) c.translate.result c.in-Ok-translate.operand c.in-Ok-translate.field-0-1 c.open-script.ensures.empty c.translate.ensures.answer c.in-Ok-translate.is
