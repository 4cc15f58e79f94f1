use Rattle.std.specs.Arc.{arc_value}
use Rattle.tase_tool.proofs.Verified.{answers_of}
use Rattle.tase_tool.proofs.verifying.answered_from.Goals as goal

pub returns : goal.returns
returns g c =
    answers_of (arc_value c.args.centre.now) c.args.key c.args.text.now c.read_journal.result
    c.value_or_end-read.result c.value_or_end-read.ensures c.read_journal.ensures
