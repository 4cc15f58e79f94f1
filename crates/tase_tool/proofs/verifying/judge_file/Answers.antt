use Rattle.std.proofs.Common.{codes}
use Rattle.commands.specs.declared.io.input.TheConstants.{TEXT_LIMIT}
use Rattle.commands.proofs.OfIo.Plans.{IsRun-reads}
use Rattle.tase_tool.specs.Verifying.{input_asked, judged_text}
use Rattle.tase_tool.proofs.verifying.judge_file.Goals as goal

pub returns-clause-runs : goal.returns-clause-runs
returns-clause-runs g c =
    λ judged are. IsRun-reads (g.O.Outside.told c.args.outside.now)
    (g.O.Outside.told c.read_input-read.new.outside) (g.O.Outside.told c.judge_read.new.outside)
    (input_asked (codes "out") TEXT_LIMIT c.args.name.now) (judged_text judged)
    c.read_input-read.result c.judge_read.result c.read_input-read.ensures
    (c.judge_read.ensures.runs judged are)

pub returns-clause-memory : goal.returns-clause-memory
returns-clause-memory g c =
    λ lack. record {
      read = c.read_input-read.result;
      mid = g.O.Outside.told c.read_input-read.new.outside;
      reads = c.read_input-read.ensures;
      lacks = c.judge_read.ensures.memory lack;
    }
