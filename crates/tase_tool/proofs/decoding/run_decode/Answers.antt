use Rattle.std.proofs.Common.{inr}
use Rattle.commands.proofs.OfIo.Plans.{IsRun-reads}
use Rattle.tase_tool.specs.Decoding.{pdu_text}
use Rattle.tase_tool.specs.Saying.{capture_asked}
use Rattle.tase_tool.proofs.decoding.run_decode.Goals as goal

pub returns-clause-runs : goal.returns-clause-runs
returns-clause-runs g c =
    IsRun-reads (g.O.Outside.told c.args.outside.now)
    (g.O.Outside.told c.read_input-read.new.outside) (g.O.Outside.told c.decode_read.new.outside)
    (capture_asked c.args.capture.now) pdu_text c.read_input-read.result c.decode_read.result
    c.read_input-read.ensures c.decode_read.ensures.runs

pub returns-clause-memory : goal.returns-clause-memory
returns-clause-memory g c =
    λ lack. inr (record {
      read = c.read_input-read.result;
      mid = g.O.Outside.told c.read_input-read.new.outside;
      reads = c.read_input-read.ensures;
      lacks = c.decode_read.ensures.memory lack;
    })
