use Rattle.std.proofs.Common.{inr}
use Rattle.commands.specs.Io.Plans.{says}
use Rattle.commands.proofs.OfIo.Plans.{IsRun-reads}
use Rattle.capture_text.specs.Captures.{capture_in}
use Rattle.tase_tool.specs.Listing.{stream_said}
use Rattle.tase_tool.specs.Saying.{capture_asked}
use Rattle.tase_tool.proofs.listing.run_listing.Goals as goal

pub returns-clause-runs : goal.returns-clause-runs
returns-clause-runs g c =
    IsRun-reads (g.O.Outside.told c.args.outside.now)
    (g.O.Outside.told c.read_input-read.new.outside) (g.O.Outside.told c.list_read.new.outside)
    (capture_asked c.args.capture.now) (λ octets. says (stream_said (capture_in octets)))
    c.read_input-read.result c.list_read.result c.read_input-read.ensures c.list_read.ensures.runs

pub returns-clause-memory : goal.returns-clause-memory
returns-clause-memory g c =
    λ lack. inr (record {
      read = c.read_input-read.result;
      mid = g.O.Outside.told c.read_input-read.new.outside;
      reads = c.read_input-read.ensures;
      lacks = c.list_read.ensures.memory lack;
    })
