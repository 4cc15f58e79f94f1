use Rattle.std.proofs.Common.{take}
use Rattle.outside.specs.Sink.{AppendsAll}
use Rattle.plain_text.specs.Escaped.{escaped_text}
use Rattle.tase_tool.proofs.discover.ending.write_escaped.Given as goal

abbrev pub invariant-loop-octet : goal.invariant-loop-octet
invariant-loop-octet g l =
    AppendsAll (g.K.Sink.told l.fn.sink) (g.K.Sink.told l.sink)
    (escaped_text (take l.octet-index l.octets))
