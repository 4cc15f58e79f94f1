use Rattle.tase_tool.proofs.Lacking.{lacks_value}
use Rattle.tase_tool.proofs.verifying.link_from.Goals as goal

pub returns-clause-memory : goal.returns-clause-memory
returns-clause-memory g c =
    λ lack. c.read_link_text.ensures.memory
    (lacks_value c.read_link_text.result c.value_or_end-read.result c.value_or_end-read.ensures
    lack)
