use Rattle.std.proofs.Common.{append_assoc, rules}
use Rattle.tase_tool.proofs.decoding.pdu_line.Goals as goal

pub returns : goal.returns
returns c = search (rules, append_assoc)
