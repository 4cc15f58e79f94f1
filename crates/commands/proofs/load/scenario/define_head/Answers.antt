use Rattle.std.proofs.Common.{append_assoc, rules}
use Rattle.commands.proofs.load.scenario.define_head.Goals as goal

pub returns : goal.returns
returns c = search (rules, append_assoc)
