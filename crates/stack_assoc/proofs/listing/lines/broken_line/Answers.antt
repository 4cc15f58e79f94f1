use Rattle.std.proofs.Common.{append_assoc, rules}
use Rattle.stack_assoc.proofs.listing.lines.broken_line.Goals as goal

pub returns : goal.returns
returns c = search (rules, append_assoc)
