use Rattle.std.proofs.Common.{arith}
use Rattle.node_core.proofs.OfReplies.Lawful.{shown_lawful}
use Rattle.node_core.proofs.replies.reports.noted_told.Goals as goal

pub returns-in_ok-to_data-in-Some-Point-clause-lawful :
    goal.returns-in_ok-to_data-in-Some-Point-clause-lawful
returns-in_ok-to_data-in-Some-Point-clause-lawful c =
    rw c.in_ok-to_data-in-Some-Point.ensures (shown_lawful c.args.note.value c.args.note.cov
    c.in-Some-Point.see.now.layout (omega arith))
