use Rattle.std.proofs.Common.{[]}
use Rattle.asking_end.proofs.Turned.{is_caller}
use Rattle.asking_end.proofs.asking.AskingEnd.new.Goals as goal

pub invariant_of-result : goal.invariant_of-result
invariant_of-result g c = is_caller g.A.Agenda.acts c.args.title c.args.agenda []
    c.in_ok-calling.calling c.in_ok-calling.ensures.ok
