use Rattle.std.proofs.Common.{[], None, ◌++◌, sym, ap, subst, ◌∙◌}
use Rattle.asking_end.specs.Callers.{AskerStands}
use Rattle.asking_end.proofs.Callers.{calling_stands, calling_said}
use Rattle.asking_end.proofs.calling.CallingEnd+A+A+End.new.Goals as goal

pub returns-clause-ok : goal.returns-clause-ok
returns-clause-ok g c =
    subst (λ p. AskerStands g.A.Agenda.acts c.args.title c.args.agenda [] (record
    { stack = c.in_ok-stack.stack; asker = p; end = None }))
    (sym c.new.ensures)
    (calling_stands g.A.Agenda.acts c.args.title c.args.agenda c.in_ok-stack.stack
    c.in_ok-stack.ensures.ok.0 c.in_ok-stack.ensures.ok.1 c.in_ok-stack.ensures.ok.2)

pub returns-clause-out : goal.returns-clause-out
returns-clause-out g c = c.in_ok-stack.ensures.out
    ∙ ap (λ l. c.args.out.now.items ++ l)
    (sym (calling_said g.A.Agenda.acts c.args.title c.args.agenda))
