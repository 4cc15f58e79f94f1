use Rattle.asking_end.proofs.OfService.Begun.{start_of, begun, begun_lasts}
use Rattle.asking_end.proofs.service.running.run_asking.Goals as goal

pub returns : goal.returns
returns g c = λ title agenda first t heard.
    let before = g.T.Terminal.told c.args.terminal.now in
    c.talk_on.ensures (start_of title agenda before first)
    (begun g.A.Agenda.acts title agenda before first c.args.talk.now t heard)
    (begun_lasts g.A.Agenda.acts title agenda c.args.talk.now t)
