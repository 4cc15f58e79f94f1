use Rattle.std.proofs.Common.{take, refl}
use Rattle.outside.specs.declared.links.link.Recv.TheVariants.{Got, Idle, End, Failed}
use Rattle.asking_end.proofs.OfService.Received.{piece_taken, nothing_came, link_ended, link_fault}
use Rattle.asking_end.proofs.service.running.receive.Goals as goal

pub returns-in-Got : goal.returns-in-Got
returns-in-Got g c = λ start f e.
    piece_taken g.A.Agenda.acts start (g.T.Terminal.told c.args.terminal.now) c.args.talk.now f e
    (g.T.Terminal.told c.recv.new.self) (Got c.in-Got.count) c.recv.new.buf c.in-Got.ensures
    (take c.in-Got.count c.recv.new.buf) refl tt refl c.hear.result c.hear.new.talk c.hear.ensures

pub returns-in-Idle : goal.returns-in-Idle
returns-in-Idle g c = λ start f e. (
  nothing_came g.A.Agenda.acts start (g.T.Terminal.told c.args.terminal.now) c.args.talk.now f e
      (g.T.Terminal.told c.recv.new.self) Idle c.recv.new.buf c.in-Idle.ensures refl tt refl,
  e,
)

pub returns-in-End : goal.returns-in-End
returns-in-End g c = λ start f e.
    link_ended g.A.Agenda.acts start (g.T.Terminal.told c.args.terminal.now) c.args.talk.now f e
    (g.T.Terminal.told c.recv.new.self) End c.recv.new.buf c.in-End.ensures c.peer_end.result refl
    refl refl c.peer_end.ensures

pub returns-in-Failed : goal.returns-in-Failed
returns-in-Failed g c = λ start f e.
    link_fault g.A.Agenda.acts start (g.T.Terminal.told c.args.terminal.now) c.args.talk.now f e
    (g.T.Terminal.told c.recv.new.self) Failed c.recv.new.buf c.in-Failed.ensures refl refl
