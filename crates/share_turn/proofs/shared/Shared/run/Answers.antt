use Rattle.std.proofs.Common.{ap}
use Rattle.share_turn.proofs.Called.{came}
use Rattle.share_turn.proofs.shared.Shared.run.Goals as goal

pub returns-clause-one : goal.returns-clause-one
returns-clause-one g c = came g.O.Object.setup g.O.Object.history g.O.Object.right
    c.args.place.now.table_id c.args.place.now.me.0 c.draw_ticket-ticket.new.place.me.0 _
    c.await_turn.new.place.me _ c.args.who c.args.self.now.setup c.take_out-object.result
    c.step-outcome.new.self c.args.event c.step-outcome.result c.put_back.new.place.me.0.front
    (ap (λ m. m.0) c.draw_ticket-ticket.ensures.me) c.await_turn.ensures.out
    c.take_out-object.ensures.object c.requires.of.1 c.requires.who c.step-outcome.ensures.right
    c.step-outcome.ensures.added c.step-outcome.ensures.refused
    (ap (λ m. m.0.front) c.put_back.ensures.me)
