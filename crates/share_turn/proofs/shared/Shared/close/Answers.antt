use Rattle.std.proofs.Common.{ap, sym, ◌∙◌, subst, length}
use Rattle.share_turn.specs.Entries.{Each, Keeps, Claims}
use Rattle.share_turn.specs.Public.{numbers}
use Rattle.share_turn.specs.declared.seat_view.Phase.TheVariants.{Waiting}
use Rattle.share_turn.proofs.Called.{closes}
use Rattle.share_turn.proofs.shared.Shared.close.Goals as goal

pub await_others-requires-clause-ended : goal.await_others-requires-clause-ended
await_others-requires-clause-ended g c = c.seat.invariant.1
    ∙ sym (ap (λ m. length m.0.ended) c.await_turn.ensures.out.1
    ∙ ap (λ m. length m.0.ended) c.draw_ticket-ticket.ensures.me)

pub returns-clause-all : goal.returns-clause-all
returns-clause-all g c =
    let e = c.await_others.ensures.same.1 in
    let both = closes g.O.Object.setup g.O.Object.history c.seat.inside.place.table_id
    c.seat.inside.place.me.0 c.draw_ticket-ticket.new.place.me.0
    (Waiting c.draw_ticket-ticket.result) c.await_turn.new.place.me
    c.draw_ticket-ticket.result c.take_out.result
    (ap (λ m. m.0) c.draw_ticket-ticket.ensures.me) c.await_turn.ensures.out
    (sym (ap (λ m. m.1) e) ∙ c.take_out.ensures.object) c.await_others.ensures.alone in
    subst (λ s. Each (Keeps (g.O.Object.history c.take_out.result))
    (numbers s)) c.seat.view_is both.0

pub returns-clause-no_other : goal.returns-clause-no_other
returns-clause-no_other g c =
    let e = c.await_others.ensures.same.1 in
    let both = closes g.O.Object.setup g.O.Object.history c.seat.inside.place.table_id
    c.seat.inside.place.me.0 c.draw_ticket-ticket.new.place.me.0
    (Waiting c.draw_ticket-ticket.result) c.await_turn.new.place.me
    c.draw_ticket-ticket.result c.take_out.result
    (ap (λ m. m.0) c.draw_ticket-ticket.ensures.me) c.await_turn.ensures.out
    (sym (ap (λ m. m.1) e) ∙ c.take_out.ensures.object) c.await_others.ensures.alone in
    subst (λ s. Each (λ e. Claims (numbers s) e.0)
    (g.O.Object.history c.take_out.result)) c.seat.view_is both.1
