use Rattle.std.proofs.Common.{reverse, Option, refl, subst}
use Rattle.tase_views.specs.declared.event.EventKind.{EventKind}
use Rattle.tase_conn.specs.Wanting.{Wants, WantsSo}
use Rattle.conn_service.proofs.Going.{parting_free, parting_placed, parting_wants, parting_over}
use Rattle.conn_service.proofs.Going.{wants_close, uncut_on}
use Rattle.conn_service.proofs.attending.close.Goals as goal

pub wanted_close-requires : goal.wanted_close-requires
wanted_close-requires c =
    let rows = c.args.node.now.setup.centre in
    let past = reverse c.args.node.now.history in
    let p = c.requires.left in
    record {
      over = parting_over c.args.conn.now.progress p.3 p.5.waits;
      free = parting_free rows past c.args.who c.args.conn.now p;
      placed = parting_placed rows past c.args.who c.args.conn.now p;
    }

pub take_close-requires : goal.take_close-requires
take_close-requires c = record {
  asks = parting_wants c.args.node.now.setup.centre (reverse c.args.node.now.history) c.args.who
      c.in-Some.event c.args.conn.now c.wanted_close.new.conn c.requires.left
      (subst (λ (e : Option EventKind). WantsSo e c.args.conn.now c.wanted_close.new.conn)
      c.in-Some.is c.wanted_close.ensures);
}

pub returns-in-Some-clause-closes : goal.returns-in-Some-clause-closes
returns-in-Some-clause-closes c = λ whole end standing items said h.
    c.take_close.ensures.closes whole end standing items said c.args.conn.now
    (wants_close whole end standing c.args.node.now.setup.centre (reverse c.args.node.now.history)
    c.args.who items said c.in-Some.event c.args.conn.now c.wanted_close.new.conn h
    (subst (λ (e : Option EventKind). Wants c.args.node.now.setup.centre items h.told h.turns e
    c.args.conn.now c.wanted_close.new.conn) c.in-Some.is
    (c.wanted_close.ensures c.args.node.now.setup.centre items h.told h.turns h.stands)))

pub returns-in-None-clause-closes : goal.returns-in-None-clause-closes
returns-in-None-clause-closes c = λ whole end standing items said h.
    let rows = c.args.node.now.setup.centre in
    let past = reverse c.args.node.now.history in
    uncut_on whole end standing rows past past c.args.who items said c.args.conn.now
    c.wanted_close.new.conn refl h
    (subst (λ (e : Option EventKind). Wants rows items h.told h.turns e c.args.conn.now
    c.wanted_close.new.conn) c.in-None.is
    (c.wanted_close.ensures rows items h.told h.turns h.stands))
