use Rattle.std.proofs.Common.{ℕ, true, List, refl, sym, subst}
use Rattle.outside.specs.Sink.{AppendsAll, AppendsPart}
use Rattle.asking_end.specs.declared.service.talking.Talk.{Talk}
use Rattle.asking_end.proofs.OfService.Flushed.{heard_now, link_failed, sink_failed, flushed}
use Rattle.asking_end.proofs.service.running.flush.Goals as goal

pub returns-then-has_failed-clause-flushes : goal.returns-then-has_failed-clause-flushes
returns-then-has_failed-clause-flushes g c = λ start so.
    let t = g.T.Terminal.told c.args.terminal.now in
    let new : Talk g.row.A.Denot ℕ g.row.A-End.Denot = record {
      asking = c.args.talk.now.asking;
      out = c.send_out-sent.new.out;
      shown = c.args.talk.now.shown;
    } in
    link_failed g.A.Agenda.acts start t c.args.talk.now so
    (g.T.Terminal.told c.send_out-sent.new.terminal)
    c.send_out-sent.result c.send_out-sent.new.out.items
    (c.send_out-sent.ensures.sends so.now (heard_now g.A.Agenda.acts start t c.args.talk.now so))
    c.send_out-sent.ensures.unwritten new (sym c.if-has_failed.ensures)

pub returns-in-Ok-clause-flushes : goal.returns-in-Ok-clause-flushes
returns-in-Ok-clause-flushes g c = λ start so.
    let t = g.T.Terminal.told c.args.terminal.now in
    let after = g.T.Terminal.told c.send_out-sent.new.terminal in
    let last = g.T.Terminal.told c.show.new.self in
    let new : Talk g.row.A.Denot ℕ g.row.A-End.Denot = record {
      asking = c.args.talk.now.asking;
      out = c.send_out-sent.new.out;
      shown = c.truncate.new.self;
    } in
    flushed g.A.Agenda.acts start t c.args.talk.now so after c.send_out-sent.result
    c.send_out-sent.new.out.items
    (c.send_out-sent.ensures.sends so.now (heard_now g.A.Agenda.acts start t c.args.talk.now so))
    c.send_out-sent.ensures.unwritten last c.in-Ok.ensures.link c.in-Ok.ensures.moments new
    (sym c.if-has_failed.ensures)
    (subst (λ (l : List ℕ). AppendsAll after.sink last.sink l) c.as_slice.ensures.value
    c.in-Ok.ensures.writes)
    refl refl c.truncate.ensures.items

pub returns-in-Err-clause-flushes : goal.returns-in-Err-clause-flushes
returns-in-Err-clause-flushes g c = λ start so.
    let t = g.T.Terminal.told c.args.terminal.now in
    let after = g.T.Terminal.told c.send_out-sent.new.terminal in
    let last = g.T.Terminal.told c.show.new.self in
    let new : Talk g.row.A.Denot ℕ g.row.A-End.Denot = record {
      asking = c.args.talk.now.asking;
      out = c.send_out-sent.new.out;
      shown = c.args.talk.now.shown;
    } in
    sink_failed g.A.Agenda.acts start t c.args.talk.now so after c.send_out-sent.result
    c.send_out-sent.new.out.items
    (c.send_out-sent.ensures.sends so.now (heard_now g.A.Agenda.acts start t c.args.talk.now so))
    c.send_out-sent.ensures.unwritten last c.in-Err.ensures.link c.in-Err.ensures.moments new
    (sym c.if-has_failed.ensures)
    (subst (λ (l : List ℕ). AppendsPart after.sink last.sink l true) c.as_slice.ensures.value
    c.in-Err.ensures.writes)
