use Rattle.std.proofs.Common.{ℕ, List, Bool, true, false, subst}
use Rattle.plain_text.specs.Extends.{Extends}
use Rattle.plain_text.proofs.Extended.{Extends-append}
use Rattle.asking_end.specs.Agendas.{ShowsFirst, as_before}
use Rattle.asking_end.specs.Callers.{HeardOn}
use Rattle.asking_end.proofs.Becoming.{becomes_then}
use Rattle.asking_end.proofs.Callers.{heard_none, heard_then}
use Rattle.asking_end.proofs.Turned.{on_err, shows_less}
use Rattle.asking_end.proofs.calling.CallingEnd+A+A+End.hear_on.Goals as goal

pub loop-init : goal.loop-init
loop-init g c = record {
  hearing = c.requires.hearing;
  heard = λ title agenda octets step h. heard_none g.A.Agenda.acts title agenda octets step
      c.args.out.now.items c.args.shown.now.items c.args.self.now h;
  become = as_before;
}

pub loop-preserved : goal.loop-preserved
loop-preserved g c =
    let acts = g.A.Agenda.acts in
    let w = c.loop.invariant.hearing in
    let next = subst (λ (more : Bool). HeardOn more acts w.title w.agenda w.octets w.step
    c.loop.out.items c.hear_next.new.out.items c.loop.shown.items c.hear_next.new.shown.items
    c.hear_next.new.self) c.if-branch.true
    (c.in_ok-hear_next.ensures.ok w.title w.agenda w.octets w.step w.hears) in
    record {
      hearing = record {
        title = w.title;
        agenda = w.agenda;
        octets = w.octets;
        step = next.0;
        hears = next.1;
      };
      heard = λ title agenda octets step h.
          heard_then true acts title agenda octets step c.args.out.now.items c.loop.out.items
          c.hear_next.new.out.items c.args.shown.now.items c.loop.shown.items
          c.hear_next.new.shown.items c.loop.self c.hear_next.new.self
          (c.loop.invariant.heard title agenda octets step h)
          (λ next n.
          subst (λ (more : Bool). HeardOn more acts title agenda octets next c.loop.out.items
          c.hear_next.new.out.items c.loop.shown.items c.hear_next.new.shown.items
          c.hear_next.new.self) c.if-branch.true
          (c.in_ok-hear_next.ensures.ok title agenda octets next n));
      become = becomes_then acts c.args.self.now.asker.agenda c.loop.self.asker.agenda
          c.hear_next.new.self.asker.agenda c.loop.invariant.become
          c.in_ok-hear_next.ensures.agenda;
    }

pub returns-clause-ok : goal.returns-clause-ok
returns-clause-ok g c = λ title agenda octets step h.
    heard_then false g.A.Agenda.acts title agenda octets step c.args.out.now.items
    c.loop.out.items c.hear_next.new.out.items c.args.shown.now.items c.loop.shown.items
    c.hear_next.new.shown.items c.loop.self c.hear_next.new.self
    (c.loop.invariant.heard title agenda octets step h)
    (λ next n.
    subst (λ (more : Bool). HeardOn more g.A.Agenda.acts title agenda octets next
    c.loop.out.items c.hear_next.new.out.items c.loop.shown.items c.hear_next.new.shown.items
    c.hear_next.new.self) c.if-branch.false
    (c.in_ok-hear_next.ensures.ok title agenda octets next n))

pub returns-in_err-hear_next-clause-out : goal.returns-in_err-hear_next-clause-out
returns-in_err-hear_next-clause-out g c =
    let w = c.requires.hearing in
    let says = (c.loop.invariant.heard w.title w.agenda w.octets w.step w.hears).2.said in
    on_err (Extends c.args.out.now.items c.hear_next.new.out.items) c.from_residual.result
    (Extends-append c.args.out.now.items says.added c.hear_next.new.out.items
    (subst (λ (l : List ℕ). Extends l c.hear_next.new.out.items) says.appended
    c.in_err-hear_next.ensures.out))

pub returns-in_err-hear_next-clause-shown : goal.returns-in_err-hear_next-clause-shown
returns-in_err-hear_next-clause-shown g c =
    let w = c.requires.hearing in
    let says = (c.loop.invariant.heard w.title w.agenda w.octets w.step w.hears).2.shown in
    on_err (ShowsFirst c.args.shown.now.items c.hear_next.new.shown.items) c.from_residual.result
    (shows_less c.args.shown.now.items says.added c.hear_next.new.shown.items
    (subst (λ l. ShowsFirst l c.hear_next.new.shown.items) says.appended
    c.in_err-hear_next.ensures.shown))

pub returns-clause-agenda : goal.returns-clause-agenda
returns-clause-agenda g c =
    becomes_then g.A.Agenda.acts c.args.self.now.asker.agenda c.loop.self.asker.agenda
    c.hear_next.new.self.asker.agenda c.loop.invariant.become c.in_ok-hear_next.ensures.agenda

pub returns-in_err-hear_next-clause-agenda : goal.returns-in_err-hear_next-clause-agenda
returns-in_err-hear_next-clause-agenda g c =
    becomes_then g.A.Agenda.acts c.args.self.now.asker.agenda c.loop.self.asker.agenda
    c.hear_next.new.self.asker.agenda c.loop.invariant.become c.in_err-hear_next.ensures.agenda
