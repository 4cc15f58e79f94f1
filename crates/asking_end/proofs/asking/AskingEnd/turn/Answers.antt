use Rattle.std.proofs.Common.{◌++◌, subst, sym, ap, ◌∙◌}
use Rattle.asking_end.specs.declared.end.AskEnd.TheVariants as ends
use Rattle.asking_end.specs.Agendas.{as_before}
use Rattle.asking_end.specs.Askers.{asker_behind}
use Rattle.asking_end.specs.Callers.{AskerStands}
use Rattle.asking_end.proofs.Becoming.{becomes_then, becomes_this}
use Rattle.asking_end.proofs.Callers.{heard_so_far, piece_taken, piece_dropped}
use Rattle.asking_end.proofs.Turned.{is_caller, ended_caller, fed_caller, free_caller}
use Rattle.asking_end.proofs.asking.AskingEnd.turn.Goals as goal

pub returns-in-Some-clause-ok : goal.returns-in-Some-clause-ok
returns-in-Some-clause-ok g c = λ title agenda octets s.
    piece_dropped g.A.Agenda.acts title agenda octets c.args.piece.now c.args.out.now.items
    c.args.shown.now.items c.args.self.now c.in-Some.end
    (ap (λ v. v.end) (sym c.self.view_is) ∙ c.in-Some.is) s

pub feed-requires-clause-settled : goal.feed-requires-clause-settled
feed-requires-clause-settled g c =
    (fed_caller g.A.Agenda.acts c.self.inside.calling c.in-None.is c.self.invariant).settled

pub feed-requires-clause-answered : goal.feed-requires-clause-answered
feed-requires-clause-answered g c =
    free_caller g.A.Agenda.acts c.self.inside.calling
    (fed_caller g.A.Agenda.acts c.self.inside.calling c.in-None.is c.self.invariant).hearing

pub invariant_of-self : goal.invariant_of-self
invariant_of-self g c =
    ended_caller g.A.Agenda.acts c.feed.new.self ends.Memory c.in_err-feed-in-None.ensures.err

pub hear_all-requires : goal.hear_all-requires
hear_all-requires g c =
    let w = (fed_caller g.A.Agenda.acts c.self.inside.calling c.in-None.is c.self.invariant).hearing
    in
    record {
      hearing = record {
        title = w.title;
        agenda = w.agenda;
        octets = w.octets ++ c.args.piece.now;
        step = w.step;
        hears = c.in_ok-feed-in-None.ensures.ok w.title w.agenda w.octets w.step w.hears;
      };
    }

pub invariant_of-self-in-None : goal.invariant_of-self-in-None
invariant_of-self-in-None g c =
    let w = (fed_caller g.A.Agenda.acts c.self.inside.calling c.in-None.is c.self.invariant).hearing
    in
    let octets = w.octets ++ c.args.piece.now in
    let fed = c.in_ok-feed-in-None.ensures.ok w.title w.agenda w.octets w.step w.hears in
    let on = c.in_ok-hear_all-in-None.ensures.ok w.title w.agenda octets w.step fed in
    is_caller g.A.Agenda.acts w.title w.agenda octets c.hear_all.new.self on.0

pub returns-in_ok-hear_all-in-None-clause-ok : goal.returns-in_ok-hear_all-in-None-clause-ok
returns-in_ok-hear_all-in-None-clause-ok g c = λ title agenda octets s.
    let acts = g.A.Agenda.acts in
    let piece = c.args.piece.now in
    let stands = subst (λ v. AskerStands acts title agenda octets v) (sym c.self.view_is) s in
    let step = asker_behind acts title agenda octets in
    let all = heard_so_far acts title agenda octets c.self.inside.calling c.in-None.is stands in
    let fed = c.in_ok-feed-in-None.ensures.ok title agenda octets step all.hears in
    let on = c.in_ok-hear_all-in-None.ensures.ok title agenda (octets ++ piece) step fed in
    piece_taken acts title agenda octets piece c.args.out.now.items c.hear_all.new.out.items
    c.args.shown.now.items c.hear_all.new.shown.items c.hear_all.new.self on

pub returns-in_err-feed-in-None-clause-agenda : goal.returns-in_err-feed-in-None-clause-agenda
returns-in_err-feed-in-None-clause-agenda g c =
    becomes_this g.A.Agenda.acts c.args.self.now.asker.agenda c.args.self.now.asker.agenda
    c.feed.new.self.asker.agenda
    (ap (λ p. p.agenda) c.in_err-feed-in-None.ensures.asker
    ∙ ap (λ x. x.asker.agenda) c.self.view_is) as_before

pub returns-in_err-hear_all-in-None-clause-agenda :
    goal.returns-in_err-hear_all-in-None-clause-agenda
returns-in_err-hear_all-in-None-clause-agenda g c =
    becomes_then g.A.Agenda.acts c.args.self.now.asker.agenda c.feed.new.self.asker.agenda
    c.hear_all.new.self.asker.agenda
    (becomes_this g.A.Agenda.acts c.args.self.now.asker.agenda c.args.self.now.asker.agenda
    c.feed.new.self.asker.agenda
    (ap (λ p. p.agenda) c.in_ok-feed-in-None.ensures.asker
    ∙ ap (λ x. x.asker.agenda) c.self.view_is) as_before)
    c.in_err-hear_all-in-None.ensures.agenda

pub returns-in_ok-hear_all-in-None-clause-agenda :
    goal.returns-in_ok-hear_all-in-None-clause-agenda
returns-in_ok-hear_all-in-None-clause-agenda g c =
    becomes_then g.A.Agenda.acts c.args.self.now.asker.agenda c.feed.new.self.asker.agenda
    c.hear_all.new.self.asker.agenda
    (becomes_this g.A.Agenda.acts c.args.self.now.asker.agenda c.args.self.now.asker.agenda
    c.feed.new.self.asker.agenda
    (ap (λ p. p.agenda) c.in_ok-feed-in-None.ensures.asker
    ∙ ap (λ x. x.asker.agenda) c.self.view_is) as_before)
    c.in_ok-hear_all-in-None.ensures.agenda

pub returns-in-Some-clause-agenda : goal.returns-in-Some-clause-agenda
returns-in-Some-clause-agenda g c = as_before
