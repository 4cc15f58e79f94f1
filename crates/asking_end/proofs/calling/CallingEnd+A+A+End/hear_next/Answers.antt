use Rattle.std.proofs.Common.{ℕ, List, ◌<◌, Result, Option, Ok}
use Rattle.std.proofs.Common.{IfOk, OnSome, refl, sym, ap, subst, ◌∙◌}
use Rattle.plain_text.specs.Extends.{Extends}
use Rattle.stack_assoc.specs.declared.messages.fault.StackFault.{StackFault}
use Rattle.stack_assoc.specs.declared.input.StackIn.{StackIn}
use Rattle.stack_assoc.specs.Steps.{left_of}
use Rattle.stack_assoc.specs.Courses.{IsNextAnswer, FollowsAnswer, fault_in}
use Rattle.asking_end.specs.Agendas.{ShowsFirst}
use Rattle.asking_end.specs.Agendas.{as_before}
use Rattle.asking_end.proofs.Becoming.{becomes_this, input_becomes}
use Rattle.asking_end.proofs.Callers.{lawful_input, heard_all, heard_fault}
use Rattle.asking_end.proofs.Turned.{may_move_on, heard_moved, answer_extends, moved_left}
use Rattle.asking_end.proofs.Turned.{on_err, extended_same, shows_same, shows_more}
use Rattle.asking_end.proofs.calling.CallingEnd+A+A+End.hear_next.Goals as goal

pub returns-in_err-input-clause-out : goal.returns-in_err-input-clause-out
returns-in_err-input-clause-out g c =
    on_err (Extends c.args.out.now.items c.next.new.out.items) c.from_residual.result
    (extended_same c.args.out.now.items c.next.new.out.items c.in_err-input.ensures.out)

pub returns-in_err-input-clause-shown : goal.returns-in_err-input-clause-shown
returns-in_err-input-clause-shown g c =
    on_err (ShowsFirst c.args.shown.now.items c.args.shown.now.items) c.from_residual.result
    (shows_same c.args.shown.now.items c.args.shown.now.items refl)

pub heed-requires : goal.heed-requires
heed-requires g c =
    let w = c.requires.hearing in
    let is = c.in-Ok-Some.is ∙ ap (λ (o : Option StackIn). Ok o) c.in-Ok-Some.field-0-is in
    lawful_input g.A.Agenda.acts w.title w.agenda w.octets w.step c.args.self.now w.hears
    c.in-Ok-Some.input c.next.new.self c.args.out.now.items c.next.new.out.items
    (subst (λ (answer : Result (Option StackIn) StackFault). IsNextAnswer w.step.state.role w.octets
    w.hears.told c.args.self.now.stack c.args.out.now.items answer c.next.new.self
    c.next.new.out.items) is
    (c.in_ok-input.ensures.ok w.step.state.role w.octets w.hears.told w.hears.stands))
    (c.in_ok-input.ensures.broken
    ∙ ap (λ (answer : Result (Option StackIn) StackFault). fault_in answer) is)
    (subst (λ (answer : Result (Option StackIn) StackFault). FollowsAnswer answer
    c.args.self.now.stack.standing c.next.new.self.standing) is c.in_ok-input.ensures.standing)

pub returns-in_err-heeded-in-Ok-Some-clause-out : goal.returns-in_err-heeded-in-Ok-Some-clause-out
returns-in_err-heeded-in-Ok-Some-clause-out g c =
    let w = c.requires.hearing in
    on_err (Extends c.args.out.now.items c.next.new.out.items)
    c.from_residual-in_err-heeded-in-Ok-Some.result
    (answer_extends w.step.state.role w.octets w.hears.told c.args.self.now.stack c.next.new.self
    c.args.out.now.items c.next.new.out.items c.in_ok-input.field-0
    (c.in_ok-input.ensures.ok w.step.state.role w.octets w.hears.told w.hears.stands))

pub returns-in_err-heeded-in-Ok-Some-clause-shown :
    goal.returns-in_err-heeded-in-Ok-Some-clause-shown
returns-in_err-heeded-in-Ok-Some-clause-shown g c =
    on_err (ShowsFirst c.args.shown.now.items c.heed.new.shown.items)
    c.from_residual-in_err-heeded-in-Ok-Some.result c.in_err-heeded-in-Ok-Some.ensures.cut

pub move_on-requires : goal.move_on-requires
move_on-requires g c =
    let w = c.requires.hearing in
    let is = c.in-Ok-Some.is ∙ ap (λ (o : Option StackIn). Ok o) c.in-Ok-Some.field-0-is in
    may_move_on g.A.Agenda.acts w.title w.agenda w.octets w.step c.args.self.now w.hears
    c.in-Ok-Some.input c.next.new.self c.args.out.now.items c.next.new.out.items
    (subst (λ (answer : Result (Option StackIn) StackFault). IsNextAnswer w.step.state.role w.octets
    w.hears.told c.args.self.now.stack c.args.out.now.items answer c.next.new.self
    c.next.new.out.items) is
    (c.in_ok-input.ensures.ok w.step.state.role w.octets w.hears.told w.hears.stands))
    (c.in_ok-input.ensures.broken
    ∙ ap (λ (answer : Result (Option StackIn) StackFault). fault_in answer) is)
    (subst (λ (answer : Result (Option StackIn) StackFault). FollowsAnswer answer
    c.args.self.now.stack.standing c.next.new.self.standing) is c.in_ok-input.ensures.standing)
    c.in_ok-heeded-in-Ok-Some.heeded c.heed.new.self c.in_ok-heeded-in-Ok-Some.ensures.next
    c.in_ok-heeded-in-Ok-Some.ensures.ok

pub returns-in_err-more-in-Ok-Some-clause-out : goal.returns-in_err-more-in-Ok-Some-clause-out
returns-in_err-more-in-Ok-Some-clause-out g c =
    let w = c.requires.hearing in
    on_err (Extends c.args.out.now.items c.move_on.new.out.items)
    c.from_residual-in_err-more-in-Ok-Some.result
    (subst (λ (l : List ℕ). Extends c.args.out.now.items l)
    (sym c.in_err-more-in-Ok-Some.ensures.err)
    (answer_extends w.step.state.role w.octets w.hears.told c.args.self.now.stack c.next.new.self
    c.args.out.now.items c.next.new.out.items c.in_ok-input.field-0
    (c.in_ok-input.ensures.ok w.step.state.role w.octets w.hears.told w.hears.stands)))

pub returns-in_err-more-in-Ok-Some-clause-shown : goal.returns-in_err-more-in-Ok-Some-clause-shown
returns-in_err-more-in-Ok-Some-clause-shown g c =
    on_err (ShowsFirst c.args.shown.now.items c.heed.new.shown.items)
    c.from_residual-in_err-more-in-Ok-Some.result
    (shows_more c.args.shown.now.items c.heed.new.shown.items _
    c.in_ok-heeded-in-Ok-Some.ensures.shown)

pub returns-in_ok-more-in-Ok-Some-clause-ok : goal.returns-in_ok-more-in-Ok-Some-clause-ok
returns-in_ok-more-in-Ok-Some-clause-ok g c = λ title agenda octets step h.
    let is = c.in-Ok-Some.is ∙ ap (λ (o : Option StackIn). Ok o) c.in-Ok-Some.field-0-is in
    heard_moved g.A.Agenda.acts title agenda octets step c.args.self.now h c.in-Ok-Some.input
    c.next.new.self c.args.out.now.items c.next.new.out.items
    (subst (λ (answer : Result (Option StackIn) StackFault). IsNextAnswer step.state.role octets
    h.told c.args.self.now.stack c.args.out.now.items answer c.next.new.self c.next.new.out.items)
    is (c.in_ok-input.ensures.ok step.state.role octets h.told h.stands))
    (c.in_ok-input.ensures.broken
    ∙ ap (λ (answer : Result (Option StackIn) StackFault). fault_in answer) is)
    (subst (λ (answer : Result (Option StackIn) StackFault). FollowsAnswer answer
    c.args.self.now.stack.standing c.next.new.self.standing) is c.in_ok-input.ensures.standing)
    c.in_ok-heeded-in-Ok-Some.heeded c.heed.new.self c.in_ok-heeded-in-Ok-Some.ensures.next
    c.in_ok-heeded-in-Ok-Some.ensures.ok c.in_ok-more-in-Ok-Some.more c.move_on.new.out.items
    c.args.shown.now.items c.heed.new.shown.items c.move_on.new.self
    c.in_ok-more-in-Ok-Some.ensures.more c.in_ok-more-in-Ok-Some.ensures.out
    c.in_ok-heeded-in-Ok-Some.ensures.shown c.in_ok-more-in-Ok-Some.ensures.ok

pub returns-in_ok-more-in-Ok-Some-clause-shorter :
    goal.returns-in_ok-more-in-Ok-Some-clause-shorter
returns-in_ok-more-in-Ok-Some-clause-shorter g c = λ going.
    let is = c.in-Ok-Some.is ∙ ap (λ (o : Option StackIn). Ok o) c.in-Ok-Some.field-0-is in
    let fewer = subst (λ (answer : Result (Option StackIn) StackFault). IfOk answer (λ input.
    OnSome input (left_of c.next.new.self < left_of c.args.self.now.stack))) is
    c.in_ok-input.ensures.shorter in
    subst (λ (n : ℕ). n < left_of c.args.self.now.stack)
    (sym (ap (λ x. left_of x.stack) c.in_ok-more-in-Ok-Some.ensures.ok
    ∙ moved_left g.A.Agenda.acts c.in_ok-heeded-in-Ok-Some.heeded c.heed.new.self
    ∙ ap (λ x. left_of x.stack) c.in_ok-heeded-in-Ok-Some.ensures.ok)) fewer

pub returns-in-Ok-None-clause-ok : goal.returns-in-Ok-None-clause-ok
returns-in-Ok-None-clause-ok g c = λ title agenda octets step h.
    let is = c.in-Ok-None.is ∙ ap (λ (o : Option StackIn). Ok o) c.in-Ok-None.field-0-is in
    heard_all g.A.Agenda.acts title agenda octets step c.args.self.now h c.next.new.self
    c.args.out.now.items c.next.new.out.items c.args.shown.now.items
    (subst (λ (answer : Result (Option StackIn) StackFault). IsNextAnswer step.state.role octets
    h.told c.args.self.now.stack c.args.out.now.items answer c.next.new.self c.next.new.out.items)
    is (c.in_ok-input.ensures.ok step.state.role octets h.told h.stands))
    (c.in_ok-input.ensures.broken
    ∙ ap (λ (answer : Result (Option StackIn) StackFault). fault_in answer) is)
    (subst (λ (answer : Result (Option StackIn) StackFault). FollowsAnswer answer
    c.args.self.now.stack.standing c.next.new.self.standing) is c.in_ok-input.ensures.standing)

pub returns-in-Err-clause-ok : goal.returns-in-Err-clause-ok
returns-in-Err-clause-ok g c = λ title agenda octets step h.
    heard_fault g.A.Agenda.acts title agenda octets step c.args.self.now h c.next.new.self
    c.args.out.now.items c.next.new.out.items c.args.shown.now.items c.in-Err.fault
    (subst (λ (answer : Result (Option StackIn) StackFault). IsNextAnswer step.state.role octets
    h.told c.args.self.now.stack c.args.out.now.items answer c.next.new.self c.next.new.out.items)
    c.in-Err.is (c.in_ok-input.ensures.ok step.state.role octets h.told h.stands))

pub returns-in_err-input-clause-agenda : goal.returns-in_err-input-clause-agenda
returns-in_err-input-clause-agenda g c = as_before

pub returns-in_err-heeded-in-Ok-Some-clause-agenda :
    goal.returns-in_err-heeded-in-Ok-Some-clause-agenda
returns-in_err-heeded-in-Ok-Some-clause-agenda g c =
    becomes_this g.A.Agenda.acts c.args.self.now.asker.agenda c.args.self.now.asker.agenda
    c.heed.new.self.asker.agenda
    (ap (λ x. x.asker.agenda) c.in_err-heeded-in-Ok-Some.ensures.same) as_before

pub returns-in_err-more-in-Ok-Some-clause-agenda :
    goal.returns-in_err-more-in-Ok-Some-clause-agenda
returns-in_err-more-in-Ok-Some-clause-agenda g c =
    becomes_this g.A.Agenda.acts c.args.self.now.asker.agenda _
    c.move_on.new.self.asker.agenda
    (ap (λ p. p.agenda) c.in_err-more-in-Ok-Some.ensures.asker
    ∙ ap (λ x. x.asker.agenda) c.in_ok-heeded-in-Ok-Some.ensures.ok)
    (input_becomes g.A.Agenda.acts c.in-Ok-Some.input c.args.self.now.asker)

pub returns-in_ok-more-in-Ok-Some-clause-agenda :
    goal.returns-in_ok-more-in-Ok-Some-clause-agenda
returns-in_ok-more-in-Ok-Some-clause-agenda g c =
    becomes_this g.A.Agenda.acts c.args.self.now.asker.agenda _
    c.move_on.new.self.asker.agenda
    (ap (λ p. p.agenda) c.in_ok-more-in-Ok-Some.ensures.asker
    ∙ ap (λ x. x.asker.agenda) c.in_ok-heeded-in-Ok-Some.ensures.ok)
    (input_becomes g.A.Agenda.acts c.in-Ok-Some.input c.args.self.now.asker)

pub returns-in-Ok-None-clause-agenda : goal.returns-in-Ok-None-clause-agenda
returns-in-Ok-None-clause-agenda g c = as_before

pub returns-in-Err-clause-agenda : goal.returns-in-Err-clause-agenda
returns-in-Err-clause-agenda g c = as_before
