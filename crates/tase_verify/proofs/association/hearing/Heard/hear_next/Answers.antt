use Rattle.std.proofs.Common.{◌∙◌, ap, subst, Result, Option, Ok}
use Rattle.std.proofs.Common.{refl}
use Rattle.stack_assoc.specs.declared.messages.fault.StackFault.{StackFault}
use Rattle.stack_assoc.specs.declared.input.StackIn.{StackIn}
use Rattle.stack_assoc.specs.Arrivals.{called}
use Rattle.stack_assoc.specs.Courses.{IsNextAnswer, fault_in}
use Rattle.tase_verify.proofs.OfAssociation.Heard.{heard_input, heard_all, heard_fault}
use Rattle.tase_verify.proofs.association.hearing.Heard.hear_next.Goals as goal

pub returns-in_ok-keep-in-Ok-Some-clause-hears : goal.returns-in_ok-keep-in-Ok-Some-clause-hears
returns-in_ok-keep-in-Ok-Some-clause-hears c = λ octets s.
    heard_input octets c.args.self.now c.keep.new.self c.in-Ok-Some.input c.next.new.self
    c.next.new.out.items s
    (subst (λ (answer : Result (Option StackIn) StackFault). IsNextAnswer called octets s.told
    c.args.self.now.stack c.args.self.now.confirm.items answer c.next.new.self c.next.new.out.items)
    (c.in-Ok-Some.is ∙ ap (λ (o : Option StackIn). Ok o) c.in-Ok-Some.field-0-is)
    (c.in_ok-input.ensures.ok called octets s.told s.stands))
    c.in_ok-keep-in-Ok-Some.ensures.stack c.in_ok-keep-in-Ok-Some.ensures.inputs
    c.in_ok-keep-in-Ok-Some.ensures.confirm

pub returns-in-Ok-None-clause-hears : goal.returns-in-Ok-None-clause-hears
returns-in-Ok-None-clause-hears c = λ octets s.
    let is = c.in-Ok-None.is ∙ ap (λ (o : Option StackIn). Ok o) c.in-Ok-None.field-0-is in
    heard_all octets c.args.self.now _ c.next.new.out.items s c.requires.free
    (subst (λ (answer : Result (Option StackIn) StackFault). IsNextAnswer called octets s.told
    c.args.self.now.stack c.args.self.now.confirm.items answer c.next.new.self c.next.new.out.items)
    is (c.in_ok-input.ensures.ok called octets s.told s.stands))
    (c.in_ok-input.ensures.broken
    ∙ ap (λ (answer : Result (Option StackIn) StackFault). fault_in answer) is) refl refl refl

pub returns-in-Err-clause-hears : goal.returns-in-Err-clause-hears
returns-in-Err-clause-hears c = λ octets s.
    heard_fault octets c.args.self.now _ c.next.new.out.items c.in-Err.field-0 s
    (subst (λ (answer : Result (Option StackIn) StackFault). IsNextAnswer called octets s.told
    c.args.self.now.stack c.args.self.now.confirm.items answer c.next.new.self c.next.new.out.items)
    c.in-Err.is (c.in_ok-input.ensures.ok called octets s.told s.stands))
    (c.in_ok-input.ensures.broken
    ∙ ap (λ (answer : Result (Option StackIn) StackFault). fault_in answer) c.in-Err.is) refl refl
    refl
