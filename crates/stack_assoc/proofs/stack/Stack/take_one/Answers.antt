use Rattle.std.proofs.Common.{◌∙◌, sym, ap, subst, Ok, Some, Option, Result}
use Rattle.tpkt_cotp.specs.declared.message.TransportIn.{TransportIn}
use Rattle.tpkt_cotp.specs.declared.fault.CotpFault.{CotpFault}
use Rattle.tpkt_cotp.specs.Lines as lines
use Rattle.tpkt_cotp.specs.Lines.{Line}
use Rattle.stack_assoc.specs.Arrivals.{end_of}
use Rattle.stack_assoc.specs.declared.taken.Opening.TheVariants as openings
use Rattle.stack_assoc.specs.Courses.{Course}
use Rattle.stack_assoc.specs.Steps.{opened_with}
use Rattle.stack_assoc.proofs.StepsTaken.{takes_opening}
use Rattle.stack_assoc.proofs.stack.Stack.take_one.Goals as goal

pub returns-in-Ok-Some-Connect-clause-ok : goal.returns-in-Ok-Some-Connect-clause-ok
returns-in-Ok-Some-Connect-clause-ok c = λ role octets told s none.
    let is = c.in-Ok-Some-Connect.is
    ∙ ap (λ (o : Option TransportIn). Ok o) (c.in-Ok-Some-Connect.field-0-is
    ∙ ap (λ (m : TransportIn). Some m) c.in-Ok-Some-Connect.field-0-0-is) in
    takes_opening role octets told c.args.self.now c.open.new.self
    (openings.Request c.in-Ok-Some-Connect.request) c.next.new.self s none c.requires
    (λ given st.
    let P : Line → Type 0 = λ t. lines.Stands (end_of role) octets given t in
    let Q : Result (Option TransportIn) CotpFault → Type 0 = λ r.
    lines.IsTransportAnswer (end_of role) octets given r c.next.new.self in
    subst Q is (c.in_ok-fault.ensures.ok (end_of role) octets given
    (subst P (ap (λ (v : Course). v.line) (sym c.self.view_is)) st)))
    (c.open.ensures ∙ ap (λ (v : Course). opened_with
    (openings.Request c.in-Ok-Some-Connect.request) (record v { line = c.next.new.self }))
    c.self.view_is)

pub returns-in-Ok-Some-Connected-clause-ok : goal.returns-in-Ok-Some-Connected-clause-ok
returns-in-Ok-Some-Connected-clause-ok c = λ role octets told s none.
    let is = c.in-Ok-Some-Connected.is
    ∙ ap (λ (o : Option TransportIn). Ok o) (c.in-Ok-Some-Connected.field-0-is
    ∙ ap (λ (m : TransportIn). Some m) c.in-Ok-Some-Connected.field-0-0-is) in
    takes_opening role octets told c.args.self.now c.open-in-Ok-Some-Connected.new.self
    (openings.Confirm c.in-Ok-Some-Connected.confirm) c.next.new.self s none c.requires
    (λ given st.
    let P : Line → Type 0 = λ t. lines.Stands (end_of role) octets given t in
    let Q : Result (Option TransportIn) CotpFault → Type 0 = λ r.
    lines.IsTransportAnswer (end_of role) octets given r c.next.new.self in
    subst Q is (c.in_ok-fault.ensures.ok (end_of role) octets given
    (subst P (ap (λ (v : Course). v.line) (sym c.self.view_is)) st)))
    (c.open-in-Ok-Some-Connected.ensures ∙ ap (λ (v : Course). opened_with
    (openings.Confirm c.in-Ok-Some-Connected.confirm) (record v { line = c.next.new.self }))
    c.self.view_is)
