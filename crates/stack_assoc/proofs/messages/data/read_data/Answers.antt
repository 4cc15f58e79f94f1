use Rattle.std.proofs.Common.{◌∙◌, ℕ, Option, Result, IfErr, sym, refl, subst}
use Rattle.mms_services.specs.declared.fault.MmsFault.{MmsFault}
use Rattle.mms_services.specs.declared.pdu.MmsPdu.{MmsPdu}
use Rattle.mms_services.specs.Pdus.{IsInvokeOf}
use Rattle.stack_assoc.specs.Messages.Layers.{octets_at}
use Rattle.stack_assoc.specs.Messages.Turns.{may_ask}
use Rattle.stack_assoc.proofs.OfMessages.LayersRead.{pdu-read, pdu-broken, data-read, bad-read, fault-read, told_number, no_number}
use Rattle.stack_assoc.proofs.messages.data.read_data.Goals as goal

pub returns-in-Ok : goal.returns-in-Ok
returns-in-Ok c = rw c.in_turn.ensures
    (data-read c.args.expecting c.args.tsdu.now c.args.body c.in-Ok.pdu
    (pdu-read c.args.tsdu.now c.args.body c.in-Ok.pdu c.in_ok-pdu.field-0 c.in-Ok.is
    c.in_ok-pdu.ensures.exact))

pub returns-in-Some : goal.returns-in-Some
returns-in-Some c =
    let octets = octets_at c.args.tsdu.now c.args.body in
    let e = c.args.expecting in
    let told = told_number (may_ask e.side e.phase) c.in-Err.fault.invoke c.in-Some.invoke
    (sym c.in-Some.is ∙ c.answerable.ensures) in
    let number = subst (λ (r : Result MmsPdu MmsFault). IfErr r (λ f. IsInvokeOf octets f.invoke))
    c.in-Err.is c.in_ok-pdu.ensures.invoke in
    bad-read e c.args.tsdu.now c.args.body _ c.in-Some.invoke told.0
    (subst (λ (n : Option ℕ). IsInvokeOf octets n) told.1 number)
    (pdu-broken c.args.tsdu.now c.args.body c.in-Err.fault c.in_ok-pdu.field-0 c.in-Err.is
    c.in_ok-pdu.ensures.exact _ refl)

pub returns-in-None : goal.returns-in-None
returns-in-None c =
    let octets = octets_at c.args.tsdu.now c.args.body in
    let e = c.args.expecting in
    let number = subst (λ (r : Result MmsPdu MmsFault). IfErr r (λ f. IsInvokeOf octets f.invoke))
    c.in-Err.is c.in_ok-pdu.ensures.invoke in
    fault-read e c.args.tsdu.now c.args.body c.mms_fault.result
    (no_number e c.args.tsdu.now c.args.body (may_ask e.side e.phase) c.in-Err.fault.invoke refl number
    (sym c.in-None.is ∙ c.answerable.ensures))
    (pdu-broken c.args.tsdu.now c.args.body c.in-Err.fault c.in_ok-pdu.field-0 c.in-Err.is
    c.in_ok-pdu.ensures.exact c.mms_fault.result c.mms_fault.ensures)
