use Rattle.std.proofs.Common.{IfOk, sym, subst}
use Rattle.ber_values.specs.Readers.{IsReadBy, taken_whole}
use Rattle.ber_values.proofs.Settled.{settled_by}
use Rattle.mms_services.specs.Pdus.{pdu}
use Rattle.mms_services.proofs.PdusRead.{pdu_reads}
use Rattle.mms_services.proofs.SpelledPdus.{lawful_read}
use Rattle.mms_services.proofs.pdu.read_pdu.Goals as goal

pub returns-clause-exact : goal.returns-clause-exact
returns-clause-exact c =
    let octets = c.args.bytes.now in
    rw c.numbered.ensures.same
    (subst (λ q. IfOk q (λ read. IsReadBy pdu (taken_whole 0 octets) 0 octets read))
    (sym c.in_ok-read.ensures)
    (settled_by pdu (taken_whole 0 octets) 0 octets c.pdu_from.result pdu_reads c.pdu_from.ensures))

pub returns-clause-lawful : goal.returns-clause-lawful
returns-clause-lawful c = lawful_read c.args.bytes.now c.numbered.result (returns-clause-exact c)
