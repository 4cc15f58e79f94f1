-- A TSDU is read exactly, so it says one thing, or has one first fault.
use Rattle.std.proofs.Common.{ℕ, List}
use Rattle.session_profile.proofs.Spdus.{spdu_reads}
use Rattle.presentation_profile.proofs.PpdusRead.{ppdu_reads}
use Rattle.acse_assoc.proofs.ApdusRead.{apdu_reads}
use Rattle.mms_services.proofs.PdusRead.{pdu_reads}
use Rattle.mms_services.proofs.NumberedRead.{numbered_reads}
use Rattle.stack_assoc.specs.declared.messages.expecting.Expecting.{Expecting}
use Rattle.stack_assoc.specs.Messages.Meanings.{IsReadAs, HasOneMeaning}
use Rattle.stack_assoc.specs.Messages.Messages.{message}
use Rattle.stack_assoc.proofs.OfMessages.OneMeaning.{Laws, message_exact, one_of_read}

laws : Laws
laws = record {
  spdus = spdu_reads;
  ppdus = ppdu_reads;
  apdus = apdu_reads;
  mms = pdu_reads;
  numbers = numbered_reads;
}

pub message_read : (e : Expecting) (tsdu : List ℕ)
    → IsReadAs (message e tsdu) (message e tsdu).reading
message_read = message_exact laws

pub one_message : (e : Expecting) (tsdu : List ℕ) → HasOneMeaning (message e tsdu)
one_message e tsdu =
    one_of_read (message e tsdu) (message e tsdu).reading (message_read e tsdu)
