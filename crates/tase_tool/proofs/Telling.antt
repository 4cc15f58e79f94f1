-- What is said of a PDU that was read, and of the first rule that octets break.
use Rattle.std.proofs.Common.{◌≡◌, ℕ, List, Ok, Err, ap, refl}
use Rattle.std.specs.Prelude.{length}
use Rattle.commands.specs.declared.io.status.Status.TheVariants.{Done, Input}
use Rattle.commands.specs.Io.Saying.{prints}
use Rattle.ber_values.specs.Readers.{IsReadBy, taken_whole}
use Rattle.mms_services.specs.declared.fault.MmsFault.{MmsFault}
use Rattle.mms_services.specs.declared.pdu.MmsPdu.{MmsPdu}
use Rattle.mms_services.specs.Pdus.{pdu, without_invoke}
use Rattle.mms_services.proofs.PdusRead.{pdu_reads}
use Rattle.stack_assoc.specs.Listing.Names.{message_name_text, pdu_name, why_name}
use Rattle.tase_tool.specs.Decoding.{pdu_line, pdu_fault_line, read_said, pdu_said}

module _ (octets : List ℕ) where
  -- what a public reader answers by its contract is the grammar's reading
  pub said_of_pdu : (p : MmsPdu)
      → IsReadBy pdu (taken_whole 0 octets) 0 octets (without_invoke (Ok p))
      → pdu_said octets ≡ prints Done (pdu_line (message_name_text (pdu_name p)) (length octets))
  said_of_pdu p reads =
      ap (read_said (length octets))
      ((pdu_reads 0 octets).only (taken_whole 0 octets p) reads.found)

  pub said_of_fault : (f : MmsFault)
      → IsReadBy pdu (taken_whole 0 octets) 0 octets (without_invoke (Err f))
      → pdu_said octets ≡ prints Input (pdu_fault_line f.place (why_name f.why))
  said_of_fault f reads =
      ap (read_said (length octets)) ((pdu_reads 0 octets).first _ ((reads.fault _).0 refl))
