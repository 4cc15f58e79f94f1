-- What is said of the octets of a capture, which are one PDU.
use Rattle.std.specs.Prelude.{ℕ, List, [], ◌∷◌, ◌++◌, length, Result, Ok, Err, codes, decimal}
use Rattle.commands.specs.declared.io.status.Status.TheVariants.{Done, Input}
use Rattle.commands.specs.Io.Saying.{Said, prints}
use Rattle.commands.specs.Io.Plans.{Plan, says, by_value}
use Rattle.capture_text.specs.Captures.{capture_in}
use Rattle.ber_values.specs.declared.fault.BerFault.{BerFault}
use Rattle.ber_values.specs.Reading.{Taken}
use Rattle.mms_services.specs.declared.pdu.MmsPdu.{MmsPdu}
use Rattle.mms_services.specs.Pdus.{pdu}
use Rattle.stack_assoc.specs.Listing.Names.{message_name_text, pdu_name, why_name}

-- `pdu NAME LENGTH`
abbrev pub pdu_line : List ℕ → ℕ → List ℕ
pdu_line name len = codes "pdu " ++ name ++ codes " " ++ decimal len ++ 10 ∷ []

-- `fault mms PLACE WHY`
abbrev pub pdu_fault_line : ℕ → List ℕ → List ℕ
pdu_fault_line place why = codes "fault mms " ++ decimal place ++ codes " " ++ why ++ 10 ∷ []

-- what is said of octets, of which so many were read to a PDU, or to their first fault
abbrev pub read_said : ℕ → Result (Taken MmsPdu) BerFault → Said
read_said len (Ok taken) = prints Done (pdu_line (message_name_text (pdu_name taken.value)) len)
read_said len (Err fault) = prints Input (pdu_fault_line fault.place (why_name fault.why))

-- the PDU that all octets are, or the first rule that they break
abbrev pub pdu_said : List ℕ → Said
pdu_said octets = read_said (length octets) (pdu.reading 0 octets)

-- what is said of the octets of a text, which is a capture
abbrev pub pdu_text : List ℕ → Plan
pdu_text octets = by_value (codes "in") (λ pdu. says (pdu_said pdu)) (capture_in octets)
