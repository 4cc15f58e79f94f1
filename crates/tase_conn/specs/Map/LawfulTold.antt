-- Messages whose PDUs have lawful parts.
use Rattle.mms_services.specs.Lawful.{IsLawfulPdu}
use Rattle.stack_assoc.specs.declared.messages.heard.Heard.{Heard}
use Rattle.stack_assoc.specs.declared.messages.heard.Heard.TheVariants as heards
use Rattle.stack_assoc.specs.Arrivals.{Arrival, heard}

abbrev pub IsLawfulHeard : Heard → Type 0
IsLawfulHeard (heards.Pdu pdu) = IsLawfulPdu pdu
IsLawfulHeard h = Unit {0}

-- lists and names have lengths that they may have, and data are lawful
abbrev pub IsLawfulTold : Arrival → Type 0
IsLawfulTold (heard h) = IsLawfulHeard h
IsLawfulTold t = Unit {0}
