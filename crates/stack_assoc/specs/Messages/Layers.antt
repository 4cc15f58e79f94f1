-- What stands in one layer of a message.
use Rattle.std.specs.Prelude.{◌≡◌, ℕ, ◌+◌, ◌-◌, ◌^◌, min, List, Result, Ok, Err}
use Rattle.std.specs.List.{slice_range}
use Rattle.ber_values.specs.declared.fault.BerFault.{BerFault}
use Rattle.ber_values.specs.declared.fault.Span.{Span}
use Rattle.ber_values.specs.declared.fault.Why.{Why}
use Rattle.ber_values.specs.declared.fault.Why.TheVariants as whys
use Rattle.ber_values.specs.Faults.{◌>>=◌}
use Rattle.ber_values.specs.Reading.{Taken}
use Rattle.ber_values.specs.Grammars.{Grammar}
use Rattle.session_profile.specs.declared.spdu.Spdu.{Spdu}
use Rattle.session_profile.specs.Spdus.{SpellsSpdu, SpduFault, spdu_in}
use Rattle.presentation_profile.specs.declared.expected.Expected as presentation
use Rattle.presentation_profile.specs.declared.ppdu.Ppdu.{Ppdu}
use Rattle.presentation_profile.specs.Ppdus.{ppdu}
use Rattle.acse_assoc.specs.declared.expected.Expected as acse
use Rattle.acse_assoc.specs.declared.apdu.Apdu.{Apdu}
use Rattle.acse_assoc.specs.Apdus.{apdu}
use Rattle.mms_services.specs.declared.pdu.MmsPdu.{MmsPdu}
use Rattle.mms_services.specs.Pdus.{pdu}
use Rattle.stack_assoc.specs.declared.messages.fault.Layer.{Layer}
use Rattle.stack_assoc.specs.declared.messages.fault.Layer.TheVariants as layers
use Rattle.stack_assoc.specs.declared.messages.fault.StackFault.{StackFault}
use Rattle.stack_assoc.specs.Messages.Meanings.{Meaning}

-- a fault of a layer
abbrev pub fault_of : Layer → ℕ → Why → StackFault
fault_of layer place why = record { layer = layer; place = place; why = why }

-- a message that may not come now
abbrev pub out_of_order : Layer → StackFault
out_of_order layer = fault_of layer 0 whys.Order

-- the octets of a TSDU at these places
abbrev pub octets_at : List ℕ → Span → List ℕ
octets_at tsdu span = slice_range tsdu span.from span.to

-- the place in a TSDU of what has a place in the octets from `from` on; 2^64 - 1 at most
abbrev pub place_after : ℕ → ℕ → ℕ
place_after from place = min (from + place) (2 ^ 64 - 1)

-- what was read, with a fault as one of a layer, whose places are told by a function
abbrev pub read_in_layer : {X : Type 0} → Layer → (ℕ → ℕ) → Result X BerFault → Result X StackFault
read_in_layer layer placed (Ok x) = Ok x
read_in_layer layer placed (Err b) = Err (fault_of layer (placed b.place) b.why)

-- the SPDU that a TSDU is
unfoldable pub spdu_of : List ℕ → Meaning Spdu
spdu_of tsdu = record {
  says = λ spdu. SpellsSpdu spdu tsdu;
  breaks = λ f. (b : BerFault) × SpduFault tsdu b × (f ≡ fault_of layers.Session b.place b.why);
  reading = read_in_layer layers.Session (λ n. n) (spdu_in tsdu);
}

-- what a grammar makes of octets, with its faults as those of a layer, whose places are told by a
-- function
unfoldable pub in_layer : {X : Type 0} → Layer → (ℕ → ℕ) → Grammar X → ℕ → List ℕ → Meaning X
in_layer {X} layer placed g at octets = record {
  says = λ x. (t : Taken X) × g.begins at octets t × (t.value ≡ x);
  breaks = λ f. (b : BerFault) × g.fault at octets b
      × (f ≡ fault_of layer (placed b.place) b.why);
  reading = read_in_layer layer placed (g.reading at octets >>= λ t. Ok t.value);
}

-- the PPDU that these octets are, and are alone
unfoldable pub ppdu_at : presentation.Expected → List ℕ → Span → Meaning Ppdu
ppdu_at e tsdu span =
    in_layer layers.Presentation (λ n. n) (ppdu e) span.from (octets_at tsdu span)

-- the APDU that these octets are, and are alone
unfoldable pub apdu_at : acse.Expected → List ℕ → Span → Meaning Apdu
apdu_at e tsdu span =
    in_layer layers.Acse (λ n. n) (apdu e) span.from (octets_at tsdu span)

-- the PDU of MMS that these octets are, and are alone; its own places count from its first octet
unfoldable pub pdu_at : List ℕ → Span → Meaning MmsPdu
pdu_at tsdu span =
    in_layer layers.Mms (place_after span.from) pdu 0 (octets_at tsdu span)
