-- What an end says, as TSDUs: the written form of each layer is the body of the one below it
-- (ISO 9506-2, ISO 8650-1, ISO 8823-1, ISO 8327-1).
use Rattle.std.specs.Prelude.{ℕ, pos, true, List, [], ◌∷◌, Option, Some, None}
use Rattle.ber_values.specs.declared.fault.Span.{Span}
use Rattle.ber_values.specs.Externals.{external_of}
use Rattle.ber_values.specs.Writing.{written}
use Rattle.session_profile.specs.declared.spdu.Spdu.TheVariants as spdus
use Rattle.session_profile.specs.Writing.{written_form}
use Rattle.presentation_profile.specs.declared.offers.Offered.{Offered}
use Rattle.presentation_profile.specs.declared.ppdu.Ppdu.TheVariants as ppdus
use Rattle.presentation_profile.specs.Agreements.{acse_name, mms_name}
use Rattle.presentation_profile.specs.Written.{ppdu_octets}
use Rattle.acse_assoc.specs.declared.apdu.Apdu.{Apdu}
use Rattle.acse_assoc.specs.declared.apdu.Apdu.TheVariants as apdus
use Rattle.acse_assoc.specs.Writing.{mms_context, apdu_octets}
use Rattle.mms_services.specs.declared.initiate.Initiate.{Initiate}
use Rattle.mms_services.specs.declared.pdu.MmsPdu.{MmsPdu}
use Rattle.mms_services.specs.declared.pdu.MmsPdu.TheVariants as pdus
use Rattle.mms_services.specs.PduOctets.{pdu_octets}
use Rattle.stack_assoc.specs.declared.wire.setup.AssociationSetup.{AssociationSetup}

-- where a body stands isn't written
abbrev pub nowhere : Span
nowhere = record { from = 0; to = 0 }

-- ---- the calling end

-- the session selector and the presentation selector that it calls
abbrev pub called_session : List ℕ
called_session = 0 ∷ 1 ∷ []

abbrev pub called_presentation : List ℕ
called_presentation = 0 ∷ 0 ∷ 0 ∷ 1 ∷ []

abbrev pub in_ber : ℕ → List ℕ → Offered
in_ber id name = record { id = id; abstract_name = name; ber = true }

-- the contexts that it offers: 1 for ACSE, 3 for MMS
abbrev pub own_offers : List Offered
own_offers = in_ber 1 acse_name ∷ in_ber 3 mms_name ∷ []

-- the parameters of the association that it offers
abbrev pub own_parameters : Initiate
own_parameters = record {
  detail = Some (pos 65000);
  calling = pos 1;
  called = pos 1;
  nesting = Some (pos 5);
  version = pos 1;
}

-- its request for an association, with its title, if it has one
abbrev pub own_request : Option (List ℕ) → Apdu
own_request title =
    apdus.Aarq (record { context = mms_context; title = title; user = external_of 3 nowhere })

unfoldable pub connect_tsdu : Option (List ℕ) → List ℕ
connect_tsdu title = written_form (spdus.Connect (Some called_session) nowhere)
    (ppdu_octets (ppdus.Connect (Some called_presentation) own_offers 1 nowhere)
    (apdu_octets (own_request title) (pdu_octets (pdus.Initiate own_parameters))))

-- ---- the called end's answer to a connect

-- the association is accepted
abbrev pub accepted : ℕ → Apdu
accepted mms = apdus.Aare (record { result = 0; user = Some (external_of mms nowhere) })

unfoldable pub accept_tsdu : AssociationSetup → Initiate → List ℕ
accept_tsdu setup answer = written_form (spdus.Accept setup.session nowhere)
    (ppdu_octets (ppdus.Accept setup.presentation setup.results setup.acse nowhere)
    (apdu_octets (accepted setup.mms) (pdu_octets (pdus.Initiated answer))))

-- the association is refused for good
abbrev pub refused_apdu : Apdu
refused_apdu = apdus.Aare (record { result = 1; user = None })

-- an APDU without a body, as data of the context with this id
abbrev pub carried : ℕ → Apdu → List ℕ
carried acse apdu = ppdu_octets (ppdus.Carry acse nowhere) (apdu_octets apdu [])

unfoldable pub refusal_tsdu : ℕ → List ℕ
refusal_tsdu acse = written_form spdus.Refuse (written 48 (carried acse refused_apdu))

-- ---- either end, over an association

-- the finish, which asks for the release
unfoldable pub finish_tsdu : ℕ → List ℕ
finish_tsdu acse = written_form spdus.Finish (carried acse apdus.Rlrq)

-- the disconnect, which answers a finish
unfoldable pub release_tsdu : ℕ → List ℕ
release_tsdu acse = written_form spdus.Disconnect (carried acse apdus.Rlre)

-- the abort, which ends the association at once
unfoldable pub abort_tsdu : ℕ → List ℕ
abort_tsdu acse = written_form spdus.Abort (written 160 (carried acse apdus.Abrt))

-- a PDU as data of the context with this id
unfoldable pub data_tsdu : ℕ → MmsPdu → List ℕ
data_tsdu mms pdu = written_form (spdus.Carry nowhere)
    (ppdu_octets (ppdus.Carry mms nowhere) (pdu_octets pdu))
