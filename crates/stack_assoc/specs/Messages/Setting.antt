-- What sets up an association: a connect and an accept, from the body of their SPDU on.
use Rattle.std.specs.Prelude.{ℕ, true, false, List, Option, Some, None}
use Rattle.std.specs.Option.{option_map}
use Rattle.ber_values.specs.declared.external.External.{External}
use Rattle.ber_values.specs.declared.fault.Span.{Span}
use Rattle.presentation_profile.specs.declared.offers.Offered.{Offered}
use Rattle.presentation_profile.specs.declared.expected.Expected.TheVariants as expects
use Rattle.presentation_profile.specs.declared.ppdu.Ppdu.{Ppdu}
use Rattle.presentation_profile.specs.declared.ppdu.Ppdu.TheVariants as ppdus
use Rattle.presentation_profile.specs.Agreements.{mms_of}
use Rattle.acse_assoc.specs.declared.expected.Expected.{Expected}
use Rattle.acse_assoc.specs.declared.apdu.Apdu.{Apdu}
use Rattle.acse_assoc.specs.declared.apdu.Apdu.TheVariants as apdus
use Rattle.acse_assoc.specs.declared.request.AssociateRequest.{AssociateRequest}
use Rattle.mms_services.specs.declared.initiate.Initiate.{Initiate}
use Rattle.mms_services.specs.declared.pdu.MmsPdu.{MmsPdu}
use Rattle.mms_services.specs.declared.pdu.MmsPdu.TheVariants as pdus
use Rattle.stack_assoc.specs.declared.messages.expecting.Expecting.{Expecting}
use Rattle.stack_assoc.specs.declared.messages.fault.Layer.TheVariants as layers
use Rattle.stack_assoc.specs.declared.messages.heard.Heard.{Heard}
use Rattle.stack_assoc.specs.declared.messages.heard.Heard.TheVariants as heard
use Rattle.stack_assoc.specs.Messages.Meanings.{Meaning, says_some, says_nothing, inside}
use Rattle.stack_assoc.specs.Messages.Layers.{out_of_order, ppdu_at, apdu_at, pdu_at}
use Rattle.stack_assoc.specs.Messages.Turns.{offered_by}

-- ---- a connect

abbrev pub connecting : Option (List ℕ) → Option (List ℕ) → List Offered → AssociateRequest
    → Initiate → Heard
connecting session called contexts request initiate = heard.Connect (record {
  session = session;
  presentation = called;
  contexts = contexts;
  context = request.context;
  title = request.title;
  initiate = initiate;
})

-- the initiate that a PDU is
abbrev pub initiate_in_pdu : MmsPdu → Option Initiate
initiate_in_pdu (pdus.Initiate initiate) = Some initiate
initiate_in_pdu _ = None

-- an initiate in an AARQ
abbrev pub initiate_in : Option (List ℕ) → Option (List ℕ) → List Offered → AssociateRequest
    → MmsPdu → Meaning Heard
initiate_in session called contexts request pdu = says_some (out_of_order layers.Mms)
    (option_map (connecting session called contexts request) (initiate_in_pdu pdu))

-- an AARQ in a connect
abbrev pub aarq_in : List ℕ → Option (List ℕ) → Option (List ℕ) → List Offered → Apdu
    → Meaning Heard
aarq_in tsdu session called contexts (apdus.Aarq request) =
    inside (pdu_at tsdu request.user.body) (initiate_in session called contexts request)
aarq_in tsdu session called contexts _ = says_nothing (out_of_order layers.Acse)

-- the user information of an AARQ is of MMS's context, where the offers agree; another APDU is
-- out of order, whatever its id
abbrev pub request_expected : List Offered → Expected
request_expected contexts =
    record { request_id = mms_of contexts; response_id = None; accepted = false }

-- a connect in a connect of the session
abbrev pub offers_in : List ℕ → Option (List ℕ) → Ppdu → Meaning Heard
offers_in tsdu session (ppdus.Connect called contexts id body) =
    inside (apdu_at (request_expected contexts) tsdu body) (aarq_in tsdu session called contexts)
offers_in tsdu session _ = says_nothing (out_of_order layers.Presentation)

unfoldable pub connect_at : List ℕ → Option (List ℕ) → Span → Meaning Heard
connect_at tsdu session body =
    inside (ppdu_at expects.Connect tsdu body) (offers_in tsdu session)

-- ---- an accept

abbrev pub accepting : ℕ → ℕ → Initiate → Heard
accepting acse mms initiate =
    heard.Accept (record { acse = acse; mms = mms; initiate = initiate })

-- the initiate response that a PDU is
abbrev pub initiated_of : MmsPdu → Option Initiate
initiated_of (pdus.Initiated initiate) = Some initiate
initiated_of _ = None

-- an initiate response in an AARE
abbrev pub initiated_in : ℕ → ℕ → MmsPdu → Meaning Heard
initiated_in acse mms pdu = says_some (out_of_order layers.Mms)
    (option_map (accepting acse mms) (initiated_of pdu))

-- the user information of an AARE; where the result is 0, there is some
abbrev pub user_in : List ℕ → ℕ → Option External → Meaning Heard
user_in tsdu acse (Some user) =
    inside (pdu_at tsdu user.body) (initiated_in acse user.id)
user_in tsdu acse None = says_nothing (out_of_order layers.Acse)

-- an AARE in an accept
abbrev pub aare_in : List ℕ → ℕ → Apdu → Meaning Heard
aare_in tsdu acse (apdus.Aare response) = user_in tsdu acse response.user
aare_in tsdu acse _ = says_nothing (out_of_order layers.Acse)

-- an AARE accepts; its user information is of MMS's context, where this end offered it; another
-- APDU is out of order, whatever its id
abbrev pub answer_expected : Expecting → Expected
answer_expected e =
    record { request_id = None; response_id = offered_by e.side e.mms; accepted = true }

-- an accept in an accept of the session
abbrev pub results_in : Expecting → List ℕ → Ppdu → Meaning Heard
results_in e tsdu (ppdus.Accept called results id body) =
    inside (apdu_at (answer_expected e) tsdu body) (aare_in tsdu id)
results_in e tsdu _ = says_nothing (out_of_order layers.Presentation)

unfoldable pub accept_at : Expecting → List ℕ → Span → Meaning Heard
accept_at e tsdu body =
    inside (ppdu_at (expects.Accept (offered_by e.side e.acse)) tsdu body) (results_in e tsdu)
