-- What is said has the length of a TSDU, and says it.
use Rattle.std.proofs.Common.{◌≡◌, ℕ, ◌≤◌, List, [], length, Option, Some, refl, arith}
use Rattle.ber_values.specs.Writing as ber
use Rattle.ber_values.specs.Writing.{written}
use Rattle.tpkt_cotp.specs.Written.{wire}
use Rattle.tpkt_cotp.proofs.Always.{written_said}
use Rattle.tpkt_cotp.proofs.Wires.{wire_cut}
use Rattle.presentation_profile.specs.declared.ppdu.Ppdu.TheVariants as ppdus
use Rattle.presentation_profile.specs.Written.{ppdu_octets}
use Rattle.tpkt_cotp.specs.Selectors.{HasSelector}
use Rattle.acse_assoc.specs.declared.apdu.Apdu.{Apdu}
use Rattle.acse_assoc.specs.declared.apdu.Apdu.TheVariants as apdus
use Rattle.acse_assoc.specs.Writing.{apdu_octets, IsKeptTitle}
use Rattle.mms_services.specs.declared.initiate.Initiate.{Initiate}
use Rattle.mms_services.specs.declared.pdu.MmsPdu.{MmsPdu}
use Rattle.mms_services.specs.declared.pdu.MmsPdu.TheVariants as pdus
use Rattle.mms_services.specs.PduOctets.{pdu_octets, pdu_len}
use Rattle.stack_assoc.specs.declared.wire.setup.AssociationSetup.{AssociationSetup}
use Rattle.stack_assoc.specs.Wire.Said.{IsTsdu, IsWiredMessage}
use Rattle.stack_assoc.specs.Wire.Setups.{IsSetup}
use Rattle.stack_assoc.specs.Wire.Tsdus.{nowhere, own_parameters, own_request, own_offers, accepted}
use Rattle.stack_assoc.specs.Wire.Tsdus.{refused_apdu}
use Rattle.stack_assoc.specs.Wire.Tsdus.{called_session, called_presentation, carried, connect_tsdu}
use Rattle.stack_assoc.specs.Wire.Tsdus.{accept_tsdu, refusal_tsdu, finish_tsdu, release_tsdu, abort_tsdu}
use Rattle.stack_assoc.specs.Wire.Tsdus.{data_tsdu}
use Rattle.stack_assoc.proofs.OfWire.Sizes.{initiate-most, request-most, response-most, data-most}
use Rattle.stack_assoc.proofs.OfWire.Sizes.{connect-most, accept-most, session_connect-most, written-most}
use Rattle.stack_assoc.proofs.OfWire.Sizes.{session_accept-most, refuse-most, release-most, abort-most}

pub said_of : (octets : List ℕ) → IsTsdu octets → IsWiredMessage octets
said_of octets fits = record {
  fits = fits;
  said = λ size at least. written_said size at octets (wire size octets)
      (wire_cut size octets (omega arith) (omega arith)) fits.1;
}

-- ---- the calling end

pub initiate_pdu-most : (offer : Initiate) → length (pdu_octets (pdus.Initiate offer)) ≤ 86
unfolding pdu_octets
initiate_pdu-most offer = initiate-most 168 offer

pub own_apdu-most : (title : Option (List ℕ)) → IsKeptTitle title
    → length (apdu_octets (own_request title) (pdu_octets (pdus.Initiate own_parameters))) ≤ 177
own_apdu-most title titled = omega (
  arith,
  request-most title 3 (pdu_octets (pdus.Initiate own_parameters)) titled,
  initiate_pdu-most own_parameters,
)

abbrev pub own_ppdu : Option (List ℕ) → List ℕ
own_ppdu title = ppdu_octets (ppdus.Connect (Some called_presentation) own_offers 1 nowhere)
    (apdu_octets (own_request title) (pdu_octets (pdus.Initiate own_parameters)))

pub own_ppdu-most : (title : Option (List ℕ)) → IsKeptTitle title → length (own_ppdu title) ≤ 307
own_ppdu-most title titled = omega (
  arith,
  connect-most (Some called_presentation) 1
      (apdu_octets (own_request title) (pdu_octets (pdus.Initiate own_parameters)))
      (omega arith, omega arith),
  own_apdu-most title titled,
)

pub connect-fits : (title : Option (List ℕ)) → IsKeptTitle title → IsTsdu (connect_tsdu title)
unfolding connect_tsdu
connect-fits title titled = (
  omega arith,
  omega (
    arith,
    session_connect-most (Some called_session) (own_ppdu title) (omega arith, omega arith),
    own_ppdu-most title titled,
  ),
)

-- ---- the called end's answer to a connect

pub initiated_pdu-most : (answer : Initiate) → length (pdu_octets (pdus.Initiated answer)) ≤ 86
unfolding pdu_octets
initiated_pdu-most answer = initiate-most 169 answer

pub accepted-most : (mms : ℕ) (answer : Initiate)
    → length (apdu_octets (accepted mms) (pdu_octets (pdus.Initiated answer))) ≤ 160
accepted-most mms answer = omega (
  arith,
  response-most 0 mms (pdu_octets (pdus.Initiated answer)),
  initiated_pdu-most answer,
)

abbrev pub accept_ppdu : AssociationSetup → Initiate → List ℕ
accept_ppdu setup answer =
    ppdu_octets (ppdus.Accept setup.presentation setup.results setup.acse nowhere)
    (apdu_octets (accepted setup.mms) (pdu_octets (pdus.Initiated answer)))

pub accept_ppdu-most : (setup : AssociationSetup) (answer : Initiate) → IsSetup setup
    → HasSelector setup.presentation → length (accept_ppdu setup answer) ≤ 397
accept_ppdu-most setup answer is has = omega (
  arith,
  accept-most setup.presentation setup.results setup.acse
      (apdu_octets (accepted setup.mms) (pdu_octets (pdus.Initiated answer))) has is.few,
  accepted-most setup.mms answer,
)

pub accept-fits : (setup : AssociationSetup) (answer : Initiate) → IsSetup setup
    → HasSelector setup.session → HasSelector setup.presentation
    → IsTsdu (accept_tsdu setup answer)
unfolding accept_tsdu
accept-fits setup answer is spoken has = (
  omega arith,
  omega (
    arith,
    session_accept-most setup.session (accept_ppdu setup answer) spoken,
    accept_ppdu-most setup answer is has,
  ),
)

-- ---- short answers

pub refused-sized : length (apdu_octets refused_apdu []) ≡ 23
unfolding ber.length_octets ber.integer_octets
refused-sized = refl

pub carried-most : (acse : ℕ) (apdu : Apdu) → length (apdu_octets apdu []) ≤ 200
    → length (carried acse apdu) ≤ 232
carried-most acse apdu short = omega (arith, data-most acse (apdu_octets apdu []), short)

pub refusal-fits : (acse : ℕ) → IsTsdu (refusal_tsdu acse)
unfolding refusal_tsdu
refusal-fits acse = (
  omega arith,
  omega (
    arith,
    refuse-most (written 48 (carried acse refused_apdu)),
    written-most 48 (carried acse refused_apdu),
    carried-most acse refused_apdu (omega (arith, refused-sized)),
  ),
)

pub finish-fits : (acse : ℕ) → IsTsdu (finish_tsdu acse)
unfolding finish_tsdu
finish-fits acse = (
  omega arith,
  omega (
    arith,
    release-most 9 (carried acse apdus.Rlrq),
    carried-most acse apdus.Rlrq (omega arith),
  ),
)

pub release-fits : (acse : ℕ) → IsTsdu (release_tsdu acse)
unfolding release_tsdu
release-fits acse = (
  omega arith,
  omega (
    arith,
    release-most 10 (carried acse apdus.Rlre),
    carried-most acse apdus.Rlre (omega arith),
  ),
)

pub abort-fits : (acse : ℕ) → IsTsdu (abort_tsdu acse)
unfolding abort_tsdu
abort-fits acse = (
  omega arith,
  omega (
    arith,
    abort-most (written 160 (carried acse apdus.Abrt)),
    written-most 160 (carried acse apdus.Abrt),
    carried-most acse apdus.Abrt (omega arith),
  ),
)

-- ---- data

pub data_ppdu-most : (mms : ℕ) (pdu : MmsPdu) → pdu_len pdu ≤ 65000
    → length (ppdu_octets (ppdus.Carry mms nowhere) (pdu_octets pdu)) ≤ 65032
data_ppdu-most mms pdu bounded = omega (arith, data-most mms (pdu_octets pdu), bounded)

pub data-fits : (mms : ℕ) (pdu : MmsPdu) → pdu_len pdu ≤ 65000 → IsTsdu (data_tsdu mms pdu)
unfolding data_tsdu
data-fits mms pdu bounded = (omega arith, omega (arith, data_ppdu-most mms pdu bounded))
