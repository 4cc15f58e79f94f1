-- One layer in the body of the next one.
use Rattle.std.proofs.Common.{◌≡◌, ℕ, ◌≤◌, List, length, Option, Some, sym, subst, ap, ◌∙◌, arith}
use Rattle.session_profile.specs.declared.spdu.Spdu.{Spdu}
use Rattle.session_profile.specs.declared.spdu.Spdu.TheVariants as spdus
use Rattle.session_profile.specs.Writing.{written_form}
use Rattle.presentation_profile.specs.declared.ppdu.Ppdu.{Ppdu}
use Rattle.presentation_profile.specs.declared.ppdu.Ppdu.TheVariants as ppdus
use Rattle.presentation_profile.specs.Written.{ppdu_octets}
use Rattle.acse_assoc.specs.declared.apdu.Apdu.{Apdu}
use Rattle.acse_assoc.specs.Writing.{apdu_octets}
use Rattle.mms_services.specs.declared.initiate.Initiate.{Initiate}
use Rattle.mms_services.specs.declared.pdu.MmsPdu.{MmsPdu}
use Rattle.mms_services.specs.declared.pdu.MmsPdu.TheVariants as pdus
use Rattle.mms_services.specs.PduOctets.{pdu_octets}
use Rattle.stack_assoc.specs.declared.wire.setup.AssociationSetup.{AssociationSetup}
use Rattle.stack_assoc.specs.Wire.Said.{IsTsdu}
use Rattle.stack_assoc.specs.Wire.Tsdus.{nowhere, own_parameters, own_request, own_offers, accepted}
use Rattle.stack_assoc.specs.Wire.Tsdus.{called_session, called_presentation, connect_tsdu, accept_tsdu}
use Rattle.stack_assoc.specs.Wire.Tsdus.{data_tsdu}
use Rattle.stack_assoc.proofs.OfWire.Fits.{own_ppdu, accept_ppdu}

-- octets, lent, of a value in a layer's form around a body
pub step : {X : Type 0} (f : X → List ℕ → List ℕ) (value wanted : X) (body inner octets : List ℕ)
    → octets ≡ f value body → value ≡ wanted → body ≡ inner → octets ≡ f wanted inner
step f value wanted body inner octets is same there =
    is ∙ ap (λ v. f v body) same ∙ ap (λ (os : List ℕ). f wanted os) there

pub bounded_by : (octets others : List ℕ) (few many : ℕ) → octets ≡ others → length others ≤ few
    → few ≤ many → length octets ≤ many
bounded_by octets others few many same le fits = omega (arith, ap length same)

pub fits_as : (octets tsdu : List ℕ) → octets ≡ tsdu → IsTsdu tsdu → IsTsdu octets
fits_as octets tsdu same fits = subst IsTsdu (sym same) fits

-- ---- the calling end

abbrev pub own_pdu : List ℕ
own_pdu = pdu_octets (pdus.Initiate own_parameters)

abbrev pub own_apdu : Option (List ℕ) → List ℕ
own_apdu title = apdu_octets (own_request title) own_pdu

pub own_pdu_is : (offer : Initiate) (octets lent : List ℕ) → lent ≡ octets
    → octets ≡ pdu_octets (pdus.Initiate offer) → offer ≡ own_parameters → lent ≡ own_pdu
own_pdu_is offer octets lent same is own =
    same ∙ is ∙ ap (λ (i : Initiate). pdu_octets (pdus.Initiate i)) own

pub own_apdu_is : (title : Option (List ℕ)) (request : Apdu) (body octets lent : List ℕ)
    → lent ≡ octets → octets ≡ apdu_octets request body → request ≡ own_request title
    → body ≡ own_pdu → lent ≡ own_apdu title
own_apdu_is title request body octets lent same is own there =
    same ∙ step apdu_octets request (own_request title) body own_pdu octets is own there

pub own_ppdu_is : (title : Option (List ℕ)) (connect : Ppdu) (body octets lent : List ℕ)
    → lent ≡ octets → octets ≡ ppdu_octets connect body
    → connect ≡ ppdus.Connect (Some called_presentation) own_offers 1 nowhere
    → body ≡ own_apdu title → lent ≡ own_ppdu title
own_ppdu_is title connect body octets lent same is own there = same ∙ step ppdu_octets connect
    (ppdus.Connect (Some called_presentation) own_offers 1 nowhere) body (own_apdu title) octets is
    own there

pub connect_is : (title : Option (List ℕ)) (spdu : Spdu) (body octets : List ℕ)
    → octets ≡ written_form spdu body → spdu ≡ spdus.Connect (Some called_session) nowhere
    → body ≡ own_ppdu title → octets ≡ connect_tsdu title
unfolding connect_tsdu
connect_is title spdu body octets is own there = step written_form spdu
    (spdus.Connect (Some called_session) nowhere) body (own_ppdu title) octets is own there

-- ---- the accept

abbrev pub initiated_pdu : Initiate → List ℕ
initiated_pdu answer = pdu_octets (pdus.Initiated answer)

abbrev pub accepted_apdu : ℕ → Initiate → List ℕ
accepted_apdu mms answer = apdu_octets (accepted mms) (initiated_pdu answer)

pub accepted_apdu_is : (mms : ℕ) (answer : Initiate) (response : Apdu) (body octets lent : List ℕ)
    → lent ≡ octets → octets ≡ apdu_octets response body → response ≡ accepted mms
    → body ≡ initiated_pdu answer → lent ≡ accepted_apdu mms answer
accepted_apdu_is mms answer response body octets lent same is own there =
    same ∙ step apdu_octets response (accepted mms) body (initiated_pdu answer) octets is own there

pub accept_ppdu_is : (setup : AssociationSetup) (answer : Initiate) (accept : Ppdu)
    (body octets lent : List ℕ) → lent ≡ octets → octets ≡ ppdu_octets accept body
    → accept ≡ ppdus.Accept setup.presentation setup.results setup.acse nowhere
    → body ≡ accepted_apdu setup.mms answer → lent ≡ accept_ppdu setup answer
accept_ppdu_is setup answer accept body octets lent same is own there = same
    ∙ step ppdu_octets accept
    (ppdus.Accept setup.presentation setup.results setup.acse nowhere) body
    (accepted_apdu setup.mms answer) octets is own there

pub accept_is : (setup : AssociationSetup) (answer : Initiate) (spdu : Spdu) (body octets : List ℕ)
    → octets ≡ written_form spdu body → spdu ≡ spdus.Accept setup.session nowhere
    → body ≡ accept_ppdu setup answer → octets ≡ accept_tsdu setup answer
unfolding accept_tsdu
accept_is setup answer spdu body octets is own there = step written_form spdu
    (spdus.Accept setup.session nowhere) body (accept_ppdu setup answer) octets is own there

-- ---- data

abbrev pub data_ppdu : ℕ → MmsPdu → List ℕ
data_ppdu mms pdu = ppdu_octets (ppdus.Carry mms nowhere) (pdu_octets pdu)

pub data_ppdu_is : (mms : ℕ) (pdu : MmsPdu) (inner body octets lent : List ℕ) → lent ≡ octets
    → octets ≡ ppdu_octets (ppdus.Carry mms nowhere) body → body ≡ inner → inner ≡ pdu_octets pdu
    → lent ≡ data_ppdu mms pdu
data_ppdu_is mms pdu inner body octets lent same is there own = same ∙ is
    ∙ ap (λ (os : List ℕ). ppdu_octets (ppdus.Carry mms nowhere) os) (there ∙ own)

pub data_is : (mms : ℕ) (pdu : MmsPdu) (body octets : List ℕ)
    → octets ≡ written_form (spdus.Carry nowhere) body → body ≡ data_ppdu mms pdu
    → octets ≡ data_tsdu mms pdu
unfolding data_tsdu
data_is mms pdu body octets is there =
    is ∙ ap (λ (os : List ℕ). written_form (spdus.Carry nowhere) os) there
