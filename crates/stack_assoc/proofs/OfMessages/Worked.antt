-- Messages as two control centres send them, computed layer by layer.
use Rattle.std.proofs.Common.{◌≡◌, ℕ, List, [], ◌∷◌, true, false, pos, Some, Ok, Err, refl, inl, inr}
use Rattle.ber_values.specs.declared.fault.BerFault.{BerFault}
use Rattle.ber_values.specs.declared.fault.Span.{Span}
use Rattle.ber_values.specs.declared.fault.Why.TheVariants as whys
use Rattle.ber_values.specs.Faults.{fault_at}
use Rattle.ber_values.specs.Reading.{Taken}
use Rattle.ber_values.specs.Tags.{tag_in, length_in}
use Rattle.ber_values.specs.Heads.{head_in}
use Rattle.ber_values.specs.Numbers.{integer_in, unsigned_in}
use Rattle.ber_values.specs.TextContents.{oid_in, visible_in}
use Rattle.ber_values.specs.BitContents.{bits_in}
use Rattle.ber_values.specs.Externals.{external_of, external}
use Rattle.ber_values.specs.Grammars.{Grammar, IsGrammar, taken, gives, then_in, map_in, branch_in, refused, by_length}
use Rattle.ber_values.specs.Passing.{skip, pass_in}
use Rattle.ber_values.specs.Parts.{whole_in, sized_part_in, parted_in, part_in, choose_in, maybe_in, contents_as, contents_where, all_in}
use Rattle.ber_values.specs.Lists.{more_in, list_in, count_in}
use Rattle.ber_values.specs.Leaves as leaves
use Rattle.session_profile.specs.declared.spdu.Spdu.TheVariants as spdus
use Rattle.session_profile.specs.Lengths as lengths
use Rattle.session_profile.specs.Parameters.{parameter_in}
use Rattle.session_profile.specs.Rules as rules
use Rattle.session_profile.specs.Connections.{item, connection}
use Rattle.session_profile.specs.Spdus as session
use Rattle.session_profile.proofs.Spdus.{spdu_reads}
use Rattle.presentation_profile.specs.declared.expected.Expected.TheVariants as expects
use Rattle.presentation_profile.specs.declared.ppdu.Ppdu.TheVariants as ppdus
use Rattle.presentation_profile.specs.declared.offers.Offered.{Offered}
use Rattle.presentation_profile.specs.Offers.{transfers, offered, offer_contents, offer, offers}
use Rattle.presentation_profile.specs.Others.{others, after_others, before_others, selector_element}
use Rattle.presentation_profile.specs.UserData.{user_data}
use Rattle.presentation_profile.specs.Results as outcomes
use Rattle.presentation_profile.specs.Ppdus.{connect_selectors, connect, accept, parameters, mode, set_up_contents, set_up, ppdu}
use Rattle.presentation_profile.proofs.PpdusRead.{ppdu_reads}
use Rattle.acse_assoc.specs.declared.apdu.Apdu.TheVariants as apdus
use Rattle.acse_assoc.specs.Rising.{by_tag, rising_within, rising_in, named_in, perhaps_in, attempt}
use Rattle.acse_assoc.specs.Users.{user_information}
use Rattle.acse_assoc.specs.Requests.{one_oid, context_name, calling_title, user_last, request}
use Rattle.acse_assoc.specs.Responses as responses
use Rattle.acse_assoc.specs.Apdus.{one_apdu, apdu}
use Rattle.acse_assoc.proofs.ApdusRead.{apdu_reads}
use Rattle.mms_services.specs.declared.initiate.Initiate.{Initiate}
use Rattle.mms_services.specs.declared.pdu.MmsPdu.TheVariants as pdus
use Rattle.mms_services.specs.declared.request.Request.TheVariants as asked_for
use Rattle.mms_services.specs.declared.response.Response.TheVariants as answers
use Rattle.mms_services.specs.Coded.{by_first, coded_in}
use Rattle.mms_services.specs.Identities.{identify_request, some_syntaxes, identify_response}
use Rattle.mms_services.specs.Initiates.{initiate_detail, initiate}
use Rattle.mms_services.specs.Requests.{unknown_request, set_request, one_request}
use Rattle.mms_services.specs.Responses.{set_response, one_response}
use Rattle.mms_services.specs.Pdus.{invoke_in, confirmed_request, confirmed_response, frame_pdu, one_pdu, pdu}
use Rattle.mms_services.proofs.PdusRead.{pdu_reads}
use Rattle.stack_assoc.specs.declared.messages.expecting.Expecting.{Expecting}
use Rattle.stack_assoc.specs.declared.messages.expecting.Phase.TheVariants as phases
use Rattle.stack_assoc.specs.declared.messages.expecting.Side.TheVariants as sides
use Rattle.stack_assoc.specs.declared.messages.fault.Layer.{Layer}
use Rattle.stack_assoc.specs.declared.messages.fault.Layer.TheVariants as layers
use Rattle.stack_assoc.specs.declared.messages.heard.Connecting.{Connecting}
use Rattle.stack_assoc.specs.declared.messages.heard.Heard.TheVariants as heard
use Rattle.stack_assoc.specs.Messages.Meanings.{says_just, inside}
use Rattle.stack_assoc.specs.Messages.Layers.{fault_of, octets_at, in_layer, spdu_of, ppdu_at, apdu_at, pdu_at}
use Rattle.stack_assoc.specs.Messages.Setting.{request_expected, answer_expected, connect_at, accept_at}
use Rattle.stack_assoc.specs.Messages.Messages.{data_at, carry_at, message}
use Rattle.ber_values.specs.Heads.{head_by, element_by, extent_of, extent_within}
use Rattle.ber_values.specs.Extents.{definite}
use Rattle.ber_values.specs.Grammars.{passed_within, passed_in}

abbrev pub span : ℕ → ℕ → Span
span from to = record { from = from; to = to }

-- what a grammar reads in a layer is what the octets say, and its fault theirs
layer-says : {X : Type 0} (layer : Layer) (placed : ℕ → ℕ) (g : Grammar X) (at : ℕ) (octets : List ℕ) (t : Taken X) → IsGrammar g → g.reading at octets ≡ Ok t → (in_layer layer placed g at octets).says t.value
unfolding in_layer
layer-says layer placed g at octets t exact e = (t, (exact at octets).found t e, refl)

layer-breaks : {X : Type 0} (layer : Layer) (placed : ℕ → ℕ) (g : Grammar X) (at : ℕ) (octets : List ℕ) (b : BerFault) → IsGrammar g → g.reading at octets ≡ Err b → (in_layer layer placed g at octets).breaks (fault_of layer (placed b.place) b.why)
unfolding in_layer
layer-breaks layer placed g at octets b exact e = (b, (exact at octets).fault b e, refl)

-- ---- the messages

-- a connect of two control centres
unfoldable pub connecting_octets : List ℕ
connecting_octets =
    13 ∷ 168 ∷ 5 ∷ 6 ∷ 19 ∷ 1 ∷ 0 ∷ 22 ∷ 1 ∷ 2 ∷ 20 ∷ 2 ∷ 0 ∷ 2 ∷ 51 ∷ 2 ∷ 0 ∷ 1 ∷ 52 ∷ 2 ∷ 0 ∷
    1 ∷ 193 ∷ 146 ∷ 49 ∷ 129 ∷ 143 ∷ 160 ∷ 3 ∷ 128 ∷ 1 ∷ 1 ∷ 162 ∷ 129 ∷ 135 ∷ 129 ∷ 4 ∷ 0 ∷ 0 ∷
    0 ∷ 1 ∷ 130 ∷ 4 ∷ 0 ∷ 0 ∷ 0 ∷ 1 ∷ 164 ∷ 35 ∷ 48 ∷ 15 ∷ 2 ∷ 1 ∷ 1 ∷ 6 ∷ 4 ∷ 82 ∷ 1 ∷ 0 ∷ 1 ∷
    48 ∷ 4 ∷ 6 ∷ 2 ∷ 81 ∷ 1 ∷ 48 ∷ 16 ∷ 2 ∷ 1 ∷ 3 ∷ 6 ∷ 5 ∷ 40 ∷ 202 ∷ 34 ∷ 2 ∷ 1 ∷ 48 ∷ 4 ∷ 6 ∷
    2 ∷ 81 ∷ 1 ∷ 97 ∷ 84 ∷ 48 ∷ 82 ∷ 2 ∷ 1 ∷ 1 ∷ 160 ∷ 77 ∷ 96 ∷ 75 ∷ 161 ∷ 7 ∷ 6 ∷ 5 ∷ 40 ∷
    202 ∷ 34 ∷ 2 ∷ 3 ∷ 166 ∷ 6 ∷ 6 ∷ 4 ∷ 41 ∷ 135 ∷ 103 ∷ 1 ∷ 167 ∷ 3 ∷ 2 ∷ 1 ∷ 12 ∷ 190 ∷ 51 ∷
    40 ∷ 49 ∷ 6 ∷ 2 ∷ 81 ∷ 1 ∷ 2 ∷ 1 ∷ 3 ∷ 160 ∷ 40 ∷ 168 ∷ 38 ∷ 128 ∷ 3 ∷ 0 ∷ 253 ∷ 232 ∷ 129 ∷
    1 ∷ 5 ∷ 130 ∷ 1 ∷ 5 ∷ 131 ∷ 1 ∷ 5 ∷ 164 ∷ 22 ∷ 128 ∷ 1 ∷ 1 ∷ 129 ∷ 3 ∷ 5 ∷ 241 ∷ 0 ∷ 130 ∷
    12 ∷ 3 ∷ 238 ∷ 28 ∷ 0 ∷ 0 ∷ 4 ∷ 8 ∷ 0 ∷ 0 ∷ 121 ∷ 239 ∷ 24 ∷ []

-- the accept that answers it
accepting_octets : List ℕ
accepting_octets =
    14 ∷ 134 ∷ 5 ∷ 6 ∷ 19 ∷ 1 ∷ 0 ∷ 22 ∷ 1 ∷ 2 ∷ 20 ∷ 2 ∷ 0 ∷ 2 ∷ 52 ∷ 2 ∷ 0 ∷ 1 ∷ 193 ∷ 116 ∷
    49 ∷ 114 ∷ 160 ∷ 3 ∷ 128 ∷ 1 ∷ 1 ∷ 162 ∷ 107 ∷ 131 ∷ 4 ∷ 0 ∷ 0 ∷ 0 ∷ 1 ∷ 165 ∷ 18 ∷ 48 ∷ 7 ∷
    128 ∷ 1 ∷ 0 ∷ 129 ∷ 2 ∷ 81 ∷ 1 ∷ 48 ∷ 7 ∷ 128 ∷ 1 ∷ 0 ∷ 129 ∷ 2 ∷ 81 ∷ 1 ∷ 97 ∷ 79 ∷ 48 ∷
    77 ∷ 2 ∷ 1 ∷ 1 ∷ 160 ∷ 72 ∷ 97 ∷ 70 ∷ 161 ∷ 7 ∷ 6 ∷ 5 ∷ 40 ∷ 202 ∷ 34 ∷ 2 ∷ 3 ∷ 162 ∷ 3 ∷ 2 ∷
    1 ∷ 0 ∷ 163 ∷ 5 ∷ 161 ∷ 3 ∷ 2 ∷ 1 ∷ 0 ∷ 190 ∷ 47 ∷ 40 ∷ 45 ∷ 2 ∷ 1 ∷ 3 ∷ 160 ∷ 40 ∷ 169 ∷
    38 ∷ 128 ∷ 3 ∷ 0 ∷ 253 ∷ 232 ∷ 129 ∷ 1 ∷ 5 ∷ 130 ∷ 1 ∷ 5 ∷ 131 ∷ 1 ∷ 5 ∷ 164 ∷ 22 ∷ 128 ∷ 1 ∷
    1 ∷ 129 ∷ 3 ∷ 5 ∷ 225 ∷ 0 ∷ 130 ∷ 12 ∷ 3 ∷ 110 ∷ 28 ∷ 0 ∷ 0 ∷ 0 ∷ 0 ∷ 0 ∷ 0 ∷ 0 ∷ 1 ∷ 16 ∷ []

-- a request to identify
unfoldable pub identify_octets : List ℕ
identify_octets =
    1 ∷ 0 ∷ 1 ∷ 0 ∷ 97 ∷ 14 ∷ 48 ∷ 12 ∷ 2 ∷ 1 ∷ 3 ∷ 160 ∷ 7 ∷ 160 ∷ 5 ∷ 2 ∷ 1 ∷ 1 ∷ 130 ∷ 0 ∷ []

-- its response
identified_octets : List ℕ
identified_octets =
    1 ∷ 0 ∷ 1 ∷ 0 ∷ 97 ∷ 32 ∷ 48 ∷ 30 ∷ 2 ∷ 1 ∷ 3 ∷ 160 ∷ 25 ∷ 161 ∷ 23 ∷ 2 ∷ 1 ∷ 1 ∷ 162 ∷ 18 ∷
    128 ∷ 6 ∷ 67 ∷ 69 ∷ 78 ∷ 84 ∷ 82 ∷ 69 ∷ 129 ∷ 5 ∷ 84 ∷ 65 ∷ 83 ∷ 69 ∷ 50 ∷ 130 ∷ 1 ∷ 49 ∷ []

-- the request without its last octet
short_octets : List ℕ
short_octets =
    1 ∷ 0 ∷ 1 ∷ 0 ∷ 97 ∷ 14 ∷ 48 ∷ 12 ∷ 2 ∷ 1 ∷ 3 ∷ 160 ∷ 7 ∷ 160 ∷ 5 ∷ 2 ∷ 1 ∷ 1 ∷ 130 ∷ []

-- what the connect asks for, and the accept grants
unfoldable pub wanted : Initiate
wanted = record { detail = Some (pos 65000); calling = pos 5; called = pos 5; nesting = Some (pos 5); version = pos 1 }

abbrev pub on_offer : List Offered
on_offer = offered 1 (82 ∷ 1 ∷ 0 ∷ 1 ∷ []) true ∷ offered 3 (40 ∷ 202 ∷ 34 ∷ 2 ∷ 1 ∷ []) true ∷ []

abbrev pub connecting : Connecting
connecting = record {
  session = Some (0 ∷ 1 ∷ []);
  presentation = Some (0 ∷ 0 ∷ 0 ∷ 1 ∷ []);
  contexts = on_offer;
  context = 40 ∷ 202 ∷ 34 ∷ 2 ∷ 3 ∷ [];
  title = Some (41 ∷ 135 ∷ 103 ∷ 1 ∷ []);
  initiate = wanted;
}

-- the called end before an association stands, and the calling end then
abbrev pub called : Expecting
called = record { side = sides.Called; phase = phases.Unassociated; acse = 1; mms = 3; awaited = false }

abbrev calling : Expecting
calling = record { side = sides.Calling; phase = phases.Unassociated; acse = 1; mms = 3; awaited = false }

-- both once it stands
abbrev pub answering : Expecting
answering = record { side = sides.Called; phase = phases.Associated; acse = 1; mms = 3; awaited = false }

abbrev asking : Expecting
asking = record { side = sides.Calling; phase = phases.Associated; acse = 1; mms = 3; awaited = false }

-- ---- what each layer reads

spdu_rows : (session.spdu_in connecting_octets ≡ Ok (spdus.Connect (Some (0 ∷ 1 ∷ [])) (span 24 170)))
    × (session.spdu_in accepting_octets ≡ Ok (spdus.Accept (Some (0 ∷ 1 ∷ [])) (span 20 136)))
    × (session.spdu_in identify_octets ≡ Ok (spdus.Carry (span 4 20)))
    × (session.spdu_in identified_octets ≡ Ok (spdus.Carry (span 4 38)))
    × (session.spdu_in short_octets ≡ Ok (spdus.Carry (span 4 19)))
unfolding connecting_octets accepting_octets identify_octets identified_octets short_octets session.spdu_in session.whole_spdu_in session.spdu_coded_in rules.all_parameters_in rules.rest_in connection item parameter_in lengths.session_length_in
spdu_rows = (refl, refl, refl, refl, refl)

ppdu_rows : ((ppdu expects.Connect).reading 24 (octets_at connecting_octets (span 24 170)) ≡ Ok (taken (ppdus.Connect (Some (0 ∷ 0 ∷ 0 ∷ 1 ∷ [])) on_offer 1 (span 93 170)) 170 []))
    × ((ppdu (expects.Accept (Some 1))).reading 20 (octets_at accepting_octets (span 20 136)) ≡ Ok (taken (ppdus.Accept (Some (0 ∷ 0 ∷ 0 ∷ 1 ∷ [])) (0 ∷ 0 ∷ []) 1 (span 64 136)) 136 []))
    × ((ppdu (expects.Carry 3)).reading 4 (octets_at identify_octets (span 4 20)) ≡ Ok (taken (ppdus.Carry 3 (span 13 20)) 20 []))
    × ((ppdu (expects.Carry 3)).reading 4 (octets_at identified_octets (span 4 38)) ≡ Ok (taken (ppdus.Carry 3 (span 13 38)) 38 []))
    × ((ppdu (expects.Carry 3)).reading 4 (octets_at short_octets (span 4 19)) ≡ Err (fault_at 5 whys.Length))
unfolding connecting_octets accepting_octets identify_octets identified_octets short_octets ppdu set_up set_up_contents mode parameters connect connect_selectors
    accept outcomes.results outcomes.accepting_results outcomes.begin_then_in outcomes.one_result
    outcomes.result_contents after_others before_others others selector_element user_data external offers
    offer offer_contents transfers length_in tag_in head_in integer_in unsigned_in oid_in gives
    then_in map_in branch_in refused skip by_length pass_in sized_part_in parted_in part_in
    choose_in maybe_in contents_as contents_where all_in whole_in more_in list_in count_in
    leaves.unsigned leaves.unsigned_within leaves.oid leaves.octet leaves.octet_in leaves.span
    leaves.selector leaves.selector_in leaves.fixed leaves.raw leaves.integer leaves.bits bits_in
    extent_of extent_within definite head_by element_by passed_within passed_in
ppdu_rows = (refl, refl, refl, refl, refl)

apdu_rows : ((apdu (request_expected on_offer)).reading 93 (octets_at connecting_octets (span 93 170)) ≡ Ok (taken (apdus.Aarq (record { context = 40 ∷ 202 ∷ 34 ∷ 2 ∷ 3 ∷ []; title = Some (41 ∷ 135 ∷ 103 ∷ 1 ∷ []); user = external_of 3 (span 130 170) })) 170 []))
    × ((apdu (answer_expected calling)).reading 64 (octets_at accepting_octets (span 64 136)) ≡ Ok (taken (apdus.Aare (record { result = 0; user = Some (external_of 3 (span 96 136)) })) 136 []))
unfolding connecting_octets accepting_octets apdu one_apdu request one_oid context_name calling_title user_last
    responses.response responses.context_passed responses.result_number responses.result_next
    responses.user_of_result responses.some_user_last external user_information by_tag rising_within
    rising_in named_in perhaps_in attempt length_in tag_in head_in integer_in unsigned_in oid_in gives
    then_in map_in branch_in refused skip by_length pass_in sized_part_in parted_in part_in
    choose_in maybe_in contents_as contents_where all_in whole_in more_in list_in count_in
    leaves.unsigned leaves.unsigned_within leaves.oid leaves.octet leaves.octet_in leaves.span
    leaves.selector leaves.selector_in leaves.fixed leaves.raw leaves.integer leaves.bits bits_in
    extent_of extent_within definite head_by element_by passed_within passed_in
apdu_rows = (refl, refl)

pdu_rows : (pdu.reading 0 (octets_at connecting_octets (span 130 170)) ≡ Ok (taken (pdus.Initiate wanted) 40 []))
    × (pdu.reading 0 (octets_at accepting_octets (span 96 136)) ≡ Ok (taken (pdus.Initiated wanted) 40 []))
    × (pdu.reading 0 (octets_at identify_octets (span 13 20)) ≡ Ok (taken (pdus.Request 1 asked_for.Identify) 7 []))
    × (pdu.reading 0 (octets_at identified_octets (span 13 38)) ≡ Ok (taken (pdus.Response 1 answers.Identify) 25 []))
unfolding connecting_octets accepting_octets identify_octets identified_octets wanted pdu one_pdu confirmed_request confirmed_response frame_pdu invoke_in
    one_request set_request unknown_request one_response set_response identify_request
    identify_response some_syntaxes initiate initiate_detail coded_in by_first leaves.visible_within
    leaves.text_in leaves.visible visible_in length_in tag_in head_in integer_in unsigned_in oid_in gives
    then_in map_in branch_in refused skip by_length pass_in sized_part_in parted_in part_in
    choose_in maybe_in contents_as contents_where all_in whole_in more_in list_in count_in
    leaves.unsigned leaves.unsigned_within leaves.oid leaves.octet leaves.octet_in leaves.span
    leaves.selector leaves.selector_in leaves.fixed leaves.raw leaves.integer leaves.bits bits_in
    extent_of extent_within definite head_by element_by passed_within passed_in
pdu_rows = (refl, refl, refl, refl)

-- ---- what is heard

-- a connect at the called end, before an association stands
pub connect_heard : (message called connecting_octets).says (heard.Connect connecting)
unfolding message inside spdu_of connect_at ppdu_at apdu_at pdu_at says_just
connect_heard = (
  spdus.Connect (Some (0 ∷ 1 ∷ [])) (span 24 170),
  (spdu_reads connecting_octets).found _ spdu_rows.0,
  (
    _,
    layer-says layers.Presentation (λ n. n) (ppdu expects.Connect) 24 _ _ (ppdu_reads expects.Connect) ppdu_rows.0,
    (
      _,
      layer-says layers.Acse (λ n. n) (apdu (request_expected on_offer)) 93 _ _ (apdu_reads (request_expected on_offer)) apdu_rows.0,
      (_, layer-says layers.Mms _ pdu 0 _ _ pdu_reads pdu_rows.0, refl),
    ),
  ),
)

-- its accept at the calling end
accept_heard : (message calling accepting_octets).says (heard.Accept (record { acse = 1; mms = 3; initiate = wanted }))
unfolding message inside spdu_of accept_at ppdu_at apdu_at pdu_at says_just
accept_heard = (
  spdus.Accept (Some (0 ∷ 1 ∷ [])) (span 20 136),
  (spdu_reads accepting_octets).found _ spdu_rows.1,
  (
    _,
    layer-says layers.Presentation (λ n. n) (ppdu (expects.Accept (Some 1))) 20 _ _ (ppdu_reads (expects.Accept (Some 1))) ppdu_rows.1,
    (
      _,
      layer-says layers.Acse (λ n. n) (apdu (answer_expected calling)) 64 _ _ (apdu_reads (answer_expected calling)) apdu_rows.1,
      (_, layer-says layers.Mms _ pdu 0 _ _ pdu_reads pdu_rows.1, refl),
    ),
  ),
)

pub identify_heard : (message answering identify_octets).says (heard.Pdu (pdus.Request 1 asked_for.Identify))
unfolding message inside spdu_of carry_at ppdu_at data_at pdu_at
identify_heard = (
  spdus.Carry (span 4 20),
  (spdu_reads identify_octets).found _ spdu_rows.2,
  (
    _,
    layer-says layers.Presentation (λ n. n) (ppdu (expects.Carry 3)) 4 _ _ (ppdu_reads (expects.Carry 3)) ppdu_rows.2,
    inl (_, layer-says layers.Mms _ pdu 0 _ _ pdu_reads pdu_rows.2, refl, refl),
  ),
)

identified_heard : (message asking identified_octets).says (heard.Pdu (pdus.Response 1 answers.Identify))
unfolding message inside spdu_of carry_at ppdu_at data_at pdu_at
identified_heard = (
  spdus.Carry (span 4 38),
  (spdu_reads identified_octets).found _ spdu_rows.3,
  (
    _,
    layer-says layers.Presentation (λ n. n) (ppdu (expects.Carry 3)) 4 _ _ (ppdu_reads (expects.Carry 3)) ppdu_rows.3,
    inl (_, layer-says layers.Mms _ pdu 0 _ _ pdu_reads pdu_rows.3, refl, refl),
  ),
)

short_broken : (message answering short_octets).breaks (fault_of layers.Presentation 5 whys.Length)
unfolding message inside spdu_of carry_at ppdu_at
short_broken = inr (
  spdus.Carry (span 4 19),
  (spdu_reads short_octets).found _ spdu_rows.4,
  inl (layer-breaks layers.Presentation (λ n. n) (ppdu (expects.Carry 3)) 4 _ _ (ppdu_reads (expects.Carry 3)) ppdu_rows.4),
)
