-- A request for the type of a variable computed, apart from all code: what its octets ask by the
-- grammar of PDUs, and the octets of the answer over the view, worked out by hand from the standards.
use Rattle.std.proofs.Common.{◌≡◌, ℕ, List, [], ◌∷◌, refl}
use Rattle.std.specs.Prelude.{codes}
use Rattle.std.specs.Fmt.{digits}
use Rattle.ber_values.specs.Tags.{tag_in, length_in}
use Rattle.ber_values.specs.Heads.{head_in, head_by, element_by, extent_of, extent_within}
use Rattle.ber_values.specs.Extents.{definite}
use Rattle.ber_values.specs.Numbers.{integer_in, unsigned_in}
use Rattle.ber_values.specs.TextContents.{visible_in}
use Rattle.ber_values.specs.Grammars.{gives, then_in, map_in, branch_in, refused, by_length}
use Rattle.ber_values.specs.Grammars.{passed_within, passed_in}
use Rattle.ber_values.specs.Passing.{skip, pass_in}
use Rattle.ber_values.specs.Parts.{sized_part_in, parted_in, part_in, choose_in, maybe_in}
use Rattle.ber_values.specs.Parts.{contents_as, contents_where, all_in, whole_in}
use Rattle.ber_values.specs.Leaves as leaves
use Rattle.ber_values.specs.Writing as ber
use Rattle.tpkt_cotp.specs.Written.{wire}
use Rattle.session_profile.specs.Writing as session
use Rattle.presentation_profile.specs.Written as presentation
use Rattle.mms_data.specs.ObjectName.{ObjectName}
use Rattle.mms_data.specs.declared.object_name.Scope.TheVariants.{Domain}
use Rattle.mms_data.specs.NameOctets.{identifier, domain_name, one_name}
use Rattle.mms_services.specs.Access.Specifications.{sole_name, sole_variable}
use Rattle.mms_services.specs.Access.TypesOf.{type_request, type_request_octets}
use Rattle.mms_services.specs.Access.TypesOf.{type_response_octets, undeletable_octets}
use Rattle.mms_services.specs.Requests.{unknown_request, set_request, one_request}
use Rattle.mms_services.specs.Pdus.{invoke_in, confirmed_request, confirmed_response, frame_pdu}
use Rattle.mms_services.specs.Pdus.{one_pdu, pdu}
use Rattle.mms_services.specs.declared.pdu.MmsPdu.TheVariants as pdus
use Rattle.mms_services.specs.PduOctets.{pdu_octets, request_octets, response_octets, invoke_octets}
use Rattle.stack_assoc.specs.Wire.Tsdus.{data_tsdu}
use Rattle.tase_views.specs.declared.call.CallKind.{CallKind}
use Rattle.tase_views.specs.declared.call.CallKind.TheVariants.{TypeOf}
use Rattle.tase_conn.specs.Map.Turns.{asks}
use Rattle.tase_conn.specs.Map.Asked.{request_in}
use Rattle.tase_conn.proofs.OfMap.WorkedSets.{turns_by, answers}

-- the type of DOMA/BUS1
abbrev bus : ObjectName
bus = record { scope = Domain (codes "DOMA"); item = codes "BUS1" }

abbrev asked_octets : List ℕ
asked_octets =
    160 ∷ 21 ∷ 2 ∷ 1 ∷ 2 ∷ 166 ∷ 16 ∷ 160 ∷ 14 ∷ 161 ∷ 12 ∷ 26 ∷ 4 ∷ 68 ∷ 79 ∷ 77 ∷ 65 ∷ 26 ∷ 4
    ∷ 66 ∷ 85 ∷ 83 ∷ 49 ∷ []

-- eight bits, in what carries data
abbrev told_octets : List ℕ
told_octets =
    3 ∷ 0 ∷ 0 ∷ 35 ∷ 2 ∷ 240 ∷ 128 ∷ 1 ∷ 0 ∷ 1 ∷ 0 ∷ 97 ∷ 22 ∷ 48 ∷ 20 ∷ 2 ∷ 1 ∷ 3 ∷ 160 ∷ 15
    ∷ 161 ∷ 13 ∷ 2 ∷ 1 ∷ 2 ∷ 166 ∷ 8 ∷ 128 ∷ 1 ∷ 0 ∷ 162 ∷ 3 ∷ 132 ∷ 1 ∷ 8 ∷ []

type_is_asked : turns_by (asked_octets ∷ []) ≡ asks 2 (TypeOf bus) ∷ []
unfolding pdu one_pdu confirmed_request confirmed_response frame_pdu invoke_in one_request
    set_request unknown_request type_request sole_variable sole_name one_name domain_name
    identifier length_in tag_in head_in integer_in unsigned_in gives then_in map_in branch_in
    refused skip by_length pass_in sized_part_in parted_in part_in choose_in maybe_in contents_as
    contents_where all_in whole_in leaves.visible leaves.visible_within leaves.text_in
    leaves.integer leaves.unsigned leaves.raw visible_in extent_of extent_within definite head_by
    element_by passed_within passed_in
type_is_asked = refl

type_is_written : pdu_octets (pdus.Request 2 (request_in (TypeOf bus))) ≡ asked_octets
unfolding pdu_octets request_octets invoke_octets type_request_octets ber.length_octets
    ber.integer_octets
type_is_written = refl

type_is_told : answers (asked_octets ∷ []) ≡ told_octets
unfolding pdu one_pdu confirmed_request confirmed_response frame_pdu invoke_in one_request
    set_request unknown_request type_request sole_variable sole_name one_name domain_name
    identifier length_in tag_in head_in integer_in unsigned_in gives then_in map_in branch_in
    refused skip by_length pass_in sized_part_in parted_in part_in choose_in maybe_in contents_as
    contents_where all_in whole_in leaves.visible leaves.visible_within leaves.text_in
    leaves.integer leaves.unsigned leaves.raw visible_in extent_of extent_within definite head_by
    element_by passed_within passed_in digits wire session.session_length_octets
    ber.length_octets ber.integer_octets presentation.user_octets data_tsdu pdu_octets
    response_octets invoke_octets type_response_octets undeletable_octets
type_is_told = refl
