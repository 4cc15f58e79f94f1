-- Calls on data sets computed, apart from all code: what the octets of requests ask by the grammar
-- of PDUs, and the octets of the answers over the view, all worked out by hand from the standards.
use Rattle.std.proofs.Common.{◌≡◌, ℕ, List, [], ◌∷◌, ◌++◌, Result, Ok, Err, None, false, pos}
use Rattle.std.proofs.Common.{map, refl}
use Rattle.std.specs.Prelude.{codes, flat_map}
use Rattle.ber_values.specs.declared.fault.BerFault.{BerFault}
use Rattle.ber_values.specs.Reading.{Taken}
use Rattle.ber_values.specs.Tags.{tag_in, length_in}
use Rattle.ber_values.specs.Heads.{head_in}
use Rattle.ber_values.specs.Numbers.{integer_in, unsigned_in}
use Rattle.ber_values.specs.TextContents.{visible_in}
use Rattle.ber_values.specs.Booleans.{boolean_in}
use Rattle.ber_values.specs.Grammars.{gives, then_in, map_in, branch_in, refused}
use Rattle.ber_values.specs.Passing.{skip}
use Rattle.ber_values.specs.Grammars.{by_length}
use Rattle.ber_values.specs.Passing.{pass_in}
use Rattle.ber_values.specs.Parts.{sized_part_in, parted_in, part_in, choose_in, maybe_in}
use Rattle.ber_values.specs.Parts.{contents_as, contents_where, all_in, whole_in}
use Rattle.ber_values.specs.Lists.{more_in, list_in, count_in}
use Rattle.ber_values.specs.Leaves as leaves
use Rattle.ber_values.specs.Writing as ber
use Rattle.tpkt_cotp.specs.Written.{wire}
use Rattle.session_profile.specs.Writing as session
use Rattle.presentation_profile.specs.Written as presentation
use Rattle.tase_points.specs.declared.body.Body.TheVariants as bodies
use Rattle.mms_data.specs.DataOctets.{plain_datum, datum_within, one_datum}
use Rattle.mms_data.specs.NameOctets.{identifier, domain_name, one_name}
use Rattle.mms_services.specs.declared.pdu.MmsPdu.{MmsPdu}
use Rattle.mms_services.specs.Coded.{coded_in}
use Rattle.mms_services.specs.Names.NameLists.{object_class, one_scope, object_scope, after_name}
use Rattle.mms_services.specs.Names.NameLists.{name_list_request, listed_octets, names_octets}
use Rattle.mms_services.specs.Names.NameLists.{more_octets, list_octets, name_list_response_octets}
use Rattle.mms_services.specs.Access.Specifications.{sole_name, sole_variable, variable, variables}
use Rattle.mms_services.specs.Access.Specifications.{specification, sole_spec, variable_octets}
use Rattle.mms_services.specs.Access.Specifications.{variables_octets, spec_octets}
use Rattle.mms_services.specs.Access.Reads.{echo_in, read_request, echoed_octets, outcomes_octets}
use Rattle.mms_services.specs.Access.Reads.{read_response_octets}
use Rattle.mms_services.specs.Access.Writes.{values_of, write_request}
use Rattle.mms_services.specs.Names.Defines.{define_request}
use Rattle.mms_services.specs.Names.MemberLists.{members_request, deletable_octets}
use Rattle.mms_services.specs.Names.MemberLists.{members_response_octets}
use Rattle.mms_services.specs.Names.Deletes.{deletion_scope, free, set_names, delete_request}
use Rattle.mms_services.specs.Names.Deletes.{delete_response_octets}
use Rattle.mms_services.specs.Errors.{error_pdu_octets, service_error_octets}
use Rattle.mms_services.specs.Requests.{unknown_request, set_request, one_request}
use Rattle.mms_services.specs.Pdus.{invoke_in, confirmed_request, confirmed_response, frame_pdu}
use Rattle.mms_services.specs.Pdus.{one_pdu, pdu}
use Rattle.mms_services.specs.PduOctets.{pdu_octets, response_octets, invoke_octets}
use Rattle.stack_assoc.specs.declared.messages.heard.Heard.TheVariants as heards
use Rattle.stack_assoc.specs.Wire.Tsdus.{data_tsdu}
use Rattle.stack_assoc.specs.Arrivals.{Arrival, heard}
use Rattle.tase_views.specs.OwnTables.{own_tables}
use Rattle.tase_views.specs.Moves.{opens, acts_of_call}
use Rattle.tase_views.specs.View.{View, own, updated}
use Rattle.tase_views.proofs.NodeSample.{rows}
use Rattle.tase_conn.specs.Map.Turns.{Turn, asks, turns_told}
use Rattle.tase_conn.specs.Map.Out.{Talk, talk_of, octets_in}
use Rattle.tase_conn.proofs.OfMap.Worked.{first_two}
use Rattle.ber_values.specs.Heads.{head_by, element_by, extent_of, extent_within}
use Rattle.ber_values.specs.Extents.{definite}
use Rattle.ber_values.specs.Grammars.{passed_within, passed_in}

-- ---- what requests ask

abbrev pub told_by : Result (Taken MmsPdu) BerFault → List Arrival
told_by (Ok t) = heard (heards.Pdu t.value) ∷ []
told_by (Err f) = []

abbrev pub turns_by : List (List ℕ) → List Turn
turns_by requests = turns_told (record {
  told = flat_map (λ octets. told_by (pdu.reading 0 octets)) requests;
  broken = None;
})

-- DOMA/S with the members DOMA/BUS1 and vmd:Transfer_Set_Name is defined
abbrev define : List ℕ
define =
    160 ∷ 59 ∷ 2 ∷ 1 ∷ 1 ∷ 171 ∷ 54 ∷ 161 ∷ 9 ∷ 26 ∷ 4 ∷ 68 ∷ 79 ∷ 77 ∷ 65 ∷ 26 ∷ 1 ∷ 83 ∷ 160
    ∷ 41 ∷ 48 ∷ 16 ∷ 160 ∷ 14 ∷ 161 ∷ 12 ∷ 26 ∷ 4 ∷ 68 ∷ 79 ∷ 77 ∷ 65 ∷ 26 ∷ 4 ∷ 66 ∷ 85 ∷ 83
    ∷ 49 ∷ 48 ∷ 21 ∷ 160 ∷ 19 ∷ 128 ∷ 17 ∷ 84 ∷ 114 ∷ 97 ∷ 110 ∷ 115 ∷ 102 ∷ 101 ∷ 114 ∷ 95
    ∷ 83 ∷ 101 ∷ 116 ∷ 95 ∷ 78 ∷ 97 ∷ 109 ∷ 101 ∷ []

-- it is read, and read with its name
abbrev read : List ℕ
read =
    160 ∷ 20 ∷ 2 ∷ 1 ∷ 2 ∷ 164 ∷ 15 ∷ 161 ∷ 13 ∷ 161 ∷ 11 ∷ 161 ∷ 9 ∷ 26 ∷ 4 ∷ 68 ∷ 79 ∷ 77
    ∷ 65 ∷ 26 ∷ 1 ∷ 83 ∷ []

abbrev read_named : List ℕ
read_named =
    160 ∷ 23 ∷ 2 ∷ 1 ∷ 3 ∷ 164 ∷ 18 ∷ 128 ∷ 1 ∷ 255 ∷ 161 ∷ 13 ∷ 161 ∷ 11 ∷ 161 ∷ 9 ∷ 26 ∷ 4
    ∷ 68 ∷ 79 ∷ 77 ∷ 65 ∷ 26 ∷ 1 ∷ 83 ∷ []

abbrev members : List ℕ
members =
    160 ∷ 16 ∷ 2 ∷ 1 ∷ 4 ∷ 172 ∷ 11 ∷ 161 ∷ 9 ∷ 26 ∷ 4 ∷ 68 ∷ 79 ∷ 77 ∷ 65 ∷ 26 ∷ 1 ∷ 83 ∷ []

-- two values
abbrev write : List ℕ
write =
    160 ∷ 26 ∷ 2 ∷ 1 ∷ 5 ∷ 165 ∷ 21 ∷ 161 ∷ 11 ∷ 161 ∷ 9 ∷ 26 ∷ 4 ∷ 68 ∷ 79 ∷ 77 ∷ 65 ∷ 26 ∷ 1
    ∷ 83 ∷ 160 ∷ 6 ∷ 133 ∷ 1 ∷ 1 ∷ 133 ∷ 1 ∷ 1 ∷ []

-- the data sets of a domain; the name that follows doesn't count
abbrev delete_scope : List ℕ
delete_scope =
    160 ∷ 21 ∷ 2 ∷ 1 ∷ 6 ∷ 173 ∷ 16 ∷ 128 ∷ 1 ∷ 2 ∷ 161 ∷ 11 ∷ 161 ∷ 9 ∷ 26 ∷ 4 ∷ 68 ∷ 79 ∷ 77
    ∷ 65 ∷ 26 ∷ 1 ∷ 83 ∷ []

-- the names of the data sets of DOMA
abbrev list_names : List ℕ
list_names =
    160 ∷ 18 ∷ 2 ∷ 1 ∷ 7 ∷ 161 ∷ 13 ∷ 160 ∷ 3 ∷ 128 ∷ 1 ∷ 2 ∷ 161 ∷ 6 ∷ 129 ∷ 4 ∷ 68 ∷ 79 ∷ 77
    ∷ 65 ∷ []

-- DOMA/S is deleted, twice
abbrev delete : List ℕ
delete =
    160 ∷ 29 ∷ 2 ∷ 1 ∷ 8 ∷ 173 ∷ 24 ∷ 161 ∷ 22 ∷ 161 ∷ 9 ∷ 26 ∷ 4 ∷ 68 ∷ 79 ∷ 77 ∷ 65 ∷ 26 ∷ 1
    ∷ 83 ∷ 161 ∷ 9 ∷ 26 ∷ 4 ∷ 68 ∷ 79 ∷ 77 ∷ 65 ∷ 26 ∷ 1 ∷ 83 ∷ []

abbrev read_again : List ℕ
read_again =
    160 ∷ 20 ∷ 2 ∷ 1 ∷ 9 ∷ 164 ∷ 15 ∷ 161 ∷ 13 ∷ 161 ∷ 11 ∷ 161 ∷ 9 ∷ 26 ∷ 4 ∷ 68 ∷ 79 ∷ 77
    ∷ 65 ∷ 26 ∷ 1 ∷ 83 ∷ []

-- ---- what is sent

abbrev defined_octets : List ℕ
defined_octets =
    3 ∷ 0 ∷ 0 ∷ 27 ∷ 2 ∷ 240 ∷ 128 ∷ 1 ∷ 0 ∷ 1 ∷ 0 ∷ 97 ∷ 14 ∷ 48 ∷ 12 ∷ 2 ∷ 1 ∷ 3 ∷ 160 ∷ 7
    ∷ 161 ∷ 5 ∷ 2 ∷ 1 ∷ 1 ∷ 139 ∷ 0 ∷ []

-- on, valid; and object-access-unsupported
abbrev results_octets : List ℕ
results_octets =
    3 ∷ 0 ∷ 0 ∷ 36 ∷ 2 ∷ 240 ∷ 128 ∷ 1 ∷ 0 ∷ 1 ∷ 0 ∷ 97 ∷ 23 ∷ 48 ∷ 21 ∷ 2 ∷ 1 ∷ 3 ∷ 160 ∷ 16
    ∷ 161 ∷ 14 ∷ 2 ∷ 1 ∷ 2 ∷ 164 ∷ 9 ∷ 161 ∷ 7 ∷ 132 ∷ 2 ∷ 0 ∷ 128 ∷ 128 ∷ 1 ∷ 9 ∷ []

abbrev named_results_octets : List ℕ
named_results_octets =
    3 ∷ 0 ∷ 0 ∷ 51 ∷ 2 ∷ 240 ∷ 128 ∷ 1 ∷ 0 ∷ 1 ∷ 0 ∷ 97 ∷ 38 ∷ 48 ∷ 36 ∷ 2 ∷ 1 ∷ 3 ∷ 160 ∷ 31
    ∷ 161 ∷ 29 ∷ 2 ∷ 1 ∷ 3 ∷ 164 ∷ 24 ∷ 160 ∷ 13 ∷ 161 ∷ 11 ∷ 161 ∷ 9 ∷ 26 ∷ 4 ∷ 68 ∷ 79 ∷ 77
    ∷ 65 ∷ 26 ∷ 1 ∷ 83 ∷ 161 ∷ 7 ∷ 132 ∷ 2 ∷ 0 ∷ 128 ∷ 128 ∷ 1 ∷ 9 ∷ []

abbrev members_octets : List ℕ
members_octets =
    3 ∷ 0 ∷ 0 ∷ 73 ∷ 2 ∷ 240 ∷ 128 ∷ 1 ∷ 0 ∷ 1 ∷ 0 ∷ 97 ∷ 60 ∷ 48 ∷ 58 ∷ 2 ∷ 1 ∷ 3 ∷ 160 ∷ 53
    ∷ 161 ∷ 51 ∷ 2 ∷ 1 ∷ 4 ∷ 172 ∷ 46 ∷ 128 ∷ 1 ∷ 255 ∷ 161 ∷ 41 ∷ 48 ∷ 16 ∷ 160 ∷ 14 ∷ 161
    ∷ 12 ∷ 26 ∷ 4 ∷ 68 ∷ 79 ∷ 77 ∷ 65 ∷ 26 ∷ 4 ∷ 66 ∷ 85 ∷ 83 ∷ 49 ∷ 48 ∷ 21 ∷ 160 ∷ 19 ∷ 128
    ∷ 17 ∷ 84 ∷ 114 ∷ 97 ∷ 110 ∷ 115 ∷ 102 ∷ 101 ∷ 114 ∷ 95 ∷ 83 ∷ 101 ∷ 116 ∷ 95 ∷ 78 ∷ 97
    ∷ 109 ∷ 101 ∷ []

-- access, object-access-denied
abbrev write_denied_octets : List ℕ
write_denied_octets =
    3 ∷ 0 ∷ 0 ∷ 32 ∷ 2 ∷ 240 ∷ 128 ∷ 1 ∷ 0 ∷ 1 ∷ 0 ∷ 97 ∷ 19 ∷ 48 ∷ 17 ∷ 2 ∷ 1 ∷ 3 ∷ 160 ∷ 12
    ∷ 162 ∷ 10 ∷ 128 ∷ 1 ∷ 5 ∷ 162 ∷ 5 ∷ 160 ∷ 3 ∷ 135 ∷ 1 ∷ 3 ∷ []

abbrev scope_denied_octets : List ℕ
scope_denied_octets =
    3 ∷ 0 ∷ 0 ∷ 32 ∷ 2 ∷ 240 ∷ 128 ∷ 1 ∷ 0 ∷ 1 ∷ 0 ∷ 97 ∷ 19 ∷ 48 ∷ 17 ∷ 2 ∷ 1 ∷ 3 ∷ 160 ∷ 12
    ∷ 162 ∷ 10 ∷ 128 ∷ 1 ∷ 6 ∷ 162 ∷ 5 ∷ 160 ∷ 3 ∷ 135 ∷ 1 ∷ 3 ∷ []

abbrev names_sent : List ℕ
names_sent =
    3 ∷ 0 ∷ 0 ∷ 35 ∷ 2 ∷ 240 ∷ 128 ∷ 1 ∷ 0 ∷ 1 ∷ 0 ∷ 97 ∷ 22 ∷ 48 ∷ 20 ∷ 2 ∷ 1 ∷ 3 ∷ 160 ∷ 15
    ∷ 161 ∷ 13 ∷ 2 ∷ 1 ∷ 7 ∷ 161 ∷ 8 ∷ 160 ∷ 3 ∷ 26 ∷ 1 ∷ 83 ∷ 129 ∷ 1 ∷ 0 ∷ []

-- one was there, and is gone
abbrev deleted_octets : List ℕ
deleted_octets =
    3 ∷ 0 ∷ 0 ∷ 33 ∷ 2 ∷ 240 ∷ 128 ∷ 1 ∷ 0 ∷ 1 ∷ 0 ∷ 97 ∷ 20 ∷ 48 ∷ 18 ∷ 2 ∷ 1 ∷ 3 ∷ 160 ∷ 13
    ∷ 161 ∷ 11 ∷ 2 ∷ 1 ∷ 8 ∷ 173 ∷ 6 ∷ 128 ∷ 1 ∷ 1 ∷ 129 ∷ 1 ∷ 1 ∷ []

-- access, object-non-existent
abbrev gone_octets : List ℕ
gone_octets =
    3 ∷ 0 ∷ 0 ∷ 32 ∷ 2 ∷ 240 ∷ 128 ∷ 1 ∷ 0 ∷ 1 ∷ 0 ∷ 97 ∷ 19 ∷ 48 ∷ 17 ∷ 2 ∷ 1 ∷ 3 ∷ 160 ∷ 12
    ∷ 162 ∷ 10 ∷ 128 ∷ 1 ∷ 9 ∷ 162 ∷ 5 ∷ 160 ∷ 3 ∷ 135 ∷ 1 ∷ 2 ∷ []

-- ---- over a view

-- behind an open and `update BUS1 s2 00 1700000000 0`
abbrev pub begun : View
begun = updated (codes "BUS1")
    (record { body = bodies.State 2; flags = 0; seconds = 1700000000; millis = 0 })
    ∷ own 0 opens ∷ []

-- behind the calls of these turns
abbrev pub behind : View → List Turn → View
behind view [] = view
behind view (asks invoke call ∷ turns) = behind (map (own 0) (acts_of_call call) ++ view) turns
behind view (turn ∷ turns) = behind view turns

-- an association whose beginning isn't looked at
abbrev pub talk : List Turn → Talk
talk turns = record {
  opening = [];
  setup = (talk_of (record { told = first_two; broken = None }) false).setup;
  detail = pos 65000;
  turns = turns;
}

-- what is sent behind its beginning to these requests
abbrev pub answers : List (List ℕ) → List ℕ
answers requests =
    octets_in (own_tables rows 0) 0 (talk (turns_by requests)) (behind begun (turns_by requests))

sets_are_served :
    answers (define ∷ read ∷ read_named ∷ members ∷ write ∷ delete_scope ∷ list_names ∷ delete
    ∷ read_again ∷ [])
    ≡ defined_octets ++ results_octets ++ named_results_octets ++ members_octets
    ++ write_denied_octets ++ scope_denied_octets ++ names_sent ++ deleted_octets ++ gone_octets
unfolding pdu one_pdu confirmed_request confirmed_response frame_pdu invoke_in one_request
    set_request unknown_request name_list_request object_class one_scope object_scope after_name
    read_request echo_in specification sole_spec sole_variable sole_name variable variables one_name
    domain_name identifier write_request values_of one_datum datum_within plain_datum define_request
    members_request delete_request deletion_scope free set_names coded_in length_in tag_in head_in
    integer_in unsigned_in gives then_in map_in branch_in refused skip by_length pass_in
    sized_part_in parted_in part_in choose_in maybe_in contents_as contents_where all_in whole_in
    more_in list_in count_in leaves.visible leaves.visible_within leaves.text_in leaves.integer
    leaves.unsigned leaves.octet leaves.octet_in leaves.boolean leaves.raw leaves.fixed visible_in
    boolean_in wire session.session_length_octets ber.length_octets ber.integer_octets
    presentation.user_octets data_tsdu pdu_octets response_octets invoke_octets echoed_octets
    outcomes_octets read_response_octets spec_octets variable_octets variables_octets
    deletable_octets members_response_octets delete_response_octets listed_octets names_octets
    more_octets list_octets name_list_response_octets error_pdu_octets service_error_octets
    extent_of extent_within definite head_by element_by passed_within passed_in
sets_are_served = refl
