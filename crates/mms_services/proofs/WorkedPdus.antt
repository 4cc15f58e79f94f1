-- PDUs as two control centres send them, computed.
use Rattle.std.proofs.Common.{◌≡◌, [], ◌∷◌, false, Some, None, Ok, Err, pos, refl}
use Rattle.ber_values.specs.declared.fault.Why.TheVariants as whys
use Rattle.ber_values.specs.Faults.{fault_at}
use Rattle.ber_values.specs.Tags.{tag_in, length_in}
use Rattle.ber_values.specs.Heads.{head_in}
use Rattle.ber_values.specs.Numbers.{integer_in, unsigned_in}
use Rattle.ber_values.specs.TextContents.{visible_in}
use Rattle.ber_values.specs.BitContents.{bits_in}
use Rattle.ber_values.specs.Grammars.{taken, gives, then_in, map_in, branch_in, refused}
use Rattle.ber_values.specs.Passing.{skip}
use Rattle.ber_values.specs.Grammars.{by_length}
use Rattle.ber_values.specs.Passing.{pass_in}
use Rattle.ber_values.specs.Parts.{sized_part_in, parted_in, part_in, choose_in, maybe_in}
use Rattle.ber_values.specs.Parts.{contents_as, contents_where, all_in, whole_in}
use Rattle.ber_values.specs.Lists.{more_in, list_in, count_in}
use Rattle.ber_values.specs.Leaves as leaves
use Rattle.mms_data.specs.Datum as kinds
use Rattle.mms_data.specs.DataOctets.{plain_datum, datum_within, one_datum}
use Rattle.mms_data.specs.declared.outcome.Outcome.TheVariants as outcomes
use Rattle.mms_data.specs.OutcomeOctets.{one_outcome}
use Rattle.mms_data.specs.NameOctets.{identifier, of_domain, domain_name, one_name}
use Rattle.mms_services.specs.declared.pdu.MmsPdu.TheVariants as pdus
use Rattle.mms_services.specs.declared.request.Request.TheVariants as requests
use Rattle.mms_services.specs.declared.response.Response.TheVariants as responses
use Rattle.mms_services.specs.declared.access.spec.Spec.TheVariants as specs
use Rattle.mms_services.specs.Coded.{by_first, coded_in}
use Rattle.mms_services.specs.Errors.{error_class, service_error, error_of, error_pdu}
use Rattle.mms_services.specs.Rejects.{reject_of, reject_pdu}
use Rattle.mms_services.specs.Identities.{identify_request, some_syntaxes, identify_response}
use Rattle.mms_services.specs.Initiates.{initiate_detail, initiate_of, initiate}
use Rattle.mms_services.specs.Access.Specifications.{sole_name, sole_variable, variable, variables}
use Rattle.mms_services.specs.Access.Specifications.{specification, sole_spec}
use Rattle.mms_services.specs.Access.Reads.{echo_in, read_asked, read_answered, read_request}
use Rattle.mms_services.specs.Access.Reads.{read_response}
use Rattle.mms_services.specs.Access.Reports.{reported, report_results, report, report_pdu}
use Rattle.mms_services.specs.Requests.{unknown_request, set_request, one_request}
use Rattle.mms_services.specs.Responses.{set_response, one_response}
use Rattle.mms_services.specs.Pdus.{invoke_in, confirmed_request, confirmed_response, frame_pdu}
use Rattle.mms_services.specs.Pdus.{one_pdu, pdu}
use Rattle.ber_values.specs.Heads.{head_by, element_by, extent_of, extent_within}
use Rattle.ber_values.specs.Extents.{definite}
use Rattle.ber_values.specs.Grammars.{passed_within, passed_in}

-- what octets are read as
worked :
    -- identify asked
    (pdu.reading 0
    (160 ∷ 5 ∷ 2 ∷ 1 ∷ 1 ∷ 130 ∷ 0 ∷ [])
    ≡ Ok (taken (pdus.Request 1 requests.Identify) 7 [])) ×
    -- identify answered
    (pdu.reading 0
    (161 ∷ 23 ∷ 2 ∷ 1 ∷ 1 ∷ 162 ∷ 18 ∷ 128 ∷ 6 ∷ 67 ∷ 69 ∷ 78 ∷ 84 ∷ 82 ∷ 69 ∷ 129 ∷ 5 ∷ 84 ∷
    65 ∷ 83 ∷ 69 ∷ 50 ∷ 130 ∷ 1 ∷ 49 ∷ [])
    ≡ Ok (taken (pdus.Response 1 responses.Identify) 25 [])) ×
    -- one variable of a domain read
    (pdu.reading 0
    (160 ∷ 27 ∷ 2 ∷ 1 ∷ 2 ∷ 164 ∷ 22 ∷ 161 ∷ 20 ∷ 160 ∷ 18 ∷ 48 ∷ 16 ∷ 160 ∷ 14 ∷ 161 ∷ 12 ∷
    26 ∷ 4 ∷ 68 ∷ 79 ∷ 77 ∷ 65 ∷ 26 ∷ 4 ∷ 66 ∷ 85 ∷ 83 ∷ 49 ∷ [])
    ≡ Ok (taken
    (pdus.Request 2 (requests.Read (read_asked false (specs.List
    (of_domain (68 ∷ 79 ∷ 77 ∷ 65 ∷ []) (66 ∷ 85 ∷ 83 ∷ 49 ∷ []) ∷ []))))) 29 [])) ×
    -- two bits answered
    (pdu.reading 0
    (161 ∷ 11 ∷ 2 ∷ 1 ∷ 2 ∷ 164 ∷ 6 ∷ 161 ∷ 4 ∷ 132 ∷ 2 ∷ 0 ∷ 128 ∷ [])
    ≡ Ok (taken (pdus.Response 2 (responses.Read (read_answered None
    (outcomes.Good (kinds.bits (record { count = 8; octets = 128 ∷ [] })) ∷ [])))) 13 [])) ×
    -- a service that isn't known
    (pdu.reading 0
    (160 ∷ 6 ∷ 2 ∷ 1 ∷ 6 ∷ 128 ∷ 1 ∷ 0 ∷ [])
    ≡ Ok (taken (pdus.Request 6 requests.Unknown) 8 [])) ×
    -- a service in whose specification nothing stands
    (pdu.reading 0
    (160 ∷ 7 ∷ 2 ∷ 1 ∷ 5 ∷ 164 ∷ 2 ∷ 161 ∷ 0 ∷ [])
    ≡ Err (fault_at 9 whys.Short)) ×
    -- a universal tag in the place of a service
    (pdu.reading 0
    (160 ∷ 5 ∷ 2 ∷ 1 ∷ 1 ∷ 5 ∷ 0 ∷ [])
    ≡ Err (fault_at 5 whys.Tag)) ×
    -- an octet after the PDU
    (pdu.reading 0
    (160 ∷ 5 ∷ 2 ∷ 1 ∷ 1 ∷ 130 ∷ 0 ∷ 0 ∷ [])
    ≡ Err (fault_at 7 whys.Tag)) ×
    -- no octets
    (pdu.reading 0
    ([])
    ≡ Err (fault_at 0 whys.Short)) ×
    -- the tag of no PDU
    (pdu.reading 0
    (165 ∷ 0 ∷ [])
    ≡ Err (fault_at 0 whys.Tag)) ×
    -- an object that doesn't exist
    (pdu.reading 0
    (162 ∷ 10 ∷ 128 ∷ 1 ∷ 3 ∷ 162 ∷ 5 ∷ 160 ∷ 3 ∷ 135 ∷ 1 ∷ 2 ∷ [])
    ≡ Ok (taken (pdus.Error (error_of 3 (record { number = 7; code = 2 }))) 12 [])) ×
    -- a service that isn't known, rejected
    (pdu.reading 0
    (164 ∷ 6 ∷ 128 ∷ 1 ∷ 6 ∷ 129 ∷ 1 ∷ 1 ∷ [])
    ≡ Ok (taken (pdus.Reject (reject_of (Some 6) (record { number = 1; code = 1 }))) 8 [])) ×
    -- an integer of a device that timed out
    (pdu.reading 0
    (163 ∷ 35 ∷ 160 ∷ 33 ∷ 160 ∷ 26 ∷ 48 ∷ 24 ∷ 160 ∷ 22 ∷ 161 ∷ 20 ∷ 26 ∷ 4 ∷ 68 ∷ 79 ∷ 77 ∷
    65 ∷ 26 ∷ 12 ∷ 66 ∷ 82 ∷ 75 ∷ 49 ∷ 95 ∷ 84 ∷ 73 ∷ 77 ∷ 69 ∷ 79 ∷ 85 ∷ 84 ∷ 160 ∷ 3 ∷ 133 ∷
    1 ∷ 77 ∷ [])
    ≡ Ok (taken (pdus.Report (reported
    (specs.List (of_domain (68 ∷ 79 ∷ 77 ∷ 65 ∷ [])
    (66 ∷ 82 ∷ 75 ∷ 49 ∷ 95 ∷ 84 ∷ 73 ∷ 77 ∷ 69 ∷ 79 ∷ 85 ∷ 84 ∷ []) ∷ []))
    (outcomes.Good (kinds.integer (pos 77)) ∷ []))) 37 [])) ×
    -- an association asked for
    (pdu.reading 0
    (168 ∷ 38 ∷ 128 ∷ 3 ∷ 0 ∷ 253 ∷ 232 ∷ 129 ∷ 1 ∷ 5 ∷ 130 ∷ 1 ∷ 5 ∷ 131 ∷ 1 ∷ 5 ∷ 164 ∷ 22 ∷
    128 ∷ 1 ∷ 1 ∷ 129 ∷ 3 ∷ 5 ∷ 241 ∷ 0 ∷ 130 ∷ 12 ∷ 3 ∷ 238 ∷ 28 ∷ 0 ∷ 0 ∷ 4 ∷ 8 ∷ 0 ∷ 0 ∷
    121 ∷ 239 ∷ 24 ∷ [])
    ≡ Ok (taken
    (pdus.Initiate (initiate_of (Some (pos 65000)) (pos 5) (pos 5) (Some (pos 5)) (pos 1))) 40 [])) ×
    -- an association refused
    (pdu.reading 0
    (170 ∷ 2 ∷ 1 ∷ 2 ∷ [])
    ≡ Ok (taken pdus.InitiateError 4 [])) ×
    -- the end asked for
    (pdu.reading 0
    (139 ∷ 0 ∷ [])
    ≡ Ok (taken pdus.Conclude 2 [])) ×
    -- the end agreed on
    (pdu.reading 0
    (140 ∷ 0 ∷ [])
    ≡ Ok (taken pdus.Concluded 2 [])) ×
    -- contents of a conclude
    (pdu.reading 0
    (139 ∷ 1 ∷ 0 ∷ [])
    ≡ Err (fault_at 1 whys.Length))
unfolding pdu one_pdu confirmed_request confirmed_response frame_pdu invoke_in one_request
    set_request unknown_request one_response set_response read_request read_response echo_in
    specification sole_spec sole_variable sole_name variable variables one_name domain_name
    identifier identify_request identify_response some_syntaxes report report_pdu report_results
    one_outcome one_datum datum_within plain_datum initiate initiate_detail error_pdu service_error
    error_class coded_in by_first reject_pdu length_in tag_in head_in integer_in unsigned_in gives
    then_in map_in branch_in refused skip by_length pass_in sized_part_in parted_in part_in
    choose_in maybe_in contents_as contents_where all_in whole_in more_in list_in count_in
    leaves.visible leaves.visible_within leaves.text_in leaves.integer leaves.unsigned leaves.bits
    leaves.octet leaves.octet_in leaves.boolean leaves.raw leaves.fixed visible_in bits_in extent_of
    extent_within definite head_by element_by passed_within passed_in
worked = (refl, refl, refl, refl, refl, refl, refl, refl, refl, refl, refl, refl, refl, refl, refl, refl, refl, refl)
