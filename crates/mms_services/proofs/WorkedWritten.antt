-- What is written for answers to a control centre, computed.
use Rattle.std.proofs.Common.{◌≡◌, [], ◌∷◌, pos, Some, None, refl}
use Rattle.ber_values.specs.Writing.{length_octets, integer_octets}
use Rattle.mms_services.specs.Errors.{service_error_octets, error_pdu_octets}
use Rattle.mms_services.specs.Identities.{identify_response_octets}
use Rattle.mms_services.specs.Initiates.{initiate_detail_octets, last_octets, later_octets}
use Rattle.mms_services.specs.Initiates.{initiate_octets}
use Rattle.mms_services.specs.Rejects.{reason_octets, reject_pdu_octets}

-- the answer to an initiate
initiate_written : initiate_octets (record {
  detail = Some (pos 65000);
  calling = pos 5;
  called = pos 5;
  nesting = Some (pos 5);
  version = pos 1;
}) ≡ 128 ∷ 3 ∷ 0 ∷ 253 ∷ 232 ∷ 129 ∷ 1 ∷ 5 ∷ 130 ∷ 1 ∷ 5 ∷ 131 ∷ 1 ∷ 5
    ∷ 164 ∷ 22 ∷ 128 ∷ 1 ∷ 1 ∷ 129 ∷ 3 ∷ 5 ∷ 225 ∷ 0 ∷ 130 ∷ 12 ∷ 3 ∷ 110
    ∷ 28 ∷ 0 ∷ 0 ∷ 0 ∷ 0 ∷ 0 ∷ 0 ∷ 0 ∷ 1 ∷ 16 ∷ []
unfolding initiate_octets later_octets last_octets initiate_detail_octets integer_octets length_octets
initiate_written = refl

-- object-exists of the class definition, of request 300
error_written : error_pdu_octets (record { invoke = 300; class = 2; code = 5 })
    ≡ 128 ∷ 2 ∷ 1 ∷ 44 ∷ 162 ∷ 5 ∷ 160 ∷ 3 ∷ 130 ∷ 1 ∷ 5 ∷ []
unfolding error_pdu_octets service_error_octets integer_octets length_octets
error_written = refl

-- invalid-pdu of the kind pdu-error, of request 7 and of none
reject_written : reject_pdu_octets (record { invoke = Some 7; kind = 5; code = 1 })
    ≡ 128 ∷ 1 ∷ 7 ∷ 133 ∷ 1 ∷ 1 ∷ []
unfolding reject_pdu_octets reason_octets integer_octets length_octets
reject_written = refl

no_request_written : reject_pdu_octets (record { invoke = None; kind = 5; code = 1 })
    ≡ 133 ∷ 1 ∷ 1 ∷ []
unfolding reject_pdu_octets reason_octets length_octets
no_request_written = refl

-- CENTRE, TASE2, 1
identify_written : identify_response_octets ≡ 128 ∷ 6 ∷ 67 ∷ 69 ∷ 78 ∷ 84 ∷ 82 ∷ 69
    ∷ 129 ∷ 5 ∷ 84 ∷ 65 ∷ 83 ∷ 69 ∷ 50 ∷ 130 ∷ 1 ∷ 49 ∷ []
unfolding identify_response_octets length_octets
identify_written = refl
