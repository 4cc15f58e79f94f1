-- What two ends say, computed: TPKTs and TSDUs worked out by hand from the standards.
use Rattle.std.proofs.Common.{◌≡◌, [], ◌∷◌, Some, None, pos, refl}
use Rattle.ber_values.specs.Writing as ber
use Rattle.tpkt_cotp.specs.Written.{wire}
use Rattle.session_profile.specs.Writing as session
use Rattle.presentation_profile.specs.Written as presentation
use Rattle.mms_services.specs.declared.initiate.Initiate.{Initiate}
use Rattle.mms_services.specs.declared.pdu.MmsPdu.TheVariants as pdus
use Rattle.mms_services.specs.declared.response.Response.TheVariants as responses
use Rattle.mms_services.specs.Identities.{identify_response_octets}
use Rattle.mms_services.specs.Initiates.{initiate_octets, later_octets, last_octets}
use Rattle.mms_services.specs.Initiates.{initiate_detail_octets}
use Rattle.mms_services.specs.PduOctets.{pdu_octets, response_octets, invoke_octets}
use Rattle.stack_assoc.specs.declared.wire.setup.AssociationSetup.{AssociationSetup}
use Rattle.stack_assoc.specs.Wire.Tsdus.{connect_tsdu, accept_tsdu, refusal_tsdu, finish_tsdu}
use Rattle.stack_assoc.specs.Wire.Tsdus.{release_tsdu, abort_tsdu, data_tsdu}

-- a connect in one TPKT, where it has the title 1.1.999.1, and where it has none
titled_connect : wire 1024 (connect_tsdu (Some (41 ∷ 135 ∷ 103 ∷ 1 ∷ []))) ≡
    3 ∷ 0 ∷ 0 ∷ 167 ∷ 2 ∷ 240 ∷ 128 ∷ 13 ∷ 158 ∷ 5 ∷ 6 ∷ 19 ∷ 1 ∷ 0 ∷ 22 ∷ 1 ∷ 2 ∷ 20 ∷ 2 ∷ 0 ∷ 2
    ∷ 51 ∷ 2 ∷ 0 ∷ 1 ∷ 52 ∷ 2 ∷ 0 ∷ 1 ∷ 193 ∷ 136 ∷ 49 ∷ 129 ∷ 133 ∷ 160 ∷ 3 ∷ 128 ∷ 1 ∷ 1 ∷ 162
    ∷ 126 ∷ 129 ∷ 4 ∷ 0 ∷ 0 ∷ 0 ∷ 1 ∷ 130 ∷ 4 ∷ 0 ∷ 0 ∷ 0 ∷ 1 ∷ 164 ∷ 35 ∷ 48 ∷ 15 ∷ 2 ∷ 1 ∷ 1 ∷ 6
    ∷ 4 ∷ 82 ∷ 1 ∷ 0 ∷ 1 ∷ 48 ∷ 4 ∷ 6 ∷ 2 ∷ 81 ∷ 1 ∷ 48 ∷ 16 ∷ 2 ∷ 1 ∷ 3 ∷ 6 ∷ 5 ∷ 40 ∷ 202 ∷ 34
    ∷ 2 ∷ 1 ∷ 48 ∷ 4 ∷ 6 ∷ 2 ∷ 81 ∷ 1 ∷ 97 ∷ 75 ∷ 48 ∷ 73 ∷ 2 ∷ 1 ∷ 1 ∷ 160 ∷ 68 ∷ 96 ∷ 66 ∷ 161
    ∷ 7 ∷ 6 ∷ 5 ∷ 40 ∷ 202 ∷ 34 ∷ 2 ∷ 3 ∷ 166 ∷ 6 ∷ 6 ∷ 4 ∷ 41 ∷ 135 ∷ 103 ∷ 1 ∷ 190 ∷ 47 ∷ 40
    ∷ 45 ∷ 2 ∷ 1 ∷ 3 ∷ 160 ∷ 40 ∷ 168 ∷ 38 ∷ 128 ∷ 3 ∷ 0 ∷ 253 ∷ 232 ∷ 129 ∷ 1 ∷ 1 ∷ 130 ∷ 1 ∷ 1
    ∷ 131 ∷ 1 ∷ 5 ∷ 164 ∷ 22 ∷ 128 ∷ 1 ∷ 1 ∷ 129 ∷ 3 ∷ 5 ∷ 225 ∷ 0 ∷ 130 ∷ 12 ∷ 3 ∷ 110 ∷ 28 ∷ 0
    ∷ 0 ∷ 0 ∷ 0 ∷ 0 ∷ 0 ∷ 0 ∷ 1 ∷ 16 ∷ []
unfolding wire session.session_length_octets ber.length_octets ber.integer_octets presentation.user_octets connect_tsdu presentation.set_up_octets presentation.mode_octets presentation.connect_ppdu_octets presentation.calling_octets presentation.offers_octets presentation.offer_octets presentation.offered_octets presentation.ber_octets pdu_octets initiate_octets later_octets last_octets initiate_detail_octets
titled_connect = refl

bare_connect : wire 1024 (connect_tsdu None) ≡
    3 ∷ 0 ∷ 0 ∷ 158 ∷ 2 ∷ 240 ∷ 128 ∷ 13 ∷ 149 ∷ 5 ∷ 6 ∷ 19 ∷ 1 ∷ 0 ∷ 22 ∷ 1 ∷ 2 ∷ 20 ∷ 2 ∷ 0 ∷ 2
    ∷ 51 ∷ 2 ∷ 0 ∷ 1 ∷ 52 ∷ 2 ∷ 0 ∷ 1 ∷ 193 ∷ 127 ∷ 49 ∷ 125 ∷ 160 ∷ 3 ∷ 128 ∷ 1 ∷ 1 ∷ 162 ∷ 118
    ∷ 129 ∷ 4 ∷ 0 ∷ 0 ∷ 0 ∷ 1 ∷ 130 ∷ 4 ∷ 0 ∷ 0 ∷ 0 ∷ 1 ∷ 164 ∷ 35 ∷ 48 ∷ 15 ∷ 2 ∷ 1 ∷ 1 ∷ 6 ∷ 4
    ∷ 82 ∷ 1 ∷ 0 ∷ 1 ∷ 48 ∷ 4 ∷ 6 ∷ 2 ∷ 81 ∷ 1 ∷ 48 ∷ 16 ∷ 2 ∷ 1 ∷ 3 ∷ 6 ∷ 5 ∷ 40 ∷ 202 ∷ 34 ∷ 2
    ∷ 1 ∷ 48 ∷ 4 ∷ 6 ∷ 2 ∷ 81 ∷ 1 ∷ 97 ∷ 67 ∷ 48 ∷ 65 ∷ 2 ∷ 1 ∷ 1 ∷ 160 ∷ 60 ∷ 96 ∷ 58 ∷ 161 ∷ 7
    ∷ 6 ∷ 5 ∷ 40 ∷ 202 ∷ 34 ∷ 2 ∷ 3 ∷ 190 ∷ 47 ∷ 40 ∷ 45 ∷ 2 ∷ 1 ∷ 3 ∷ 160 ∷ 40 ∷ 168 ∷ 38 ∷ 128
    ∷ 3 ∷ 0 ∷ 253 ∷ 232 ∷ 129 ∷ 1 ∷ 1 ∷ 130 ∷ 1 ∷ 1 ∷ 131 ∷ 1 ∷ 5 ∷ 164 ∷ 22 ∷ 128 ∷ 1 ∷ 1 ∷ 129
    ∷ 3 ∷ 5 ∷ 225 ∷ 0 ∷ 130 ∷ 12 ∷ 3 ∷ 110 ∷ 28 ∷ 0 ∷ 0 ∷ 0 ∷ 0 ∷ 0 ∷ 0 ∷ 0 ∷ 1 ∷ 16 ∷ []
unfolding wire session.session_length_octets ber.length_octets ber.integer_octets presentation.user_octets connect_tsdu presentation.set_up_octets presentation.mode_octets presentation.connect_ppdu_octets presentation.calling_octets presentation.offers_octets presentation.offer_octets presentation.offered_octets presentation.ber_octets pdu_octets initiate_octets later_octets last_octets initiate_detail_octets
bare_connect = refl

-- the accept of a connect with two offers, both of which are agreed on
setup : AssociationSetup
setup = record {
  size = 1024;
  session = Some (0 ∷ 1 ∷ []);
  presentation = Some (0 ∷ 0 ∷ 0 ∷ 1 ∷ []);
  results = 0 ∷ 0 ∷ [];
  acse = 1;
  mms = 3;
}

granted : Initiate
granted = record {
  detail = Some (pos 65000);
  calling = pos 5;
  called = pos 5;
  nesting = Some (pos 5);
  version = pos 1;
}

accepted : wire 1024 (accept_tsdu setup granted) ≡
    3 ∷ 0 ∷ 0 ∷ 143 ∷ 2 ∷ 240 ∷ 128 ∷ 14 ∷ 134 ∷ 5 ∷ 6 ∷ 19 ∷ 1 ∷ 0 ∷ 22 ∷ 1 ∷ 2 ∷ 20 ∷ 2 ∷ 0 ∷ 2
    ∷ 52 ∷ 2 ∷ 0 ∷ 1 ∷ 193 ∷ 116 ∷ 49 ∷ 114 ∷ 160 ∷ 3 ∷ 128 ∷ 1 ∷ 1 ∷ 162 ∷ 107 ∷ 131 ∷ 4 ∷ 0 ∷ 0
    ∷ 0 ∷ 1 ∷ 165 ∷ 18 ∷ 48 ∷ 7 ∷ 128 ∷ 1 ∷ 0 ∷ 129 ∷ 2 ∷ 81 ∷ 1 ∷ 48 ∷ 7 ∷ 128 ∷ 1 ∷ 0 ∷ 129 ∷ 2
    ∷ 81 ∷ 1 ∷ 97 ∷ 79 ∷ 48 ∷ 77 ∷ 2 ∷ 1 ∷ 1 ∷ 160 ∷ 72 ∷ 97 ∷ 70 ∷ 161 ∷ 7 ∷ 6 ∷ 5 ∷ 40 ∷ 202
    ∷ 34 ∷ 2 ∷ 3 ∷ 162 ∷ 3 ∷ 2 ∷ 1 ∷ 0 ∷ 163 ∷ 5 ∷ 161 ∷ 3 ∷ 2 ∷ 1 ∷ 0 ∷ 190 ∷ 47 ∷ 40 ∷ 45 ∷ 2
    ∷ 1 ∷ 3 ∷ 160 ∷ 40 ∷ 169 ∷ 38 ∷ 128 ∷ 3 ∷ 0 ∷ 253 ∷ 232 ∷ 129 ∷ 1 ∷ 5 ∷ 130 ∷ 1 ∷ 5 ∷ 131 ∷ 1
    ∷ 5 ∷ 164 ∷ 22 ∷ 128 ∷ 1 ∷ 1 ∷ 129 ∷ 3 ∷ 5 ∷ 225 ∷ 0 ∷ 130 ∷ 12 ∷ 3 ∷ 110 ∷ 28 ∷ 0 ∷ 0 ∷ 0 ∷ 0
    ∷ 0 ∷ 0 ∷ 0 ∷ 1 ∷ 16 ∷ []
unfolding wire session.session_length_octets ber.length_octets ber.integer_octets presentation.user_octets setup granted accept_tsdu presentation.set_up_octets presentation.mode_octets presentation.accept_ppdu_octets presentation.results_octets presentation.accepted_octets pdu_octets initiate_octets later_octets last_octets initiate_detail_octets
accepted = refl

-- who answers, to a request with the number 1
identified : wire 1024 (data_tsdu 3 (pdus.Response 1 responses.Identify)) ≡
    3 ∷ 0 ∷ 0 ∷ 45 ∷ 2 ∷ 240 ∷ 128 ∷ 1 ∷ 0 ∷ 1 ∷ 0 ∷ 97 ∷ 32 ∷ 48 ∷ 30 ∷ 2 ∷ 1 ∷ 3 ∷ 160 ∷ 25
    ∷ 161 ∷ 23 ∷ 2 ∷ 1 ∷ 1 ∷ 162 ∷ 18 ∷ 128 ∷ 6 ∷ 67 ∷ 69 ∷ 78 ∷ 84 ∷ 82 ∷ 69 ∷ 129 ∷ 5 ∷ 84 ∷ 65
    ∷ 83 ∷ 69 ∷ 50 ∷ 130 ∷ 1 ∷ 49 ∷ []
unfolding wire session.session_length_octets ber.length_octets ber.integer_octets presentation.user_octets data_tsdu pdu_octets response_octets invoke_octets identify_response_octets
identified = refl

-- the fixed answers in the context 1, each in one TPKT, and in the contexts 300 and 40,000
finished : wire 128 (finish_tsdu 1) ≡
    3 ∷ 0 ∷ 0 ∷ 25 ∷ 2 ∷ 240 ∷ 128 ∷ 9 ∷ 16 ∷ 193 ∷ 14 ∷ 97 ∷ 12 ∷ 48 ∷ 10 ∷ 2 ∷ 1 ∷ 1 ∷ 160 ∷ 5
    ∷ 98 ∷ 3 ∷ 128 ∷ 1 ∷ 0 ∷ []
unfolding wire session.session_length_octets ber.length_octets ber.integer_octets presentation.user_octets finish_tsdu
finished = refl

released : wire 128 (release_tsdu 1) ≡
    3 ∷ 0 ∷ 0 ∷ 25 ∷ 2 ∷ 240 ∷ 128 ∷ 10 ∷ 16 ∷ 193 ∷ 14 ∷ 97 ∷ 12 ∷ 48 ∷ 10 ∷ 2 ∷ 1 ∷ 1 ∷ 160 ∷ 5
    ∷ 99 ∷ 3 ∷ 128 ∷ 1 ∷ 0 ∷ []
unfolding wire session.session_length_octets ber.length_octets ber.integer_octets presentation.user_octets release_tsdu
released = refl

aborted : wire 128 (abort_tsdu 1) ≡
    3 ∷ 0 ∷ 0 ∷ 30 ∷ 2 ∷ 240 ∷ 128 ∷ 25 ∷ 21 ∷ 17 ∷ 1 ∷ 11 ∷ 193 ∷ 16 ∷ 160 ∷ 14 ∷ 97 ∷ 12 ∷ 48
    ∷ 10 ∷ 2 ∷ 1 ∷ 1 ∷ 160 ∷ 5 ∷ 100 ∷ 3 ∷ 128 ∷ 1 ∷ 0 ∷ []
unfolding wire session.session_length_octets ber.length_octets ber.integer_octets presentation.user_octets abort_tsdu
aborted = refl

refused : wire 128 (refusal_tsdu 1) ≡
    3 ∷ 0 ∷ 0 ∷ 46 ∷ 2 ∷ 240 ∷ 128 ∷ 12 ∷ 37 ∷ 50 ∷ 35 ∷ 2 ∷ 48 ∷ 32 ∷ 97 ∷ 30 ∷ 48 ∷ 28 ∷ 2 ∷ 1
    ∷ 1 ∷ 160 ∷ 23 ∷ 97 ∷ 21 ∷ 161 ∷ 7 ∷ 6 ∷ 5 ∷ 40 ∷ 202 ∷ 34 ∷ 2 ∷ 3 ∷ 162 ∷ 3 ∷ 2 ∷ 1 ∷ 1 ∷ 163
    ∷ 5 ∷ 161 ∷ 3 ∷ 2 ∷ 1 ∷ 1 ∷ []
unfolding wire session.session_length_octets ber.length_octets ber.integer_octets presentation.user_octets refusal_tsdu
refused = refl

finished_300 : finish_tsdu 300 ≡
    9 ∷ 17 ∷ 193 ∷ 15 ∷ 97 ∷ 13 ∷ 48 ∷ 11 ∷ 2 ∷ 2 ∷ 1 ∷ 44 ∷ 160 ∷ 5 ∷ 98 ∷ 3 ∷ 128 ∷ 1 ∷ 0 ∷ []
unfolding session.session_length_octets ber.length_octets ber.integer_octets presentation.user_octets finish_tsdu
finished_300 = refl

released_300 : release_tsdu 300 ≡
    10 ∷ 17 ∷ 193 ∷ 15 ∷ 97 ∷ 13 ∷ 48 ∷ 11 ∷ 2 ∷ 2 ∷ 1 ∷ 44 ∷ 160 ∷ 5 ∷ 99 ∷ 3 ∷ 128 ∷ 1 ∷ 0 ∷ []
unfolding session.session_length_octets ber.length_octets ber.integer_octets presentation.user_octets release_tsdu
released_300 = refl

aborted_300 : abort_tsdu 300 ≡
    25 ∷ 22 ∷ 17 ∷ 1 ∷ 11 ∷ 193 ∷ 17 ∷ 160 ∷ 15 ∷ 97 ∷ 13 ∷ 48 ∷ 11 ∷ 2 ∷ 2 ∷ 1 ∷ 44 ∷ 160 ∷ 5
    ∷ 100 ∷ 3 ∷ 128 ∷ 1 ∷ 0 ∷ []
unfolding session.session_length_octets ber.length_octets ber.integer_octets presentation.user_octets abort_tsdu
aborted_300 = refl

refused_300 : refusal_tsdu 300 ≡
    12 ∷ 38 ∷ 50 ∷ 36 ∷ 2 ∷ 48 ∷ 33 ∷ 97 ∷ 31 ∷ 48 ∷ 29 ∷ 2 ∷ 2 ∷ 1 ∷ 44 ∷ 160 ∷ 23 ∷ 97 ∷ 21
    ∷ 161 ∷ 7 ∷ 6 ∷ 5 ∷ 40 ∷ 202 ∷ 34 ∷ 2 ∷ 3 ∷ 162 ∷ 3 ∷ 2 ∷ 1 ∷ 1 ∷ 163 ∷ 5 ∷ 161 ∷ 3 ∷ 2 ∷ 1
    ∷ 1 ∷ []
unfolding session.session_length_octets ber.length_octets ber.integer_octets presentation.user_octets refusal_tsdu
refused_300 = refl

aborted_40000 : abort_tsdu 40000 ≡
    25 ∷ 23 ∷ 17 ∷ 1 ∷ 11 ∷ 193 ∷ 18 ∷ 160 ∷ 16 ∷ 97 ∷ 14 ∷ 48 ∷ 12 ∷ 2 ∷ 3 ∷ 0 ∷ 156 ∷ 64 ∷ 160
    ∷ 5 ∷ 100 ∷ 3 ∷ 128 ∷ 1 ∷ 0 ∷ []
unfolding session.session_length_octets ber.length_octets ber.integer_octets presentation.user_octets abort_tsdu
aborted_40000 = refl
