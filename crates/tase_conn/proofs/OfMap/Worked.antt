-- The definitions computed on worked inputs, apart from all code: offers of a peer with a title, and
-- the octets that it is sent, which are worked out by hand from the standards.
use Rattle.std.proofs.Common.{◌≡◌, ℕ, List, [], ◌∷◌, ◌++◌, Some, None, true, false, pos, refl}
use Rattle.std.specs.Prelude.{codes}
use Rattle.ber_values.specs.Writing as ber
use Rattle.tpkt_cotp.specs.Written.{wire}
use Rattle.session_profile.specs.Writing as session
use Rattle.presentation_profile.specs.Written as presentation
use Rattle.mms_services.specs.declared.initiate.Initiate.{Initiate}
use Rattle.mms_services.specs.declared.pdu.MmsPdu.TheVariants as pdus
use Rattle.mms_services.specs.declared.request.Request.TheVariants as requests
use Rattle.mms_services.specs.declared.response.Response.TheVariants as responses
use Rattle.mms_services.specs.Identities.{identify_response_octets}
use Rattle.mms_services.specs.Errors.{error_pdu_octets, service_error_octets}
use Rattle.mms_services.specs.Initiates.{initiate_octets, later_octets, last_octets}
use Rattle.mms_services.specs.Initiates.{initiate_detail_octets}
use Rattle.mms_services.specs.PduOctets.{pdu_octets, response_octets, invoke_octets}
use Rattle.stack_assoc.specs.declared.messages.heard.Connecting.{Connecting}
use Rattle.stack_assoc.specs.declared.messages.heard.Heard.TheVariants as heards
use Rattle.stack_assoc.specs.Wire.Tsdus.{accept_tsdu, refusal_tsdu, release_tsdu, abort_tsdu, data_tsdu}
use Rattle.stack_assoc.specs.Arrivals.{Arrival, asked, gone, heard}
use Rattle.bilateral.specs.declared.rows.Table.{Table}
use Rattle.bilateral.specs.Rows.{CentreRows}
use Rattle.tase_views.specs.declared.call.CallKind.TheVariants.{Identify}
use Rattle.tase_views.specs.declared.event.EventKind.{EventKind}
use Rattle.tase_views.specs.declared.event.EventKind.TheVariants.{Open, Request, Take, Close}
use Rattle.tase_views.specs.OwnTables.{own_tables}
use Rattle.tase_views.specs.Moves.{opens, takes, closes, calls}
use Rattle.tase_views.specs.View.{View, own, stopped}
use Rattle.tase_conn.specs.Map.Asked.{invalid}
use Rattle.tase_conn.specs.Map.Readings.{Reading}
use Rattle.tase_conn.specs.Map.Turns.{Turn, offers, offers_badly, asks, concludes, releases, aborts}
use Rattle.tase_conn.specs.Map.Turns.{breaks, ends, pauses, turns_told}
use Rattle.tase_conn.specs.Map.Asks.{up_to_last, asks_behind}
use Rattle.tase_conn.specs.Map.Out.{talk_of, octets_in, within, too_long, refusal_octets, close_octets}

-- a centre whose one peer has the title 1.1.999.1
abbrev title : List ℕ
title = 41 ∷ 135 ∷ 103 ∷ 1 ∷ []

abbrev table : Table
table =
    record {
      key = codes "A";
      title = Some title;
      domain = codes "DOMA";
      id = codes "TBLA";
      sees = [];
      controls = [];
      slots = 8;
      sets = 64;
      pending = 1048576;
    }

abbrev rows : CentreRows
rows = record { points = []; devices = []; tables = table ∷ []; variants = [] ∷ [] }

-- ---- what is asked

abbrev asked_for : List Turn → List EventKind
asked_for turns = asks_behind rows [] (up_to_last rows turns)

abbrev offer : Turn
offer = offers (Some title)

-- the connect request of the transport, the offer, a request, conclude and a release, each in a piece
-- of its own
one_by_one : asked_for (pauses ∷ offer ∷ pauses ∷ asks 1 Identify ∷ pauses ∷ concludes ∷ pauses
    ∷ releases ∷ pauses ∷ [])
    ≡ Open 0 ∷ Take ∷ Request Identify ∷ Take ∷ Close ∷ []
one_by_one = refl

-- the same in one piece, and nothing behind the release
all_at_once : asked_for (offer ∷ asks 1 Identify ∷ asks 2 invalid ∷ concludes ∷ releases
    ∷ asks 3 Identify ∷ pauses ∷ [])
    ≡ Open 0 ∷ Request Identify ∷ Request invalid ∷ Close ∷ []
all_at_once = refl

-- each idle is a take
idle_twice : asked_for (offer ∷ pauses ∷ pauses ∷ pauses ∷ ends ∷ [])
    ≡ Open 0 ∷ Take ∷ Take ∷ Take ∷ Close ∷ []
idle_twice = refl

no_title : asked_for (pauses ∷ offers None ∷ asks 1 Identify ∷ pauses ∷ ends ∷ []) ≡ []
no_title = refl

bad_offer : asked_for (offers_badly ∷ pauses ∷ ends ∷ []) ≡ []
bad_offer = refl

aborted_at_once : asked_for (offer ∷ aborts ∷ pauses ∷ []) ≡ Open 0 ∷ Close ∷ []
aborted_at_once = refl

fault_behind_conclude : asked_for (offer ∷ pauses ∷ concludes ∷ breaks ∷ pauses ∷ [])
    ≡ Open 0 ∷ Take ∷ Close ∷ []
fault_behind_conclude = refl

ended_before : asked_for (pauses ∷ ends ∷ []) ≡ []
ended_before = refl

-- ---- what is told

abbrev parameters : Initiate
parameters = record {
  detail = Some (pos 65000);
  calling = pos 5;
  called = pos 5;
  nesting = Some (pos 5);
  version = pos 1;
}

abbrev connecting : Connecting
connecting = record {
  session = Some (0 ∷ 1 ∷ []);
  presentation = Some (0 ∷ 0 ∷ 0 ∷ 1 ∷ []);
  contexts = record { id = 1; abstract_name = 82 ∷ 1 ∷ 0 ∷ 1 ∷ []; ber = true }
      ∷ record { id = 3; abstract_name = 40 ∷ 202 ∷ 34 ∷ 2 ∷ 1 ∷ []; ber = true } ∷ [];
  context = 40 ∷ 202 ∷ 34 ∷ 2 ∷ 3 ∷ [];
  title = Some title;
  initiate = parameters;
}

abbrev pub first_two : List Arrival
first_two = asked (record {
  source = 1;
  parameters = record
      { size = Some 10; calling = Some (0 ∷ 1 ∷ []); called = Some (0 ∷ 1 ∷ []) };
}) ∷ heard (heards.Connect connecting) ∷ []

abbrev request : Arrival
request = heard (heards.Pdu (pdus.Request 1 requests.Identify))

abbrev conclude : Arrival
conclude = heard (heards.Pdu pdus.Conclude)

abbrev pub reading : List Arrival → Reading
reading told = record { told = told; broken = None }

told_turns : turns_told (reading (first_two ++ request ∷ conclude ∷ heard heards.Finish ∷ []))
    ≡ offer ∷ asks 1 Identify ∷ concludes ∷ releases ∷ []
told_turns = refl

-- ---- what is sent

abbrev pub confirm_octets : List ℕ
confirm_octets = 3 ∷ 0 ∷ 0 ∷ 22 ∷ 17 ∷ 208 ∷ 0 ∷ 1 ∷ 0 ∷ 1 ∷ 0 ∷ 192 ∷ 1 ∷ 10 ∷ 193 ∷ 2 ∷ 0 ∷ 1
    ∷ 194 ∷ 2 ∷ 0 ∷ 1 ∷ []

abbrev pub accept_octets : List ℕ
accept_octets = 3 ∷ 0 ∷ 0 ∷ 143 ∷ 2 ∷ 240 ∷ 128 ∷ 14 ∷ 134 ∷ 5 ∷ 6 ∷ 19 ∷ 1 ∷ 0 ∷ 22 ∷ 1 ∷ 2 ∷ 20
    ∷ 2 ∷ 0 ∷ 2 ∷ 52 ∷ 2 ∷ 0 ∷ 1 ∷ 193 ∷ 116 ∷ 49 ∷ 114 ∷ 160 ∷ 3 ∷ 128 ∷ 1 ∷ 1 ∷ 162 ∷ 107 ∷ 131
    ∷ 4 ∷ 0 ∷ 0 ∷ 0 ∷ 1 ∷ 165 ∷ 18 ∷ 48 ∷ 7 ∷ 128 ∷ 1 ∷ 0 ∷ 129 ∷ 2 ∷ 81 ∷ 1 ∷ 48 ∷ 7 ∷ 128 ∷ 1 ∷ 0
    ∷ 129 ∷ 2 ∷ 81 ∷ 1 ∷ 97 ∷ 79 ∷ 48 ∷ 77 ∷ 2 ∷ 1 ∷ 1 ∷ 160 ∷ 72 ∷ 97 ∷ 70 ∷ 161 ∷ 7 ∷ 6 ∷ 5 ∷ 40
    ∷ 202 ∷ 34 ∷ 2 ∷ 3 ∷ 162 ∷ 3 ∷ 2 ∷ 1 ∷ 0 ∷ 163 ∷ 5 ∷ 161 ∷ 3 ∷ 2 ∷ 1 ∷ 0 ∷ 190 ∷ 47 ∷ 40 ∷ 45
    ∷ 2 ∷ 1 ∷ 3 ∷ 160 ∷ 40 ∷ 169 ∷ 38 ∷ 128 ∷ 3 ∷ 0 ∷ 253 ∷ 232 ∷ 129 ∷ 1 ∷ 5 ∷ 130 ∷ 1 ∷ 5 ∷ 131
    ∷ 1 ∷ 5 ∷ 164 ∷ 22 ∷ 128 ∷ 1 ∷ 1 ∷ 129 ∷ 3 ∷ 5 ∷ 225 ∷ 0 ∷ 130 ∷ 12 ∷ 3 ∷ 110 ∷ 28 ∷ 0 ∷ 0 ∷ 0
    ∷ 0 ∷ 0 ∷ 0 ∷ 0 ∷ 1 ∷ 16 ∷ []

abbrev pub identified_octets : List ℕ
identified_octets = 3 ∷ 0 ∷ 0 ∷ 45 ∷ 2 ∷ 240 ∷ 128 ∷ 1 ∷ 0 ∷ 1 ∷ 0 ∷ 97 ∷ 32 ∷ 48 ∷ 30 ∷ 2 ∷ 1 ∷ 3
    ∷ 160 ∷ 25 ∷ 161 ∷ 23 ∷ 2 ∷ 1 ∷ 1 ∷ 162 ∷ 18 ∷ 128 ∷ 6 ∷ 67 ∷ 69 ∷ 78 ∷ 84 ∷ 82 ∷ 69 ∷ 129 ∷ 5
    ∷ 84 ∷ 65 ∷ 83 ∷ 69 ∷ 50 ∷ 130 ∷ 1 ∷ 49 ∷ []

-- the response to conclude, the answer to a release, an abort
abbrev pub concluded_octets : List ℕ
concluded_octets = 3 ∷ 0 ∷ 0 ∷ 22 ∷ 2 ∷ 240 ∷ 128 ∷ 1 ∷ 0 ∷ 1 ∷ 0 ∷ 97 ∷ 9 ∷ 48 ∷ 7 ∷ 2 ∷ 1 ∷ 3
    ∷ 160 ∷ 2 ∷ 140 ∷ 0 ∷ []

abbrev pub released_octets : List ℕ
released_octets = 3 ∷ 0 ∷ 0 ∷ 25 ∷ 2 ∷ 240 ∷ 128 ∷ 10 ∷ 16 ∷ 193 ∷ 14 ∷ 97 ∷ 12 ∷ 48 ∷ 10 ∷ 2 ∷ 1
    ∷ 1 ∷ 160 ∷ 5 ∷ 99 ∷ 3 ∷ 128 ∷ 1 ∷ 0 ∷ []

abbrev pub aborted_octets : List ℕ
aborted_octets = 3 ∷ 0 ∷ 0 ∷ 30 ∷ 2 ∷ 240 ∷ 128 ∷ 25 ∷ 21 ∷ 17 ∷ 1 ∷ 11 ∷ 193 ∷ 16 ∷ 160 ∷ 14 ∷ 97
    ∷ 12 ∷ 48 ∷ 10 ∷ 2 ∷ 1 ∷ 1 ∷ 160 ∷ 5 ∷ 100 ∷ 3 ∷ 128 ∷ 1 ∷ 0 ∷ []

-- the view of the peer whose association was opened, identified the node and took twice, then a stop
-- and a close, the newest first
abbrev pub still_open : View
still_open = own 0 takes ∷ own 0 (calls Identify) ∷ own 0 takes ∷ own 0 opens ∷ []

abbrev sent : List Arrival → View → List ℕ
sent told view = octets_in (own_tables rows 0) 0 (talk_of (reading told) false) view

opened_sent : sent first_two (own 0 opens ∷ []) ≡ confirm_octets ++ accept_octets
unfolding wire session.session_length_octets ber.length_octets ber.integer_octets presentation.user_octets accept_tsdu presentation.set_up_octets presentation.mode_octets presentation.accept_ppdu_octets presentation.results_octets presentation.accepted_octets pdu_octets initiate_octets later_octets last_octets initiate_detail_octets
opened_sent = refl

identified_sent : sent (first_two ++ request ∷ []) still_open
    ≡ confirm_octets ++ accept_octets ++ identified_octets
unfolding wire session.session_length_octets ber.length_octets ber.integer_octets presentation.user_octets accept_tsdu data_tsdu presentation.set_up_octets presentation.mode_octets presentation.accept_ppdu_octets presentation.results_octets presentation.accepted_octets pdu_octets initiate_octets later_octets last_octets initiate_detail_octets response_octets invoke_octets identify_response_octets
identified_sent = refl

concluded_sent : sent (first_two ++ request ∷ conclude ∷ heard heards.Finish ∷ [])
    (own 0 closes ∷ still_open)
    ≡ confirm_octets ++ accept_octets ++ identified_octets ++ concluded_octets ++ released_octets
unfolding wire session.session_length_octets ber.length_octets ber.integer_octets presentation.user_octets accept_tsdu data_tsdu release_tsdu presentation.set_up_octets presentation.mode_octets presentation.accept_ppdu_octets presentation.results_octets presentation.accepted_octets pdu_octets initiate_octets later_octets last_octets initiate_detail_octets response_octets invoke_octets identify_response_octets
concluded_sent = refl

-- a close for which the text has no cause, behind a stop: the request that it has more was refused
stopped_sent : sent (first_two ++ request ∷ []) (own 0 closes ∷ stopped ∷ own 0 takes ∷ own 0 opens ∷ [])
    ≡ confirm_octets ++ accept_octets ++ aborted_octets
unfolding wire session.session_length_octets ber.length_octets ber.integer_octets presentation.user_octets accept_tsdu abort_tsdu presentation.set_up_octets presentation.mode_octets presentation.accept_ppdu_octets presentation.results_octets presentation.accepted_octets pdu_octets initiate_octets later_octets last_octets initiate_detail_octets
stopped_sent = refl

-- a reply longer than was agreed on
too_long_said : within (pos 24) 1 (pdus.Response 1 responses.Identify) ≡ too_long 1
unfolding pdu_octets response_octets invoke_octets identify_response_octets ber.length_octets ber.integer_octets
too_long_said = refl

abbrev no_peers : CentreRows
no_peers = record { points = []; devices = []; tables = []; variants = [] }

-- an offer by a title that is no peer's is refused, and one of a peer isn't
refused_early : refusal_octets no_peers (reading first_two)
    ≡ 3 ∷ 0 ∷ 0 ∷ 46 ∷ 2 ∷ 240 ∷ 128 ∷ 12 ∷ 37 ∷ 50 ∷ 35 ∷ 2 ∷ 48 ∷ 32 ∷ 97 ∷ 30 ∷ 48 ∷ 28 ∷ 2 ∷ 1 ∷ 1
    ∷ 160 ∷ 23 ∷ 97 ∷ 21 ∷ 161 ∷ 7 ∷ 6 ∷ 5 ∷ 40 ∷ 202 ∷ 34 ∷ 2 ∷ 3 ∷ 162 ∷ 3 ∷ 2 ∷ 1 ∷ 1 ∷ 163 ∷ 5
    ∷ 161 ∷ 3 ∷ 2 ∷ 1 ∷ 1 ∷ []
unfolding wire session.session_length_octets ber.length_octets ber.integer_octets presentation.user_octets refusal_tsdu
refused_early = refl

not_refused : refusal_octets rows (reading first_two) ≡ []
not_refused = refl

-- a disconnect ended the connection before such an offer
gone_before : refusal_octets no_peers (reading (gone ∷ first_two)) ≡ []
gone_before = refl

-- closes, by what stands at their place
abbrev closing : List Turn → List ℕ
closing turns = close_octets (talk_of (reading first_two) false).setup turns

release_alone : closing (releases ∷ []) ≡ released_octets
unfolding wire session.session_length_octets ber.length_octets ber.integer_octets presentation.user_octets release_tsdu
release_alone = refl

abort_of_the_peer : closing (aborts ∷ []) ≡ []
abort_of_the_peer = refl

fault_alone : closing (breaks ∷ []) ≡ aborted_octets
unfolding wire session.session_length_octets ber.length_octets ber.integer_octets presentation.user_octets abort_tsdu
fault_alone = refl

conclude_alone : closing (concludes ∷ []) ≡ concluded_octets
unfolding wire session.session_length_octets ber.length_octets ber.integer_octets presentation.user_octets data_tsdu pdu_octets
conclude_alone = refl

conclude_and_fault : closing (concludes ∷ breaks ∷ []) ≡ concluded_octets ++ aborted_octets
unfolding wire session.session_length_octets ber.length_octets ber.integer_octets presentation.user_octets data_tsdu abort_tsdu pdu_octets
conclude_and_fault = refl

conclude_and_abort : closing (concludes ∷ aborts ∷ []) ≡ concluded_octets
unfolding wire session.session_length_octets ber.length_octets ber.integer_octets presentation.user_octets data_tsdu pdu_octets
conclude_and_abort = refl

end_alone : closing (ends ∷ []) ≡ []
end_alone = refl

close_before_a_request : closing (asks 2 Identify ∷ []) ≡ aborted_octets
unfolding wire session.session_length_octets ber.length_octets ber.integer_octets presentation.user_octets abort_tsdu
close_before_a_request = refl

-- what is sent in its place: the error 3 0 with the number of the request
error_sent : wire 1024 (data_tsdu 3 (too_long 1))
    ≡ 3 ∷ 0 ∷ 0 ∷ 32 ∷ 2 ∷ 240 ∷ 128 ∷ 1 ∷ 0 ∷ 1 ∷ 0 ∷ 97 ∷ 19 ∷ 48 ∷ 17 ∷ 2 ∷ 1 ∷ 3 ∷ 160 ∷ 12
    ∷ 162 ∷ 10 ∷ 128 ∷ 1 ∷ 1 ∷ 162 ∷ 5 ∷ 160 ∷ 3 ∷ 131 ∷ 1 ∷ 0 ∷ []
unfolding wire session.session_length_octets ber.length_octets ber.integer_octets presentation.user_octets data_tsdu pdu_octets error_pdu_octets service_error_octets
error_sent = refl
