-- A whole input, from its octets on: the connect request of the transport, an offer by a peer's title
-- and a request to identify, each in a piece of its own, and the end of the link.
use Rattle.std.proofs.Common.{◌≡◌, ℕ, List, [], ◌∷◌, ◌++◌, true, false, Some, None}
use Rattle.std.proofs.Common.{refl, ap}
use Rattle.tpkt_cotp.specs.declared.tpdu.ConnectRequest.{ConnectRequest}
use Rattle.tpkt_cotp.specs.declared.turn.Role.TheVariants as roles
use Rattle.tpkt_cotp.specs.Places as streams
use Rattle.tpkt_cotp.specs.Readings as tpkts
use Rattle.tpkt_cotp.specs.Streams.{Says, asks, tsdu}
use Rattle.tpkt_cotp.proofs.Streaming.{left_says}
use Rattle.mms_services.specs.declared.pdu.MmsPdu.TheVariants as pdus
use Rattle.mms_services.specs.declared.request.Request.TheVariants as asked_for
use Rattle.stack_assoc.specs.declared.messages.heard.Heard.{Heard}
use Rattle.stack_assoc.specs.declared.messages.heard.Heard.TheVariants as heard
use Rattle.stack_assoc.proofs.OfMessages.Worked.{connecting_octets, identify_octets, wanted, connecting}
use Rattle.stack_assoc.proofs.OfMessages.Worked.{connect_heard, identify_heard}
use Rattle.std.specs.Prelude.{codes}
use Rattle.stack_assoc.specs.Arrivals.{Arrival, called}
use Rattle.stack_assoc.specs.Arrivals as told
use Rattle.stack_assoc.specs.Handing.{answers_to}
use Rattle.bilateral.specs.declared.rows.Table.{Table}
use Rattle.bilateral.specs.Rows.{CentreRows}
use Rattle.tase_views.specs.declared.call.CallKind.TheVariants.{Identify}
use Rattle.tase_views.specs.declared.event.EventKind.TheVariants.{Open, Request, Take, Close}
use Rattle.tase_conn.specs.Map.Inputs.{Item, piece, ended}
use Rattle.tase_conn.specs.Map.Readings.{Reading, reading_of}
use Rattle.tase_conn.specs.Map.Turns.{Turn, pauses, ends, turns_between, turns_of}
use Rattle.tase_conn.specs.Map.Turns as turns
use Rattle.tase_conn.specs.Map.Asks.{up_to_last, asks_behind, asks_of}
use Rattle.tase_conn.specs.Map.Out.{refusal_octets, early_octets}
use Rattle.tase_conn.proofs.OfMap.ReadingLaws.{reading_only}
use Rattle.ber_values.specs.Writing as ber
use Rattle.tpkt_cotp.specs.Written.{wire}
use Rattle.session_profile.specs.Writing as session_octets
use Rattle.presentation_profile.specs.Written as presentation_octets
use Rattle.mms_services.specs.Identities.{identify_response_octets}
use Rattle.mms_services.specs.Initiates.{initiate_octets, later_octets, last_octets}
use Rattle.mms_services.specs.Initiates.{initiate_detail_octets}
use Rattle.mms_services.specs.PduOctets.{pdu_octets, response_octets, invoke_octets}
use Rattle.stack_assoc.specs.Wire.Tsdus.{accept_tsdu, abort_tsdu, data_tsdu}
use Rattle.tase_views.specs.OwnTables.{own_tables}
use Rattle.tase_views.specs.Moves.{closes}
use Rattle.tase_views.specs.View.{own}
use Rattle.tase_conn.specs.Map.Out.{talk_of, octets_in, octets_out}
use Rattle.tase_conn.proofs.OfMap.Worked.{confirm_octets, accept_octets, identified_octets}
use Rattle.tase_conn.proofs.OfMap.Worked.{aborted_octets, still_open}
use Rattle.tase_conn.proofs.OfMap.TurnOrder.{nothing_said}

-- ---- the stream

abbrev pub opener : ConnectRequest
opener = record {
  source = 1;
  parameters = record { size = Some 10; calling = Some (0 ∷ 1 ∷ []); called = Some (0 ∷ 1 ∷ []) };
}

abbrev pub identify : Heard
identify = heard.Pdu (pdus.Request 1 asked_for.Identify)

-- the three pieces: each TSDU in one TPKT
unfoldable pub first : List ℕ
first = 3 ∷ 0 ∷ 0 ∷ 22 ∷ 17 ∷ 224 ∷ 0 ∷ 0 ∷ 0 ∷ 1 ∷ 0 ∷ 192 ∷ 1 ∷ 10 ∷ 193 ∷ 2 ∷ 0 ∷ 1 ∷ 194 ∷ 2 ∷ 0
    ∷ 1 ∷ []

unfoldable pub second : List ℕ
second = 3 ∷ 0 ∷ 0 ∷ 177 ∷ 2 ∷ 240 ∷ 128 ∷ connecting_octets

unfoldable pub third : List ℕ
third = 3 ∷ 0 ∷ 0 ∷ 27 ∷ 2 ∷ 240 ∷ 128 ∷ identify_octets

said_first : (rest : List ℕ) × Says roles.Called first (asks opener ∷ []) rest
unfolding first streams.stream_from tpkts.tpkt_in tpkts.sized_in tpkts.tpdu_in tpkts.tpdu_body_in tpkts.connection_request_in tpkts.disconnect_in tpkts.data_part_in tpkts.marked_in tpkts.parameters_in
said_first = left_says roles.Called first 0 refl

said_second : (rest : List ℕ)
    × Says roles.Called (first ++ second) (asks opener ∷ tsdu 22 connecting_octets ∷ []) rest
unfolding first second connecting_octets streams.stream_from tpkts.tpkt_in tpkts.sized_in tpkts.tpdu_in tpkts.tpdu_body_in tpkts.connection_request_in tpkts.disconnect_in tpkts.data_part_in tpkts.marked_in tpkts.parameters_in
said_second = left_says roles.Called (first ++ second) 0 refl

said_third : (rest : List ℕ) × Says roles.Called (first ++ second ++ third)
    (asks opener ∷ tsdu 22 connecting_octets ∷ tsdu 199 identify_octets ∷ []) rest
unfolding first second third connecting_octets identify_octets streams.stream_from tpkts.tpkt_in tpkts.sized_in tpkts.tpdu_in tpkts.tpdu_body_in tpkts.connection_request_in tpkts.disconnect_in tpkts.data_part_in tpkts.marked_in tpkts.parameters_in
said_third = left_says roles.Called (first ++ second ++ third) 0 refl

-- ---- what the octets so far tell

abbrev pub reads : List Arrival → Reading
reads told = record { told = told; broken = None }

abbrev pub one : List Arrival
one = told.asked opener ∷ []

abbrev pub two : List Arrival
two = told.asked opener ∷ told.heard (heard.Connect connecting) ∷ []

abbrev pub three : List Arrival
three = told.asked opener ∷ told.heard (heard.Connect connecting) ∷ told.heard identify ∷ []

pub read_none : reading_of [] ≡ reads []
read_none = reading_only [] [] None
    (nothing_said.0, record { messages = []; said = nothing_said.1; tell = tt })

pub read_first : reading_of first ≡ reads one
read_first = reading_only first one None
    (said_first.0, record { messages = asks opener ∷ []; said = said_first.1; tell = (refl, tt) })

pub read_second : reading_of (first ++ second) ≡ reads two
read_second = reading_only (first ++ second) two None (
  said_second.0,
  record {
    messages = asks opener ∷ tsdu 22 connecting_octets ∷ [];
    said = said_second.1;
    tell = (refl, (connect_heard, tt));
  },
)

pub read_third : reading_of (first ++ second ++ third) ≡ reads three
read_third = reading_only (first ++ second ++ third) three None (
  said_third.0,
  record {
    messages = asks opener ∷ tsdu 22 connecting_octets ∷ tsdu 199 identify_octets ∷ [];
    said = said_third.1;
    tell = (refl, (connect_heard, (identify_heard, tt)));
  },
)

-- ---- what the input asks, item by item, and what is sent before an association

abbrev table : Table
table =
    record {
      key = codes "A";
      title = Some (41 ∷ 135 ∷ 103 ∷ 1 ∷ []);
      domain = codes "DOMA";
      id = codes "TBLA";
      sees = [];
      controls = [];
      slots = 8;
      sets = 64;
      pending = 1048576;
    }

abbrev rows : CentreRows
rows = record { points = []; devices = []; tables = table ∷ []; variants = [] ∷ [] }

-- the turns of the four items
told_turns : (a b c d : Reading) → a ≡ reads [] → b ≡ reads one → c ≡ reads two → d ≡ reads three
    → (turns_between a b ++ pauses ∷ []) ++ ((turns_between b c ++ pauses ∷ [])
    ++ ((turns_between c d ++ pauses ∷ []) ++ ((turns_between d d ++ ends ∷ []) ++ [])))
    ≡ pauses ∷ turns.offers (Some (41 ∷ 135 ∷ 103 ∷ 1 ∷ [])) ∷ pauses ∷ turns.asks 1 Identify ∷ pauses
    ∷ ends ∷ []
unfolding wanted
told_turns a b c d ea eb ec ed = rw (ea, eb, ec, ed) refl

four_items : List Item
four_items = piece first ∷ piece second ∷ piece third ∷ ended ∷ []

input_turns : turns_of four_items
    ≡ pauses ∷ turns.offers (Some (41 ∷ 135 ∷ 103 ∷ 1 ∷ [])) ∷ pauses ∷ turns.asks 1 Identify ∷ pauses
    ∷ ends ∷ []
unfolding four_items first second third connecting_octets identify_octets
input_turns = told_turns (reading_of []) (reading_of first) (reading_of (first ++ second))
    (reading_of (first ++ second ++ third)) read_none read_first read_second read_third

input_asks : asks_of rows four_items
    ≡ Open 0 ∷ Take ∷ Request Identify ∷ Take ∷ Close ∷ []
input_asks = ap (λ (turns : List Turn). asks_behind rows [] (up_to_last rows turns)) input_turns

-- before its offer a connection is sent the confirm of the transport
early_sent : early_octets rows first ≡ 3 ∷ 0 ∷ 0 ∷ 22 ∷ 17 ∷ 208 ∷ 0 ∷ 1 ∷ 0 ∷ 1 ∷ 0 ∷ 192 ∷ 1 ∷ 10
    ∷ 193 ∷ 2 ∷ 0 ∷ 1 ∷ 194 ∷ 2 ∷ 0 ∷ 1 ∷ []
early_sent =
    ap (λ (r : Reading). answers_to called r.told ++ refusal_octets rows r) read_first

-- what the association of this text is sent, where it was opened, asked once, and closed as its link
-- had ended: the confirm of the transport, the accept, the response, and nothing for the close
ended_sent : octets_out (own_tables rows 0) (own 0 closes ∷ still_open) 0
    (first ++ second ++ third) true
    ≡ confirm_octets ++ accept_octets ++ identified_octets
unfolding wanted wire session_octets.session_length_octets ber.length_octets ber.integer_octets presentation_octets.user_octets accept_tsdu data_tsdu presentation_octets.set_up_octets presentation_octets.mode_octets presentation_octets.accept_ppdu_octets presentation_octets.results_octets presentation_octets.accepted_octets pdu_octets initiate_octets later_octets last_octets initiate_detail_octets response_octets invoke_octets identify_response_octets
ended_sent =
    ap (λ (r : Reading). octets_in (own_tables rows 0) 0 (talk_of r true)
    (own 0 closes ∷ still_open))
    read_third

-- where the link hasn't, nothing explains the close, and it is sent an abort
unexplained_sent : octets_out (own_tables rows 0) (own 0 closes ∷ still_open) 0
    (first ++ second ++ third) false
    ≡ confirm_octets ++ accept_octets ++ identified_octets ++ aborted_octets
unfolding wanted wire session_octets.session_length_octets ber.length_octets ber.integer_octets presentation_octets.user_octets accept_tsdu data_tsdu abort_tsdu presentation_octets.set_up_octets presentation_octets.mode_octets presentation_octets.accept_ppdu_octets presentation_octets.results_octets presentation_octets.accepted_octets pdu_octets initiate_octets later_octets last_octets initiate_detail_octets response_octets invoke_octets identify_response_octets
unexplained_sent =
    ap (λ (r : Reading). octets_in (own_tables rows 0) 0 (talk_of r false)
    (own 0 closes ∷ still_open))
    read_third
