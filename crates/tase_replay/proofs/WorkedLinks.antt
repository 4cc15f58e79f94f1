-- The definitions computed on worked links, apart from all code: what each scenario prints, and how
-- it ends.
use Rattle.std.proofs.Common.{◌≡◌, ℕ, ◌+◌, ◌^◌, List, [], ◌∷◌, ◌++◌, map, Option, Some, None}
use Rattle.std.proofs.Common.{refl, ap, ◌∙◌}
use Rattle.std.specs.Prelude.{codes}
use Rattle.std.specs.Fmt.{digits}
use Rattle.hex.specs.Hex.{decode_pairs}
use Rattle.ber_values.specs.Writing as ber
use Rattle.tpkt_cotp.specs.Written.{wire}
use Rattle.session_profile.specs.Writing as session
use Rattle.presentation_profile.specs.Written as presentation
use Rattle.mms_services.specs.Identities.{identify_response_octets}
use Rattle.mms_services.specs.Initiates.{initiate_octets, later_octets}
use Rattle.mms_services.specs.Initiates.{last_octets, initiate_detail_octets}
use Rattle.mms_services.specs.PduOctets.{pdu_octets, response_octets, invoke_octets}
use Rattle.stack_assoc.specs.Wire.Tsdus.{accept_tsdu, refusal_tsdu, abort_tsdu, data_tsdu}
use Rattle.bilateral.specs.Rows.{CentreRows}
use Rattle.bilateral.specs.Reading.{centre_in}
use Rattle.tase_views.specs.declared.call.CallKind.TheVariants.{Identify}
use Rattle.tase_views.specs.declared.event.EventKind.TheVariants.{Open, Request, Take, Close, Stop}
use Rattle.tase_views.specs.History.{Past}
use Rattle.tase_views.specs.Setup.{Setup}
use Rattle.conn_service.specs.TaseConn.Map.Inputs.{piece}
use Rattle.conn_service.specs.TaseConn.Map.Inputs as inputs
use Rattle.conn_service.specs.TaseConn.declared.stage.ConnEnd.{ConnEnd}
use Rattle.conn_service.specs.TaseConn.declared.stage.ConnEnd.TheVariants as conn_ends
use Rattle.stack_assoc.proofs.OfMessages.Worked.{wanted}
use Rattle.conn_service.proofs.TaseConn.OfMap.WorkedStream.{read_none}
use Rattle.tase_replay.specs.Lines.{entry_by}
use Rattle.tase_replay.specs.Links.{Asking, an_item, asking_in, SeatItem, given_by}
use Rattle.tase_replay.specs.Play.{Scene, Step, entry_step, LineMeaning, gives, too_heavy, means}
use Rattle.tase_replay.specs.Play.{line_meaning}
use Rattle.tase_replay.specs.Play.{Played, PlayEnd, done, bad_line, history_full, ends_by, play_line}
use Rattle.tase_replay.specs.Play.{play, first_scene, shown_of, scenario_of}
use Rattle.tase_replay.proofs.Worked.{text_of, rows_of, setup, played}
use Rattle.tase_replay.proofs.WorkedReadings.{octets_of, call_digits, connect_digits}
use Rattle.tase_replay.proofs.WorkedReadings.{identify_digits, cut_digits, call, connect, identify}
use Rattle.tase_replay.proofs.WorkedReadings.{cut, front_read, call_read}
use Rattle.tase_replay.proofs.WorkedReadings.{offered_read, asked_read, broken_read, broken_length}

-- what is written
writes : Unit {0}
unfolding digits octets_of wanted wire session.session_length_octets ber.length_octets ber.integer_octets
    presentation.user_octets accept_tsdu refusal_tsdu data_tsdu abort_tsdu
    presentation.set_up_octets presentation.mode_octets presentation.accept_ppdu_octets
    presentation.results_octets presentation.accepted_octets pdu_octets initiate_octets later_octets
    last_octets initiate_detail_octets response_octets invoke_octets identify_response_octets
writes = tt

-- ---- what is sent, in hexadecimal digits

-- the confirm of the transport, the accept, the response, an abort, and a refusal of the offer
abbrev confirm_digits : List ℕ
confirm_digits = codes "0300001611d00001000100c0010ac1020001c2020001"

abbrev accept_digits : List ℕ
accept_digits =
    codes "0300008f02f0800e8605061301001601021402000234020001c1743172a003800101a26b830400000001"
    ++ codes "a512300780010081025101300780010081025101614f304d020101a0486146a107060528ca220203a203"
    ++ codes "020100a305a103020100be2f282d020103a028a926800300fde8810105820105830105a416800101"
    ++ codes "810305e100820c036e1c000000000000000110"

abbrev identified_digits : List ℕ
identified_digits =
    codes "0300002d02f080010001006120301e020103a019a117020101a212800643454e54524581055441534532"
    ++ codes "820131"

abbrev abort_digits : List ℕ
abort_digits = codes "0300001e02f080191511010bc110a00e610c300a020101a0056403800100"

abbrev refusal_digits : List ℕ
refusal_digits =
    codes "0300002e02f0800c253223023020611e301c020101a0176115a107060528ca220203a203020101a305"
    ++ codes "a103020101"

-- ---- lines of scenarios

-- a line that gives octets to the link of seat 1, and one that prints octets for it
abbrev in_line : List ℕ → List ℕ
in_line octets = codes "in 1 " ++ octets

abbrev out_line : List ℕ → List ℕ
out_line octets = codes "out 1 " ++ octets

abbrev to_answer : List (List ℕ)
to_answer = in_line call_digits ∷ in_line connect_digits ∷ in_line identify_digits ∷ []

abbrev to_break : List (List ℕ)
to_break = in_line call_digits ∷ in_line connect_digits ∷ in_line cut_digits ∷ []

abbrev to_stop : List (List ℕ)
to_stop =
    in_line call_digits ∷ in_line connect_digits ∷ codes "stop" ∷ in_line identify_digits ∷ []

-- all that is printed, and the end
abbrev said : Played → List ℕ × PlayEnd
said played = (shown_of played, played.end)

-- ---- one line, and the lines behind it

abbrev with_line : List ℕ → List Step → Played → Played
with_line line steps later =
    record later { taken = record { line = line; steps = steps } ∷ later.taken }

taken : {after : Scene} {steps : List Step} {later : Played} (setup : Setup) (line : List ℕ)
    (more : List (List ℕ)) (scene : Scene) (number : ℕ)
    → line_meaning setup scene line ≡ gives steps after → play setup more after (number + 1) ≡ later
    → play setup (line ∷ more) scene number ≡ with_line line steps later
taken {after} {steps} {later} setup line more scene number given rest =
    ap (λ (m : LineMeaning). play_line line number m (λ s. play setup more s (number + 1))) given
    ∙ ap (λ (p : Played). with_line line steps p) rest

-- nothing comes of the lines behind one that is too heavy
filled : {steps : List Step} {weight limit : ℕ} (setup : Setup) (line : List ℕ)
    (more : List (List ℕ)) (scene : Scene) (number : ℕ)
    → line_meaning setup scene line ≡ too_heavy steps weight limit
    → play setup (line ∷ more) scene number ≡ ends_by steps (history_full weight limit)
filled setup line more scene number heavy =
    ap (λ (m : LineMeaning). play_line line number m (λ s. play setup more s (number + 1))) heavy

-- ---- what lines give

-- octets that are sent, the end that they are the last before, and what is printed of it
abbrev sends : Option ConnEnd → List ℕ → List ℕ → Step
sends end sent more = record {
  who = 1;
  entries = [];
  octets = octets_of sent;
  end = end;
  printed = out_line sent ++ 10 ∷ more;
}

abbrev given : List ℕ → SeatItem
given octets = given_by (piece octets) 1

-- where these pieces were given
abbrev scene : Past → List (List ℕ) → List ℕ → Scene
scene past pieces ended = record { past = past; given = map given pieces; ended = ended }

call_asking : (rows : CentreRows)
    → asking_in rows (in_line call_digits) ≡ Some (an_item (given call))
unfolding call decode_pairs
call_asking rows = refl

connect_asking : (rows : CentreRows)
    → asking_in rows (in_line connect_digits) ≡ Some (an_item (given connect))
unfolding connect decode_pairs
connect_asking rows = refl

identify_asking : (rows : CentreRows)
    → asking_in rows (in_line identify_digits) ≡ Some (an_item (given identify))
unfolding identify decode_pairs
identify_asking rows = refl

cut_asking : (rows : CentreRows) → asking_in rows (in_line cut_digits) ≡ Some (an_item (given cut))
unfolding cut decode_pairs
cut_asking rows = refl

-- the connect request of the transport is confirmed
abbrev called : Scene
called = scene [] (call ∷ []) []

call_line : (setup : Setup) → line_meaning setup (first_scene []) (in_line call_digits)
    ≡ gives (sends None confirm_digits [] ∷ []) called
unfolding writes
call_line setup =
    ap (λ (asking : Option Asking). means setup (first_scene []) asking) (call_asking setup.centre)
    ∙ simp (read_none, call_read)

-- a peer's offer is accepted
abbrev opened : Past
opened = entry_by (Open 0) 1 ∷ []

abbrev associated : Past
associated = entry_by Take 1 ∷ opened

abbrev accepted : Scene
accepted = scene associated (call ∷ connect ∷ []) []

abbrev open_steps : List Step
open_steps =
    entry_step (entry_by (Open 0) 1) ∷ entry_step (entry_by Take 1)
    ∷ sends None accept_digits [] ∷ []

connect_line : line_meaning setup called (in_line connect_digits) ≡ gives open_steps accepted
unfolding writes
connect_line =
    ap (λ (asking : Option Asking). means setup called asking) (connect_asking setup.centre)
    ∙ simp (read_none, call_read, offered_read)

-- a request is answered
abbrev requested : Past
requested = entry_by (Request Identify) 1 ∷ associated

abbrev answer_steps : List Step
answer_steps =
    entry_step (entry_by (Request Identify) 1)
    ∷ entry_step (entry_by Take 1) ∷ sends None identified_digits [] ∷ []

identify_line : line_meaning setup accepted (in_line identify_digits) ≡ gives answer_steps
    (scene (entry_by Take 1 ∷ requested) (call ∷ connect ∷ identify ∷ []) [])
unfolding writes
identify_line =
    ap (λ (asking : Option Asking). means setup accepted asking) (identify_asking setup.centre)
    ∙ simp (read_none, call_read, offered_read, asked_read)

-- a peer that breaks a rule is sent an abort
abbrev cut_steps : List Step
cut_steps =
    entry_step (entry_by Close 1)
    ∷ sends (Some (conn_ends.Refused broken_length)) abort_digits
    (codes "ended 1 refused presentation 5 length" ++ 10 ∷ []) ∷ []

cut_line : line_meaning setup accepted (in_line cut_digits) ≡ gives cut_steps
    (scene (entry_by Close 1 ∷ associated) (call ∷ connect ∷ cut ∷ []) (1 ∷ []))
unfolding writes
cut_line =
    ap (λ (asking : Option Asking). means setup accepted asking) (cut_asking setup.centre)
    ∙ simp (read_none, call_read, offered_read, broken_read)

-- so is one whose request a stopped node refuses
abbrev stopped : Past
stopped = entry_by Stop 0 ∷ associated

abbrev stop_steps : List Step
stop_steps =
    record { who = 0; entries = entry_by Stop 0 ∷ []; octets = []; end = None; printed = [] } ∷ []

stop_line : line_meaning setup accepted (codes "stop")
    ≡ gives stop_steps (scene stopped (call ∷ connect ∷ []) [])
stop_line = refl

abbrev refused_steps : List Step
refused_steps =
    entry_step (entry_by Close 1)
    ∷ sends (Some conn_ends.Stopped) abort_digits (codes "ended 1 stopped" ++ 10 ∷ []) ∷ []

refused_line : line_meaning setup (scene stopped (call ∷ connect ∷ []) []) (in_line identify_digits)
    ≡ gives refused_steps
    (scene (entry_by Close 1 ∷ stopped) (call ∷ connect ∷ identify ∷ []) (1 ∷ []))
unfolding writes
refused_line =
    ap (λ (asking : Option Asking). means setup (scene stopped (call ∷ connect ∷ []) []) asking)
    (identify_asking setup.centre) ∙ simp (read_none, call_read, offered_read, asked_read)

-- a centre that has no peer with the title is sent its offer in vain
abbrev strange : Setup
strange = record {
  centre = rows_of (centre_in (text_of (codes "peer A 1.1.999.2 DOMA TBLA" ∷ [])));
  limit = 2 ^ 31;
}

declined_line : line_meaning strange called (in_line connect_digits)
    ≡ gives (sends (Some conn_ends.Declined) refusal_digits (codes "ended 1 declined" ++ 10 ∷ []) ∷ [])
    (scene [] (call ∷ connect ∷ []) (1 ∷ []))
unfolding writes
declined_line =
    ap (λ (asking : Option Asking). means strange called asking) (connect_asking strange.centre)
    ∙ simp (read_none, call_read, offered_read)

-- a history that may weigh 8 octets has room for the open, and none for the take behind it
abbrev light : Setup
light = record { centre = setup.centre; limit = 8 }

full_line : line_meaning light called (in_line connect_digits)
    ≡ too_heavy (entry_step (entry_by (Open 0) 1) ∷ entry_step (entry_by Close 1) ∷ []) 10 8
unfolding writes
full_line =
    ap (λ (asking : Option Asking). means light called asking) (connect_asking light.centre)
    ∙ simp (read_none, call_read, offered_read)

-- ---- whole scenarios

answered-said : said (played to_answer) ≡ (
  text_of (out_line confirm_digits ∷ out_line accept_digits ∷ out_line identified_digits ∷ []),
  done,
)
answered-said = ap said
    (taken setup (in_line call_digits) (in_line connect_digits ∷ in_line identify_digits ∷ [])
    (first_scene []) 1 (call_line setup)
    (taken setup (in_line connect_digits) (in_line identify_digits ∷ []) called 2 connect_line
    (taken setup (in_line identify_digits) [] accepted 3 identify_line refl)))

broken-said : said (played to_break) ≡ (
  text_of (out_line confirm_digits ∷ out_line accept_digits ∷ out_line abort_digits
      ∷ codes "ended 1 refused presentation 5 length" ∷ []),
  done,
)
broken-said = ap said
    (taken setup (in_line call_digits) (in_line connect_digits ∷ in_line cut_digits ∷ [])
    (first_scene []) 1 (call_line setup)
    (taken setup (in_line connect_digits) (in_line cut_digits ∷ []) called 2 connect_line
    (taken setup (in_line cut_digits) [] accepted 3 cut_line refl)))

stopped-said : said (played to_stop) ≡ (
  text_of (out_line confirm_digits ∷ out_line accept_digits ∷ out_line abort_digits
      ∷ codes "ended 1 stopped" ∷ []),
  done,
)
stopped-said = ap said
    (taken setup (in_line call_digits)
    (in_line connect_digits ∷ codes "stop" ∷ in_line identify_digits ∷ []) (first_scene []) 1
    (call_line setup)
    (taken setup (in_line connect_digits) (codes "stop" ∷ in_line identify_digits ∷ []) called 2
    connect_line
    (taken setup (codes "stop") (in_line identify_digits ∷ []) accepted 3 stop_line
    (taken setup (in_line identify_digits) [] (scene stopped (call ∷ connect ∷ []) []) 4
    refused_line refl))))

declined-said : said (scenario_of strange (text_of (in_line call_digits ∷ in_line connect_digits
    ∷ []))) ≡ (
      text_of (out_line confirm_digits ∷ out_line refusal_digits ∷ codes "ended 1 declined" ∷ []),
      done,
    )
declined-said = ap said
    (taken strange (in_line call_digits) (in_line connect_digits ∷ []) (first_scene []) 1
    (call_line strange)
    (taken strange (in_line connect_digits) [] called 2 declined_line refl))

-- what was taken before the history was full is not told, and no line behind it is taken
filled-said : said (scenario_of light (text_of to_answer))
    ≡ (text_of (out_line confirm_digits ∷ []), history_full 10 8)
filled-said = ap said
    (taken light (in_line call_digits) (in_line connect_digits ∷ in_line identify_digits ∷ [])
    (first_scene []) 1 (call_line light)
    (filled light (in_line connect_digits) (in_line identify_digits ∷ []) called 2 full_line))

-- a link that ends before its first message, and is used again
abbrev front : List ℕ
front = 3 ∷ 0 ∷ 0 ∷ []

abbrev begun : Scene
begun = scene [] (front ∷ []) []

abbrev left : Scene
left = record {
  past = [];
  given = given front ∷ given_by inputs.ended 1 ∷ [];
  ended = 1 ∷ [];
}

-- a step of a link that shows nothing
abbrev quiet_step : Step
quiet_step = record { who = 1; entries = []; octets = []; end = None; printed = [] }

abbrev ended_step : Step
ended_step = record {
  who = 1;
  entries = [];
  octets = [];
  end = Some conn_ends.PeerEnd;
  printed = codes "ended 1 peerend" ++ 10 ∷ [];
}

front_asking : asking_in setup.centre (codes "in 1 030000") ≡ Some (an_item (given front))
unfolding decode_pairs
front_asking = refl

front_line : line_meaning setup (first_scene []) (codes "in 1 030000") ≡ gives (quiet_step ∷ []) begun
front_line =
    ap (λ (asking : Option Asking). means setup (first_scene []) asking) front_asking
    ∙ simp (read_none, front_read)

ended_line : line_meaning setup begun (codes "end 1") ≡ gives (ended_step ∷ []) left
unfolding digits
ended_line = simp (read_none, front_read)

ended-said : said (played (codes "in 1 030000" ∷ codes "end 1" ∷ codes "idle 1" ∷ []))
    ≡ (text_of (codes "ended 1 peerend" ∷ []), bad_line 3)
ended-said = ap said
    (taken setup (codes "in 1 030000") (codes "end 1" ∷ codes "idle 1" ∷ []) (first_scene []) 1
    front_line (taken setup (codes "end 1") (codes "idle 1" ∷ []) begun 2 ended_line refl))

-- a seat is used by lines of its own, or by a link
owned-said : said (played (codes "open 1 A" ∷ codes "idle 1" ∷ [])) ≡ ([], bad_line 2)
unfolding digits
owned-said = refl

linked-said : said (played (codes "idle 1" ∷ codes "open 1 A" ∷ [])) ≡ ([], bad_line 2)
unfolding digits
linked-said = simp read_none

-- an odd number of digits, none, no digits, too many words, seat 0
uneven-said : said (played (codes "in 1 030" ∷ [])) ≡ ([], bad_line 1)
unfolding decode_pairs
uneven-said = refl

empty-said : said (played (codes "in 1" ∷ [])) ≡ ([], bad_line 1)
empty-said = refl

letters-said : said (played (codes "in 1 0g" ∷ [])) ≡ ([], bad_line 1)
unfolding decode_pairs
letters-said = refl

many-said : said (played (codes "end 1 1" ∷ [])) ≡ ([], bad_line 1)
many-said = refl

centre-said : said (played (codes "idle 0" ∷ [])) ≡ ([], bad_line 1)
centre-said = refl
