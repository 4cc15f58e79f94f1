-- What a scenario gives: the lines that are taken, their entries and what is printed at each, and
-- how it ends.
use Rattle.std.specs.Prelude.{ℕ, ◌+◌, ◌==◌, ◌&&◌, ◌||◌, not, if◌then◌else◌, Bool, List, [], ◌∷◌}
use Rattle.std.specs.Prelude.{◌++◌, length, map, flat_map, Option, Some, None, codes, decimal}
use Rattle.std.specs.Fmt.{signed_decimal}
use Rattle.std.proofs.Common.{drop}
use Rattle.std.specs.List.{list_any}
use Rattle.std.specs.Str.Lines.{lines}
use Rattle.plain_text.specs.Escaped.{escaped_text}
use Rattle.plain_text.specs.Lines.{is_skipped}
use Rattle.sbo_device.specs.declared.order.Order.{Order}
use Rattle.tase_views.specs.declared.event.Entry.{Entry}
use Rattle.tase_views.specs.declared.reply.ReplyKind.{ReplyKind}
use Rattle.tase_views.specs.declared.reply.Answer.{Answer}
use Rattle.tase_views.specs.declared.reply.ReportKind.{ReportKind}
use Rattle.tase_views.specs.declared.reply.Answer.TheVariants.{Opened, Reply, Reports, Closed}
use Rattle.tase_views.specs.declared.reply.Answer.TheVariants.{Orders, Noted}
use Rattle.tase_views.specs.declared.fault.StepFault.{StepFault}
use Rattle.tase_views.specs.declared.fault.StepFault.TheVariants.{Memory, Stopped, HistoryFull}
use Rattle.tase_views.specs.declared.fault.StepFault.TheVariants.{NoAssociation, Already}
use Rattle.tase_views.specs.declared.fault.StepFault.TheVariants.{UnknownName, ClockRange, Backward}
use Rattle.tase_views.specs.Setup.{Setup}
use Rattle.tase_views.specs.History.{Past, association_in}
use Rattle.tase_views.specs.declared.event.EventKind.{EventKind}
use Rattle.bilateral.specs.Rows.{CentreRows, device_of}
use Rattle.conn_service.specs.TaseConn.Map.Inputs.{Item}
use Rattle.conn_service.specs.TaseConn.declared.stage.ConnEnd.{ConnEnd}
use Rattle.conn_service.specs.TaseConn.declared.stage.ConnEnd.TheVariants as conn_ends
use Rattle.tase_views.specs.Outcomes.{refusal_of, answer_of}
use Rattle.texts.specs.Events.ReplyTexts.{reply_text}
use Rattle.texts.specs.Reports.ReportTexts.{report_text}
use Rattle.tase_replay.specs.Lines.{entry_by}
use Rattle.conn_service.specs.TaseConn.Map.Linked.{link_octets}
use Rattle.conn_service.specs.TaseConn.PeerEnd.{peer_end}
use Rattle.conn_service.specs.Served.{Served, served, with_closed}
use Rattle.conn_service.specs.Sends.{close_of}
use Rattle.tase_replay.specs.Links.{SeatItem, Asking, an_event, an_item, asking_in}
use Rattle.tase_replay.specs.Links.{items_of, asks_more}
use Rattle.tase_replay.specs.Links.{line_of_out, line_of_end}

-- a reply to a seat, as a line
abbrev pub line_of_reply : ℕ → ReplyKind → List ℕ
line_of_reply who reply = codes "reply " ++ decimal who ++ 32 ∷ reply_text reply ++ 10 ∷ []

-- a report to a seat, as a line
abbrev pub line_of_report : ℕ → ReportKind → List ℕ
line_of_report who report = codes "report " ++ decimal who ++ 32 ∷ report_text report ++ 10 ∷ []

-- an order to the plant: `NAME VALUE`, and as a line
abbrev pub order_words : CentreRows → Order → List ℕ
order_words rows order =
    escaped_text (device_of rows order.device).name ++ 32 ∷ signed_decimal order.value

abbrev pub line_of_order : CentreRows → Order → List ℕ
line_of_order rows order = codes "order " ++ order_words rows order ++ 10 ∷ []

-- what is printed of an answer to a seat: the reply to a request, and the reports or the orders
-- that are taken
abbrev pub printed_of : CentreRows → ℕ → Answer → List ℕ
printed_of rows who (Opened key) = []
printed_of rows who (Reply reply) = line_of_reply who reply
printed_of rows who (Reports reports) = flat_map (line_of_report who) reports
printed_of rows who Closed = []
printed_of rows who (Orders orders) = flat_map (line_of_order rows) orders
printed_of rows who Noted = []

-- a step of a seat: the entry that was taken, if one was, the octets that the peer of its link is
-- sent, how its connection ended, if it did, and what is printed at it
pub record Step : Type 0 where
  pub who : ℕ
  pub entries : List Entry
  pub octets : List ℕ
  pub end : Option ConnEnd
  pub printed : List ℕ

abbrev pub step_of : Setup → Past → Entry → Step
step_of setup past entry =
    record {
      who = entry.who;
      entries = entry ∷ [];
      octets = [];
      end = None;
      printed = printed_of setup.centre entry.who
          (answer_of setup past entry.who entry.event);
    }

-- ---- where a scenario stands

-- the history so far, what links have given, and the seats whose connections have ended
pub record Scene : Type 0 where
  pub past : Past
  pub given : List SeatItem
  pub ended : List ℕ

-- the scene with an entry more
abbrev pub with_taken : Entry → Scene → Scene
with_taken entry scene = record scene { past = entry ∷ scene.past }

-- whether a seat is a link's; or whether it has had events, though no link of its own
abbrev pub is_linked : ℕ → Scene → Bool
is_linked who scene = list_any (λ given. given.who == who) scene.given

abbrev pub is_seated : ℕ → Scene → Bool
is_seated who scene =
    list_any (λ entry. entry.who == who) scene.past && not (is_linked who scene)

abbrev pub conn_has_ended : ℕ → Scene → Bool
conn_has_ended who scene = list_any (λ ended. ended == who) scene.ended

-- what a line means behind the lines before it: that it is bad; that with one of its events the
-- history would weigh so much, which is more than its limit, after these steps; or what it gives, in
-- order, and the scene behind it
pub data LineMeaning : Type 0 where
  bad : LineMeaning
  too_heavy : List Step → ℕ → ℕ → LineMeaning
  gives : List Step → Scene → LineMeaning

-- ---- a line of a seat

-- a step that the node takes, or why it refuses it
abbrev pub meaning_of : Scene → Step → Option StepFault → LineMeaning
meaning_of after step None = gives (step ∷ []) after
meaning_of after step (Some Memory) = bad
meaning_of after step (Some (Stopped place)) = bad
meaning_of after step (Some (HistoryFull weight limit)) = too_heavy [] weight limit
meaning_of after step (Some NoAssociation) = bad
meaning_of after step (Some Already) = bad
meaning_of after step (Some UnknownName) = bad
meaning_of after step (Some ClockRange) = bad
meaning_of after step (Some (Backward last)) = bad

-- an entry that the node doesn't refuse, of a seat that isn't a link's
abbrev pub entry_meaning : Setup → Scene → Entry → LineMeaning
entry_meaning setup scene entry = if is_linked entry.who scene then bad
    else meaning_of (with_taken entry scene) (step_of setup scene.past entry)
    (refusal_of setup scene.past entry.who entry.event)

-- ---- a line of a link

-- an event of a connection, of which nothing is printed
abbrev pub entry_step : Entry → Step
entry_step entry = record {
  who = entry.who;
  entries = entry ∷ [];
  octets = [];
  end = None;
  printed = [];
}

-- events of a connection, one after another
abbrev pub entry_steps : ℕ → List EventKind → List Step
entry_steps who events = map (λ event. entry_step (entry_by event who)) events

-- those that a node took before one that it refused, and the close of the association, if it was open
abbrev pub cut_steps : ℕ → Served → List Step
cut_steps who s = entry_steps who (s.taken ++ close_of (association_in s.past who))

-- the octets by which those that a seat's link is sent grew
abbrev pub octets_between : CentreRows → ℕ → Scene → Scene → List ℕ
octets_between rows who before after =
    drop (length (link_octets rows before.past who (items_of who before.given)))
    (link_octets rows after.past who (items_of who after.given))

-- what is printed at a line of a link: these octets, and the end of the connection, where it came
abbrev pub link_step : CentreRows → Scene → Scene → SeatItem → Option ConnEnd → Step
link_step rows before after given end = record {
  who = given.who;
  entries = [];
  octets = octets_between rows given.who before after;
  end = end;
  printed = line_of_out given.who (octets_between rows given.who before after)
      ++ line_of_end given.who end;
}

-- the scene behind such a line
abbrev pub ended_with : ℕ → Option ConnEnd → List ℕ → List ℕ
ended_with who None ended = ended
ended_with who (Some end) ended = who ∷ ended

abbrev pub behind_link : Scene → Past → SeatItem → Option ConnEnd → Scene
behind_link scene past given end = record {
  past = past;
  given = scene.given ++ given ∷ [];
  ended = ended_with given.who end scene.ended;
}

abbrev pub linked : CentreRows → Scene → SeatItem → List Step → Past → Option ConnEnd → LineMeaning
linked rows scene given steps past end =
    let after : Scene = behind_link scene past given end in
    gives (steps ++ link_step rows scene after given end ∷ []) after

-- by what a node takes of the events of a connection, none of which it refuses, and how the peer
-- ends that, if it does: where the answer to the last event brings an end, a report is too long
abbrev pub linked_up_to : CentreRows → Scene → SeatItem → Option ConnEnd → Served → Option ConnEnd
    → LineMeaning
linked_up_to rows scene given by_peer s None =
    linked rows scene given (entry_steps given.who s.taken) s.past by_peer
linked_up_to rows scene given by_peer s (Some end) =
    linked rows scene given (cut_steps given.who s) (with_closed given.who s.past) (Some end)

-- or refuses one
abbrev pub linked_by : CentreRows → Scene → SeatItem → Option ConnEnd → Served → Option StepFault
    → LineMeaning
linked_by rows scene given by_peer s None = linked_up_to rows scene given by_peer s s.end
linked_by rows scene given by_peer s (Some (Stopped place)) =
    linked rows scene given (cut_steps given.who s) (with_closed given.who s.past)
    (Some conn_ends.Stopped)
linked_by rows scene given by_peer s (Some (HistoryFull weight limit)) =
    too_heavy (cut_steps given.who s) weight limit
linked_by rows scene given by_peer s (Some Memory) = bad
linked_by rows scene given by_peer s (Some NoAssociation) = bad
linked_by rows scene given by_peer s (Some Already) = bad
linked_by rows scene given by_peer s (Some UnknownName) = bad
linked_by rows scene given by_peer s (Some ClockRange) = bad
linked_by rows scene given by_peer s (Some (Backward last)) = bad

-- an item of a link, of a seat that no other line uses, and whose connection hasn't ended
abbrev pub is_unfit : ℕ → Scene → Bool
is_unfit who scene = is_seated who scene || conn_has_ended who scene

-- all that its link has given then
abbrev pub items_with : Scene → SeatItem → List Item
items_with scene given = items_of given.who scene.given ++ given.item ∷ []

abbrev pub served_item : Setup → Scene → SeatItem → Served
served_item setup scene given = served setup given.who (items_with scene given) scene.past
    (asks_more setup.centre (items_of given.who scene.given) given.item)

abbrev pub received : Setup → Scene → SeatItem → LineMeaning
received setup scene given = if is_unfit given.who scene then bad
    else linked_by setup.centre scene given
    (peer_end setup.centre (items_with scene given))
    (served_item setup scene given) (served_item setup scene given).refusal

-- ---- a line

abbrev pub means : Setup → Scene → Option Asking → LineMeaning
means setup scene None = bad
means setup scene (Some (an_event entry)) = entry_meaning setup scene entry
means setup scene (Some (an_item given)) = received setup scene given

abbrev pub line_meaning : Setup → Scene → List ℕ → LineMeaning
line_meaning setup scene line = if is_skipped line then gives [] scene
    else means setup scene (asking_in setup.centre line)

-- ---- a scenario

-- a line that was taken, and what it gave
pub record TakenLine : Type 0 where
  pub line : List ℕ
  pub steps : List Step

-- how a scenario ends: after its last line; at its first bad one, by its number; or at an event
-- with which the history would weigh so much, which is more than its limit
pub data PlayEnd : Type 0 where
  done : PlayEnd
  bad_line : ℕ → PlayEnd
  history_full : ℕ → ℕ → PlayEnd

-- the lines that are taken, the steps of a line before its event for which the history has no room,
-- and the end
pub record Played : Type 0 where
  pub taken : List TakenLine
  pub last : List Step
  pub end : PlayEnd

abbrev pub ends_by : List Step → PlayEnd → Played
ends_by steps end = record { taken = []; last = steps; end = end }

-- a line with this number and then the rest, which `rest` plays from a scene
abbrev pub play_line : List ℕ → ℕ → LineMeaning → (Scene → Played) → Played
play_line line number bad rest = ends_by [] (bad_line number)
play_line line number (too_heavy steps weight limit) rest =
    ends_by steps (history_full weight limit)
play_line line number (gives steps after) rest =
    let later : Played = rest after in
    record later { taken = record { line = line; steps = steps } ∷ later.taken }

-- each line after those before it, up to the first that isn't taken; the first line has this number
abbrev pub play : Setup → List (List ℕ) → Scene → ℕ → Played
play setup [] scene number = ends_by [] done
play setup (line ∷ more) scene number =
    play_line line number (line_meaning setup scene line)
    (λ after. play setup more after (number + 1))

-- nothing more
abbrev pub ends_there : Scene → Played
ends_there scene = ends_by [] done

-- the scene behind a line that is taken
abbrev pub scene_by : Scene → LineMeaning → Scene
scene_by scene bad = scene
scene_by scene (too_heavy steps weight limit) = scene
scene_by scene (gives steps after) = after

-- what such a line gives
abbrev pub steps_by : LineMeaning → List Step
steps_by bad = []
steps_by (too_heavy steps weight limit) = []
steps_by (gives steps after) = steps

-- the steps of lines that were taken
abbrev pub steps_in : List TakenLine → List Step
steps_in taken = flat_map (λ line. line.steps) taken

-- all that was taken, in order
abbrev pub steps_of : Played → List Step
steps_of played = steps_in played.taken ++ played.last

abbrev pub entries_in : List Step → List Entry
entries_in steps = flat_map (λ step. step.entries) steps

abbrev pub printed_in : List Step → List ℕ
printed_in steps = flat_map (λ step. step.printed) steps

-- all that was printed
abbrev pub shown_of : Played → List ℕ
shown_of played = printed_in (steps_of played)

-- before the first line, over a node with this history
abbrev pub first_scene : Past → Scene
first_scene past = record { past = past; given = []; ended = [] }

-- the lines of a scenario over a node whose history is empty
abbrev pub played_of : Setup → List (List ℕ) → Played
played_of setup scenario = play setup scenario (first_scene []) 1

-- the text of a scenario over such a node
abbrev pub scenario_of : Setup → List ℕ → Played
scenario_of setup text = played_of setup (lines text)
