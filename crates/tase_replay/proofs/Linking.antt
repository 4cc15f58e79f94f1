-- What a line of a link gives, by what the node took of its connection.
use Rattle.std.proofs.Common.{◌≡◌, ◌==◌, ℕ, Bool, true, false, List, [], ◌∷◌, ◌++◌, reverse}
use Rattle.std.proofs.Common.{length, drop, map, Option, Some, None, is_some, refl, sym, ap, subst, ◌∙◌}
use Rattle.std.proofs.Common.{append_assoc, take, arith}
use Rattle.std.specs.Prelude.{if◌then◌else◌}
use Rattle.std.specs.List.{cons_option}
use Rattle.std.proofs.lemmas.List.{append-nil, reverse-append, reverse-reverse, map-append}
use Rattle.std.proofs.lemmas.List.{length-append, take-append-le}
use Rattle.std.proofs.Math.Seq.{drop-append_seam, take-length}
use Rattle.std.proofs.lemmas.Bool.{eq-eqb}
use Rattle.std.proofs.lemmas.List.Elements.{filter_map-append}
use Rattle.outside.specs.Sink.{SinkTold, AppendsAll}
use Rattle.outside.proofs.Writing.{Appends-none, AppendsPart-none}
use Rattle.bilateral.specs.Rows.{CentreRows}
use Rattle.sbo_device.specs.declared.key.Key.{Key}
use Rattle.tase_views.specs.Setup.{Setup}
use Rattle.tase_views.specs.History.{Past, association_in}
use Rattle.tase_views.specs.Outcomes.{refusal_of, answer_of}
use Rattle.tase_views.specs.declared.event.Entry.{Entry}
use Rattle.tase_views.specs.declared.event.EventKind.{EventKind}
use Rattle.tase_views.specs.declared.event.EventKind.TheVariants as events
use Rattle.tase_views.specs.declared.fault.StepFault.{StepFault}
use Rattle.tase_views.specs.declared.fault.StepFault.TheVariants as faults
use Rattle.conn_service.specs.TaseConn.Map.Inputs.{Item}
use Rattle.conn_service.specs.TaseConn.Map.Asks.{asks_of, AreInTurn}
use Rattle.conn_service.specs.TaseConn.Map.Sent.{events_by, with_event}
use Rattle.conn_service.specs.TaseConn.declared.stage.ConnEnd.{ConnEnd}
use Rattle.conn_service.specs.TaseConn.declared.stage.ConnEnd.TheVariants as conn_ends
use Rattle.conn_service.specs.TaseConn.Map.Linked.{link_octets}
use Rattle.conn_service.specs.TaseConn.PeerEnd.{peer_end}
use Rattle.conn_service.specs.Courses.AnswerEnd.{end_answered}
use Rattle.conn_service.specs.Served.{Served, served, served_by, with_closed}
use Rattle.conn_service.specs.Sends.{close_of}
use Rattle.conn_service.specs.Attending.{TakesEvents, TakesTo}
use Rattle.conn_service.proofs.Takes.{behind_taken}
use Rattle.conn_service.proofs.Told.{IsOurs}
use Rattle.tase_replay.specs.declared.playing.ReplayEnd.{ReplayEnd}
use Rattle.tase_replay.specs.declared.playing.ReplayEnd.TheVariants.{Full, Memory}
use Rattle.tase_replay.specs.Lines.{entry_by}
use Rattle.tase_replay.specs.Links.{SeatItem, items_of, item_by, asks_more}
use Rattle.tase_replay.specs.Links.{line_of_out, line_of_end}
use Rattle.tase_replay.specs.Play.{Step, Scene, LineMeaning, bad, entry_step, entry_steps, served_item}
use Rattle.tase_replay.specs.Play.{received, is_unfit, linked, linked_by, link_step, octets_between}
use Rattle.tase_replay.specs.Play.{linked_up_to, items_with, cut_steps}
use Rattle.tase_replay.specs.Play.{behind_link, play_line, ends_there}
use Rattle.tase_replay.specs.Play.{steps_of, entries_in, printed_in}
use Rattle.tase_replay.specs.PrintedLines.{ShownToPeer, shown_by}
use Rattle.tase_replay.specs.Standing.{AreOf}
use Rattle.tase_replay.specs.Ends.{IsPlayed, IsShown, TakesPart, IsClosing}
use Rattle.tase_replay.proofs.Taking.{entries_in-append, printed_in-append, shown_by-append}
use Rattle.tase_replay.proofs.Taking.{shown_by-silent}
use Rattle.tase_replay.proofs.Served.{served_taken, served_refused, served_ours, all_taken}
use Rattle.tase_replay.proofs.Served.{events_up_to, left_alone}
use Rattle.tase_replay.proofs.Entering.{IsPlayed-shown}

-- ---- events of one seat, of which nothing is printed

-- the entries of these events
abbrev pub entries_by : ℕ → List EventKind → List Entry
entries_by who events = map (λ event. entry_by event who) events

pub entries_steps : (who : ℕ) (events : List EventKind)
    → entries_in (entry_steps who events) ≡ entries_by who events
entries_steps who [] = refl
entries_steps who (event ∷ events) =
    ap (λ (es : List Entry). entry_by event who ∷ es) (entries_steps who events)

pub printed_steps : (who : ℕ) (events : List EventKind) → printed_in (entry_steps who events) ≡ []
printed_steps who [] = refl
printed_steps who (event ∷ events) = printed_steps who events

pub unsaid_steps : (who other : ℕ) (events : List EventKind)
    → shown_by other (entry_steps who events) ≡ []
unsaid_steps who other [] = refl
unsaid_steps who other (event ∷ events) =
    shown_by-append other (entry_step (entry_by event who) ∷ []) (entry_steps who events)
    ∙ ap (λ (ps : List ShownToPeer). ps ++ shown_by other (entry_steps who events))
    (shown_by-silent other (entry_step (entry_by event who)) refl refl)
    ∙ unsaid_steps who other events

pub steps-append : (who : ℕ) (first next : List EventKind)
    → entry_steps who (first ++ next) ≡ entry_steps who first ++ entry_steps who next
steps-append who first next = map-append (λ event. entry_step (entry_by event who)) first next

AreOf-append : (who : ℕ) (first next : Past) → AreOf who first → AreOf who next
    → AreOf who (first ++ next)
AreOf-append who [] next a b = b
AreOf-append who (entry ∷ first) next a b = (a.0, AreOf-append who first next a.1 b)

pub entries_own : (who : ℕ) (events : List EventKind) → AreOf who (reverse (entries_by who events))
entries_own who [] = tt
entries_own who (event ∷ events) =
    subst (λ (es : List Entry). AreOf who es)
    (sym (reverse-append (entry_by event who ∷ []) (entries_by who events)))
    (AreOf-append who (reverse (entries_by who events)) (entry_by event who ∷ [])
    (entries_own who events) (refl, tt))

-- the history behind events that a node took
pub past_served : (setup : Setup) (who : ℕ) (items : List Item) (past : Past)
    (events : List EventKind) → (served setup who items past events).past
    ≡ reverse (entries_by who (served setup who items past events).taken) ++ past
past_served setup who items past [] = refl
past_served setup who items past (event ∷ events) =
    by (refusal_of setup past who event) (end_answered items (answer_of setup past who event))
    (served setup who items (with_event who event past) events)
    (past_served setup who items (with_event who event past) events)
  where
    by : (r : Option StepFault) (left : Option ConnEnd) (more : Served)
        → more.past ≡ reverse (entries_by who more.taken) ++ with_event who event past
        → (served_by past (with_event who event past) event r left more).past
        ≡ reverse (entries_by who
        (served_by past (with_event who event past) event r left more).taken) ++ past
    by None None more e =
        e ∙ sym (append_assoc (reverse (entries_by who more.taken)) (entry_by event who ∷ []) past)
        ∙ ap (λ (es : Past). es ++ past)
        (sym (reverse-append (entry_by event who ∷ []) (entries_by who more.taken)))
    by None (Some end) more e = refl
    by (Some fault) left more e = refl

pub taken_past : (setup : Setup) (who : ℕ) (items : List Item) (past : Past)
    (taken : List EventKind) (after : Past) (left : Option ConnEnd)
    → TakesTo left setup who items past taken after
    → after ≡ reverse (entries_by who taken) ++ past
taken_past setup who items past taken after left t =
    ap (λ (s : Served). s.past) (sym t) ∙ past_served setup who items past taken
    ∙ ap (λ (s : Served). reverse (entries_by who s.taken) ++ past) t

closed_by : (past : Past) (who : ℕ) (found : Option Key)
    → (if is_some found then with_event who events.Close past else past)
    ≡ reverse (entries_by who (close_of found)) ++ past
closed_by past who None = refl
closed_by past who (Some key) = refl

-- and behind the close of an association, if one is open
pub past_closed : (who : ℕ) (past : Past) (taken : List EventKind) (between : Past)
    → between ≡ reverse (entries_by who taken) ++ past → with_closed who between
    ≡ reverse (entries_by who (taken ++ close_of (association_in between who))) ++ past
past_closed who past taken between e =
    let close = close_of (association_in between who) in
    closed_by between who (association_in between who)
    ∙ ap (λ (p : Past). reverse (entries_by who close) ++ p) e
    ∙ sym (append_assoc (reverse (entries_by who close)) (reverse (entries_by who taken)) past)
    ∙ ap (λ (es : Past). es ++ past)
    (sym (ap (λ (es : List Entry). reverse es)
    (map-append (λ event. entry_by event who) taken close)
    ∙ reverse-append (entries_by who taken) (entries_by who close)))

pub cut_past : (setup : Setup) (who : ℕ) (items : List Item) (past : Past)
    (taken : List EventKind) (between : Past) (left : Option ConnEnd)
    → TakesTo left setup who items past taken between → with_closed who between
    ≡ reverse (entries_by who (taken ++ close_of (association_in between who))) ++ past
cut_past setup who items past taken between left t =
    past_closed who past taken between (taken_past setup who items past taken between left t)

-- the history has these entries behind those that it had
pub grown_so : (who : ℕ) (history now : List Entry) (past after : Past) (events : List EventKind)
    → past ≡ reverse history → after ≡ reverse now → after ≡ reverse (entries_by who events) ++ past
    → now ≡ history ++ entries_by who events
grown_so who history now past after events e f grown =
    sym (reverse-reverse now) ∙ ap (λ (p : Past). reverse p)
    (sym f ∙ grown ∙ ap (λ (p : Past). reverse (entries_by who events) ++ p) e)
    ∙ reverse-append (reverse (entries_by who events)) (reverse history)
    ∙ ap (λ (h : List Entry). h ++ reverse (reverse (entries_by who events)))
    (reverse-reverse history)
    ∙ ap (λ (es : List Entry). history ++ es) (reverse-reverse (entries_by who events))

-- ---- which events a line asks

pub asks_more_so : (rows : CentreRows) (items : List Item) (item : Item)
    (had taken rest : List EventKind) → had ≡ asks_of rows items
    → asks_of rows (items ++ item ∷ []) ≡ (had ++ taken) ++ rest
    → asks_more rows items item ≡ taken ++ rest
asks_more_so rows items item had taken rest e f =
    ap (λ (es : List EventKind). drop (length es) (asks_of rows (items ++ item ∷ []))) (sym e)
    ∙ ap (λ (es : List EventKind). drop (length had) es) (f ∙ append_assoc had taken rest)
    ∙ drop-append_seam had (taken ++ rest)

-- ---- what a node takes of them

-- what comes of a line, by what was taken before
pub served_so : (setup : Setup) (scene : Scene) (given : SeatItem) (taken rest : List EventKind)
    (between : Past)
    → reverse (events_by given.who scene.past)
    ≡ asks_of setup.centre (items_of given.who scene.given)
    → asks_of setup.centre (items_of given.who scene.given ++ given.item ∷ [])
    ≡ (reverse (events_by given.who scene.past) ++ taken) ++ rest
    → TakesEvents setup given.who (items_with scene given) scene.past taken between
    → served_item setup scene given
    ≡ behind_taken taken (served setup given.who (items_with scene given) between rest)
served_so setup scene given taken rest between e asks t =
    let items = items_with scene given in
    ap (λ (es : List EventKind). served setup given.who items scene.past es)
    (asks_more_so setup.centre (items_of given.who scene.given) given.item
    (reverse (events_by given.who scene.past)) taken rest e asks)
    ∙ served_taken setup given.who items scene.past taken rest between t

-- where the answer to the last brings an end
pub served_left : (setup : Setup) (scene : Scene) (given : SeatItem) (taken rest : List EventKind)
    (between : Past) (end : ConnEnd)
    → reverse (events_by given.who scene.past)
    ≡ asks_of setup.centre (items_of given.who scene.given)
    → asks_of setup.centre (items_of given.who scene.given ++ given.item ∷ [])
    ≡ (reverse (events_by given.who scene.past) ++ taken) ++ rest
    → TakesTo (Some end) setup given.who (items_with scene given) scene.past taken between
    → served_item setup scene given ≡ all_taken taken between (Some end)
served_left setup scene given taken rest between end e asks t =
    let items = items_with scene given in
    ap (λ (es : List EventKind). served setup given.who items scene.past es)
    (asks_more_so setup.centre (items_of given.who scene.given) given.item
    (reverse (events_by given.who scene.past)) taken rest e asks)
    ∙ left_alone setup given.who items scene.past taken rest between end t

abbrev by_peer : CentreRows → Scene → SeatItem → Option ConnEnd
by_peer rows scene given = peer_end rows (items_of given.who scene.given ++ given.item ∷ [])

pub received_so : (setup : Setup) (scene : Scene) (given : SeatItem) (s : Served)
    → is_unfit given.who scene ≡ false → served_item setup scene given ≡ s
    → received setup scene given
    ≡ linked_by setup.centre scene given (by_peer setup.centre scene given) s s.refusal
received_so setup scene given s fit is =
    let end = by_peer setup.centre scene given in
    ap (λ (b : Bool). if b then bad else linked_by setup.centre scene given end
    (served_item setup scene given) (served_item setup scene given).refusal) fit
    ∙ ap (λ (x : Served). linked_by setup.centre scene given end x x.refusal) is

-- all were taken
pub through_so : (setup : Setup) (scene : Scene) (given : SeatItem) (taken : List EventKind)
    (after : Past) → is_unfit given.who scene ≡ false
    → reverse (events_by given.who scene.past)
    ≡ asks_of setup.centre (items_of given.who scene.given)
    → asks_of setup.centre (items_of given.who scene.given ++ given.item ∷ [])
    ≡ reverse (events_by given.who scene.past) ++ taken
    → TakesEvents setup given.who (items_with scene given) scene.past taken after
    → received setup scene given ≡ linked setup.centre scene given
    (entry_steps given.who taken) after (by_peer setup.centre scene given)
through_so setup scene given taken after fit e asks t =
    let had = reverse (events_by given.who scene.past) in
    received_so setup scene given
    (behind_taken taken (served setup given.who (items_with scene given) after [])) fit
    (served_so setup scene given taken [] after e (asks ∙ sym (append-nil (had ++ taken))) t)
    ∙ ap (λ (these : List EventKind). linked setup.centre scene given
    (entry_steps given.who these) after (by_peer setup.centre scene given)) (append-nil taken)

-- one was refused
pub refused_so : (setup : Setup) (scene : Scene) (given : SeatItem) (taken : List EventKind)
    (between : Past) (event : EventKind) (later : List EventKind) (fault : StepFault)
    → is_unfit given.who scene ≡ false
    → reverse (events_by given.who scene.past)
    ≡ asks_of setup.centre (items_of given.who scene.given)
    → asks_of setup.centre (items_of given.who scene.given ++ given.item ∷ [])
    ≡ (reverse (events_by given.who scene.past) ++ taken) ++ event ∷ later
    → TakesEvents setup given.who (items_with scene given) scene.past taken between
    → refusal_of setup between given.who event ≡ Some fault
    → received setup scene given ≡ linked_by setup.centre scene given
    (by_peer setup.centre scene given)
    (record { taken = taken; past = between; refusal = Some fault; end = None }) (Some fault)
refused_so setup scene given taken between event later fault fit e asks t is =
    received_so setup scene given
    (record { taken = taken; past = between; refusal = Some fault; end = None }) fit
    (served_so setup scene given taken (event ∷ later) between e asks t
    ∙ ap (λ (s : Served). behind_taken taken s)
    (served_refused setup given.who (items_with scene given) between event later fault is)
    ∙ ap (λ (these : List EventKind). record {
      taken = these;
      past = between;
      refusal = Some fault;
      end = None;
    }) (append-nil taken))

-- a report was too long
pub long_so : (setup : Setup) (scene : Scene) (given : SeatItem) (taken rest : List EventKind)
    (between : Past) (end : ConnEnd) → is_unfit given.who scene ≡ false
    → reverse (events_by given.who scene.past)
    ≡ asks_of setup.centre (items_of given.who scene.given)
    → asks_of setup.centre (items_of given.who scene.given ++ given.item ∷ [])
    ≡ (reverse (events_by given.who scene.past) ++ taken) ++ rest
    → TakesTo (Some end) setup given.who (items_with scene given) scene.past taken between
    → received setup scene given ≡ linked setup.centre scene given
    (entry_steps given.who (taken ++ close_of (association_in between given.who)))
    (with_closed given.who between) (Some end)
long_so setup scene given taken rest between end fit e asks t =
    received_so setup scene given (all_taken taken between (Some end)) fit
    (served_left setup scene given taken rest between end e asks t)

-- ---- memory was wanting

-- the close of an association, if one is open, is of the seat of what comes next
closing_first : (who : ℕ) (found : Option Key) (events : List EventKind) (step : Step)
    → step.who ≡ who
    → IsClosing false (entries_by who (close_of found)) (entry_steps who events ++ step ∷ [])
closing_first who None events step e = tt
closing_first who (Some key) [] step e = (refl, sym e)
closing_first who (Some key) (event ∷ events) step e = (refl, refl)

-- so where that is the close itself, behind what was taken since
closing_own : (who : ℕ) (found : Option Key) (between past : Past) (events : List EventKind)
    → association_in between who ≡ found → (events ≡ [] → past ≡ between)
    → IsClosing false (entries_by who (close_of found))
    (entry_steps who (events ++ close_of (association_in past who)))
closing_own who None between past events is same = tt
closing_own who (Some key) between past [] is same =
    subst (λ (found : Option Key). IsClosing false (entries_by who (close_of (Some key)))
    (entry_steps who (close_of found)))
    (sym (ap (λ (p : Past). association_in p who) (same refl) ∙ is)) (refl, refl)
closing_own who (Some key) between past (event ∷ events) is same = (refl, refl)

-- these steps begin with events of a seat; behind them comes a step of it where its association is
-- open, and closed for want of memory
record IsBegun (who : ℕ) (taken : List EventKind) (between : Past) (steps : List Step) : Type 0
  where
    more : List Step
    begins : steps ≡ entry_steps who taken ++ more
    closes : IsClosing false (entries_by who (close_of (association_in between who))) more

-- with the close of an association, if one is open
begun_cut : (rows : CentreRows) (scene : Scene) (given : SeatItem) (taken : List EventKind)
    (between : Past) (s : Served) (over : Option ConnEnd) (line : List ℕ) (number : ℕ)
    → IsBegun given.who taken between (steps_of (play_line line number (linked rows scene given
    (cut_steps given.who (behind_taken taken s)) (with_closed given.who s.past) over) ends_there))
begun_cut rows scene given taken between s over line number =
    let close = close_of (association_in s.past given.who) in
    let after = with_closed given.who s.past in
    let link : Step = link_step rows scene (behind_link scene after given over) given over in
    let first = entry_steps given.who taken in
    let next = entry_steps given.who (s.taken ++ close) in
    let all = entry_steps given.who ((taken ++ s.taken) ++ close) ++ link ∷ [] in
    record {
      more = next ++ link ∷ [];
      begins = append-nil (all ++ []) ∙ append-nil all
          ∙ ap (λ (es : List EventKind). entry_steps given.who es ++ link ∷ [])
          (append_assoc taken s.taken close)
          ∙ ap (λ (steps : List Step). steps ++ link ∷ [])
          (steps-append given.who taken (s.taken ++ close))
          ∙ append_assoc first next (link ∷ []);
      closes = closing_first given.who (association_in between given.who) (s.taken ++ close) link
          refl;
    }

-- by the end that the answer to the last event brings
begun_up_to : (rows : CentreRows) (scene : Scene) (given : SeatItem) (end : Option ConnEnd)
    (taken : List EventKind) (between : Past) (s : Served) (left : Option ConnEnd) (line : List ℕ)
    (number : ℕ) → IsBegun given.who taken between (steps_of (play_line line number
    (linked_up_to rows scene given end (behind_taken taken s) left) ends_there))
begun_up_to rows scene given end taken between s None line number =
    let link : Step = link_step rows scene (behind_link scene s.past given end) given end in
    let first = entry_steps given.who taken in
    let next = entry_steps given.who s.taken in
    let all = entry_steps given.who (taken ++ s.taken) ++ link ∷ [] in
    record {
      more = next ++ link ∷ [];
      begins = append-nil (all ++ []) ∙ append-nil all
          ∙ ap (λ (steps : List Step). steps ++ link ∷ []) (steps-append given.who taken s.taken)
          ∙ append_assoc first next (link ∷ []);
      closes = closing_first given.who (association_in between given.who) s.taken link refl;
    }
begun_up_to rows scene given end taken between s (Some over) line number =
    begun_cut rows scene given taken between s (Some over) line number

begun_by : (rows : CentreRows) (scene : Scene) (given : SeatItem) (end : Option ConnEnd)
    (taken : List EventKind) (between : Past) (s : Served) (r : Option StepFault) (line : List ℕ)
    (number : ℕ) → IsOurs r → (s.taken ≡ [] → s.past ≡ between)
    → IsBegun given.who taken between (steps_of (play_line line number
    (linked_by rows scene given end (behind_taken taken s) r) ends_there))
begun_by rows scene given end taken between s None line number ours same =
    begun_up_to rows scene given end taken between s s.end line number
begun_by rows scene given end taken between s (Some (faults.Stopped place)) line number ours same =
    begun_cut rows scene given taken between s (Some conn_ends.Stopped) line number
begun_by rows scene given end taken between s (Some (faults.HistoryFull weight limit)) line number
    ours same =
    let close = close_of (association_in s.past given.who) in
    record {
      more = entry_steps given.who (s.taken ++ close);
      begins = ap (λ (es : List EventKind). entry_steps given.who es)
          (append_assoc taken s.taken close)
          ∙ steps-append given.who taken (s.taken ++ close);
      closes = closing_own given.who (association_in between given.who) between s.past s.taken
          refl same;
    }
begun_by rows scene given end taken between s (Some faults.Memory) line number ours same =
    absurd ours
begun_by rows scene given end taken between s (Some faults.NoAssociation) line number ours same =
    absurd ours
begun_by rows scene given end taken between s (Some faults.Already) line number ours same =
    absurd ours
begun_by rows scene given end taken between s (Some faults.UnknownName) line number ours same =
    absurd ours
begun_by rows scene given end taken between s (Some faults.ClockRange) line number ours same =
    absurd ours
begun_by rows scene given end taken between s (Some (faults.Backward last)) line number ours same =
    absurd ours

-- what comes of a line, by what was taken before, whatever the answer to the last brings
begun_served : (setup : Setup) (scene : Scene) (given : SeatItem) (taken rest : List EventKind)
    (between : Past) (left : Option ConnEnd)
    → reverse (events_by given.who scene.past)
    ≡ asks_of setup.centre (items_of given.who scene.given)
    → AreInTurn setup.centre (reverse (events_by given.who between) ++ rest)
    → asks_of setup.centre (items_of given.who scene.given ++ given.item ∷ [])
    ≡ (reverse (events_by given.who scene.past) ++ taken) ++ rest
    → TakesTo left setup given.who (items_with scene given) scene.past taken between
    → (s : Served) × (served_item setup scene given ≡ behind_taken taken s) × IsOurs s.refusal
    × (s.taken ≡ [] → s.past ≡ between)
begun_served setup scene given taken rest between None asked turn asks t =
    let items = items_with scene given in
    let s = served setup given.who items between rest in (
      s,
      served_so setup scene given taken rest between asked asks t,
      served_ours setup given.who items between rest turn,
      λ none. past_served setup given.who items between rest
          ∙ ap (λ (es : List EventKind). reverse (entries_by given.who es) ++ between) none,
    )
begun_served setup scene given taken rest between (Some end) asked turn asks t = (
  all_taken [] between (Some end),
  served_left setup scene given taken rest between end asked asks t
      ∙ ap (λ (es : List EventKind). all_taken es between (Some end)) (sym (append-nil taken)),
  tt,
  λ none. refl,
)

-- the first events were taken, the association was closed, and nothing was printed
pub IsPlayed-begun : (setup : Setup) (line : List ℕ) (number : ℕ) (scene : Scene) (given : SeatItem)
    (history now : List Entry) (sink : SinkTold) (taken rest : List EventKind) (between after : Past)
    (left : Option ConnEnd)
    → scene.past ≡ reverse history → after ≡ reverse now → is_unfit given.who scene ≡ false
    → reverse (events_by given.who scene.past)
    ≡ asks_of setup.centre (items_of given.who scene.given)
    → AreInTurn setup.centre
    (asks_of setup.centre (items_of given.who scene.given ++ given.item ∷ []))
    → TakesTo left setup given.who (items_with scene given) scene.past taken between
    → asks_of setup.centre (items_of given.who scene.given ++ given.item ∷ [])
    ≡ reverse (events_by given.who between) ++ rest
    → after ≡ with_closed given.who between
    → IsPlayed (play_line line number (received setup scene given) ends_there) history now sink
    sink Memory
IsPlayed-begun setup line number scene given history now sink taken rest between after left e f fit
    asked turn t asks closed =
    let who = given.who in
    let items = items_with scene given in
    let steps = entry_steps who taken in
    let close = close_of (association_in between who) in
    let had : reverse (events_by who between) ≡ reverse (events_by who scene.past) ++ taken =
    events_up_to setup who items scene.past taken between left t in
    let found = begun_served setup scene given taken rest between left asked
    (subst (λ (es : List EventKind). AreInTurn setup.centre es) asks turn)
    (asks ∙ ap (λ (es : List EventKind). es ++ rest) had) t in
    let s : Served = found.0 in
    let b = begun_by setup.centre scene given (by_peer setup.centre scene given) taken between s
    s.refusal line number found.2 found.3 in
    let all = steps ++ b.more in
    let same : steps_of (play_line line number (received setup scene given) ends_there) ≡ all =
    ap (λ (m : LineMeaning). steps_of (play_line line number m ends_there))
    (received_so setup scene given (behind_taken taken s) fit found.1) ∙ b.begins in
    let whole : take (length steps) all ≡ steps =
    take-append-le (length steps) steps b.more (omega arith) ∙ take-length steps in
    let grown : now ≡ (history ++ entries_in steps) ++ entries_by who close =
    grown_so who history now scene.past after (taken ++ close) e f
    (closed ∙ cut_past setup who items scene.past taken between left t)
    ∙ ap (λ (es : List Entry). history ++ es)
    (map-append (λ event. entry_by event who) taken close
    ∙ ap (λ (es : List Entry). es ++ entries_by who close) (sym (entries_steps who taken)))
    ∙ sym (append_assoc history (entries_in steps) (entries_by who close)) in
    subst (λ (these : List Step). TakesPart these history now sink sink false) (sym same) (record {
      count = length steps;
      within = omega (arith, length-append steps b.more);
      closing = entries_by who close;
      closes = subst (λ (these : List Step). IsClosing false (entries_by who close) these)
          (sym (drop-append_seam steps b.more)) b.closes;
      entries = grown ∙ ap (λ (these : List Step). (history ++ entries_in these)
          ++ entries_by who close) (sym whole);
      shown = AppendsPart-none sink (printed_in (take (length steps) all));
    })

-- ---- the history is full

pub IsPlayed-full : (setup : Setup) (line : List ℕ) (number : ℕ) (scene : Scene) (given : SeatItem)
    (history now : List Entry) (sink : SinkTold) (taken : List EventKind) (between after : Past)
    (event : EventKind) (later : List EventKind) (weight limit : ℕ)
    → scene.past ≡ reverse history → after ≡ reverse now → is_unfit given.who scene ≡ false
    → reverse (events_by given.who scene.past)
    ≡ asks_of setup.centre (items_of given.who scene.given)
    → asks_of setup.centre (items_of given.who scene.given ++ given.item ∷ [])
    ≡ (reverse (events_by given.who scene.past) ++ taken) ++ event ∷ later
    → TakesEvents setup given.who (items_with scene given) scene.past taken between
    → refusal_of setup between given.who event ≡ Some (faults.HistoryFull weight limit)
    → after ≡ with_closed given.who between
    → IsPlayed (play_line line number (received setup scene given) ends_there) history now sink
    sink (Full weight limit)
IsPlayed-full setup line number scene given history now sink taken between after event later weight
    limit e f fit asked asks t is closed =
    let who = given.who in
    let all = taken ++ close_of (association_in between who) in
    subst (λ (m : LineMeaning). IsPlayed (play_line line number m ends_there) history now sink sink
    (Full weight limit))
    (sym (refused_so setup scene given taken between event later (faults.HistoryFull weight limit)
    fit asked asks t is)) (
      refl,
      record {
        entries = grown_so who history now scene.past after all e f
            (closed ∙ cut_past setup who (items_with scene given) scene.past taken between None t)
            ∙ ap (λ (es : List Entry). history ++ es) (sym (entries_steps who all));
        shown = subst (λ (os : List ℕ). AppendsAll sink sink os) (sym (printed_steps who all))
            (Appends-none sink);
      },
    )

-- ---- the line was taken

-- its last step has no entry
pub IsPlayed-linked : (rows : CentreRows) (line : List ℕ) (number : ℕ) (scene : Scene)
    (given : SeatItem) (history now : List Entry) (before after : SinkTold) (end : ReplayEnd)
    (events : List EventKind) (past : Past) (ended : Option ConnEnd)
    → scene.past ≡ reverse history → past ≡ reverse now
    → past ≡ reverse (entries_by given.who events) ++ scene.past
    → IsShown (link_step rows scene (behind_link scene past given ended) given ended).printed
    before after end
    → IsPlayed (play_line line number (linked rows scene given (entry_steps given.who events) past
    ended) ends_there) history now before after end
IsPlayed-linked rows line number scene given history now before after end events past ended e f q
    shown =
    let behind = behind_link scene past given ended in
    let link : Step = link_step rows scene behind given ended in
    let steps = entry_steps given.who events in
    let grown : now ≡ history ++ entries_in (steps ++ link ∷ []) =
    grown_so given.who history now scene.past past events e f q
    ∙ ap (λ (es : List Entry). history ++ es) (sym (entries_steps given.who events))
    ∙ ap (λ (es : List Entry). history ++ es)
    (sym (entries_in-append steps (link ∷ []) ∙ append-nil (entries_in steps))) in
    let text : printed_in (steps ++ link ∷ []) ≡ link.printed =
    printed_in-append steps (link ∷ [])
    ∙ ap (λ (os : List ℕ). os ++ (link.printed ++ [])) (printed_steps given.who events)
    ∙ append-nil link.printed in
    IsPlayed-shown line number (steps ++ link ∷ []) behind history now before after end grown
    (subst (λ (os : List ℕ). IsShown os before after end) (sym text) shown)

-- what the link has given then
item_here : (who : ℕ) (given : SeatItem) → given.who ≡ who → items_of who (given ∷ []) ≡ given.item ∷ []
item_here who given e = by (given.who == who) (eq-eqb given.who who e)
  where
    by : (b : Bool) → b ≡ true
        → cons_option (if b then Some given.item else None) [] ≡ given.item ∷ []
    by true e = refl
    by false e = absurd cc

pub items_behind : (who : ℕ) (lines : List SeatItem) (given : SeatItem) → given.who ≡ who
    → items_of who (lines ++ given ∷ []) ≡ items_of who lines ++ given.item ∷ []
items_behind who lines given e = filter_map-append (item_by who) lines (given ∷ [])
    ∙ ap (λ (is : List Item). items_of who lines ++ is) (item_here who given e)

-- the octets that were added
pub between_so : (rows : CentreRows) (scene : Scene) (given : SeatItem) (past : Past)
    (ended : Option ConnEnd) (added : List ℕ)
    → link_octets rows scene.past given.who (items_of given.who scene.given) ++ added
    ≡ link_octets rows past given.who (items_of given.who scene.given ++ given.item ∷ [])
    → octets_between rows given.who scene (behind_link scene past given ended) ≡ added
between_so rows scene given past ended added e =
    let who = given.who in
    let said = link_octets rows scene.past who (items_of who scene.given) in
    let all : link_octets rows past who (items_of who (scene.given ++ given ∷ []))
    ≡ said ++ added =
    ap (λ (is : List Item). link_octets rows past who is) (items_behind who scene.given given refl)
    ∙ sym e in
    ap (λ (os : List ℕ). drop (length said) os) all ∙ drop-append_seam said added

-- and the end
pub link_text : (rows : CentreRows) (scene : Scene) (given : SeatItem) (past : Past)
    (ended : Option ConnEnd) (added : List ℕ)
    → link_octets rows scene.past given.who (items_of given.who scene.given) ++ added
    ≡ link_octets rows past given.who (items_of given.who scene.given ++ given.item ∷ [])
    → (link_step rows scene (behind_link scene past given ended) given ended).printed
    ≡ line_of_out given.who added ++ line_of_end given.who ended
link_text rows scene given past ended added e =
    ap (λ (os : List ℕ). line_of_out given.who os ++ line_of_end given.who ended)
    (between_so rows scene given past ended added e)
