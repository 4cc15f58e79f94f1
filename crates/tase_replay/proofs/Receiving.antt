-- What comes of an item that a link gives.
use Rattle.std.proofs.Common.{◌≡◌, ℕ, Bool, true, false, List, [], ◌∷◌, ◌++◌, reverse}
use Rattle.std.proofs.Common.{Option, Some, None, is_some, refl, sym, ap, subst, ◌∙◌}
use Rattle.std.proofs.Common.{inl, inr}
use Rattle.std.specs.Prelude.{◌||◌, unwrap_or, option_and_then}
use Rattle.std.specs.List.{list_any}
use Rattle.std.proofs.lemmas.Bool.{eq-eqb, false≢true}
use Rattle.std.proofs.lemmas.List.{append-nil}
use Rattle.outside.specs.Sink.{SinkTold}
use Rattle.bilateral.specs.Rows.{CentreRows}
use Rattle.tase_views.specs.Setup.{Setup}
use Rattle.tase_views.specs.History.{Past, association_in}
use Rattle.tase_views.specs.Outcomes.{refusal_of}
use Rattle.tase_views.specs.declared.event.Entry.{Entry}
use Rattle.tase_views.specs.declared.event.EventKind.{EventKind}
use Rattle.tase_views.specs.declared.fault.StepFault.{StepFault}
use Rattle.tase_views.specs.declared.fault.StepFault.TheVariants as faults
use Rattle.stack_assoc.specs.Arrivals.{Arrival}
use Rattle.conn_service.specs.TaseConn.Map.Inputs.{Item, piece, idle, ended, IsLinkInput, text_given}
use Rattle.conn_service.specs.TaseConn.Map.Inputs.{link_has_ended as items_end}
use Rattle.conn_service.specs.TaseConn.Map.Readings.{reading_of}
use Rattle.stack_assoc.specs.declared.messages.fault.StackFault.{StackFault}
use Rattle.conn_service.specs.TaseConn.Map.Turns.{Turn, offers, offers_badly, asks, concludes, releases, aborts}
use Rattle.conn_service.specs.TaseConn.Map.Turns.{breaks, ends as link_ends, pauses, turns_of, turns_told}
use Rattle.conn_service.specs.TaseConn.Map.Asks.{asks_of, is_last}
use Rattle.conn_service.specs.TaseConn.Map.Out.{end_turns}
use Rattle.conn_service.specs.TaseConn.Map.Sent.{events_by}
use Rattle.conn_service.proofs.TaseConn.OfMap.InTurn.{asked_in_turn}
use Rattle.conn_service.proofs.TaseConn.OfMap.Uncut.{any_kept}
use Rattle.conn_service.specs.TaseConn.declared.stage.PendingEvent.TheVariants as askeds
use Rattle.conn_service.specs.TaseConn.declared.stage.ConnEnd.{ConnEnd}
use Rattle.conn_service.specs.TaseConn.declared.stage.ConnEnd.TheVariants as conn_ends
use Rattle.conn_service.specs.TaseConn.declared.stage.Progress.{Progress}
use Rattle.conn_service.specs.TaseConn.declared.stage.Progress.TheVariants as progresses
use Rattle.conn_service.specs.TaseConn.Talking.{Talking, pending_of, conn_end_in, IsResting, IsFree}
use Rattle.conn_service.specs.TaseConn.Places.{ConnStandsAt, Runs, Reach, GoesBy}
use Rattle.conn_service.specs.TaseConn.Taken.{TakesIn, SendsSome}
use Rattle.conn_service.specs.Courses.Serving.{IsWaiting, Serves}
use Rattle.conn_service.proofs.OfCourses.Kept.{taken_serves}
use Rattle.conn_service.proofs.OfCourses.Resumed.{sent_serves}
use Rattle.conn_service.proofs.OfCourses.Served.{has_served, all_done}
use Rattle.conn_service.proofs.OfCourses.Texts.{text_turns}
use Rattle.conn_service.proofs.OfCourses.TurnLists.{any_back}
use Rattle.conn_service.specs.Attending.{AddsPending, Attends, IsServedTo, TakesEvents, IsNodesEnd}
use Rattle.conn_service.specs.Attending.{TakesTo, IsBrought}
use Rattle.conn_service.specs.TaseConn.Map.Linked.{link_octets}
use Rattle.conn_service.specs.TaseConn.PeerEnd.{peer_end, end_at, last_turn}
use Rattle.conn_service.proofs.Closed.{cut_sends}
use Rattle.tase_replay.specs.declared.playing.ReplayEnd.{ReplayEnd}
use Rattle.tase_replay.specs.declared.playing.ReplayEnd.TheVariants.{Done, Full, Memory}
use Rattle.tase_replay.specs.Links.{SeatItem, items_of, line_of_out, line_of_end}
use Rattle.tase_replay.specs.Play.{Scene, LineMeaning, received, is_unfit, conn_has_ended, linked}
use Rattle.tase_replay.specs.Play.{behind_link, link_step, play_line, ends_there, scene_by}
use Rattle.tase_replay.specs.Play.{entry_steps, items_with}
use Rattle.conn_service.specs.Served.{with_closed}
use Rattle.conn_service.specs.Sends.{HasEvents, IsCutFor, IsSaidByEnd, first_refused, close_of}
use Rattle.tase_replay.specs.Standing.{LinkGoesOn, StandsOn, IsAwaiting, IsBehind}
use Rattle.tase_replay.specs.Ends.{IsPlayed, IsShown, end_of_cut}
use Rattle.tase_replay.proofs.Served.{events_up_to}
use Rattle.tase_replay.proofs.Linking.{entries_by, entries_own, taken_past, cut_past, through_so}
use Rattle.tase_replay.proofs.Linking.{refused_so, long_so, IsPlayed-begun, IsPlayed-full}
use Rattle.tase_replay.proofs.Linking.{IsPlayed-linked, link_text, items_behind}

-- ---- an item more

-- one may follow where the link hasn't ended
pub input_on : (items : List Item) (item : Item) → IsLinkInput items → items_end items ≡ false
    → IsLinkInput (items ++ item ∷ [])
input_on [] (piece octets) i e = tt
input_on [] idle i e = tt
input_on [] ended i e = refl
input_on (piece octets ∷ items) item i e = input_on items item i e
input_on (idle ∷ items) item i e = input_on items item i e
input_on (ended ∷ items) item i e = absurd (false≢true (sym e))

no_end : (rows : CentreRows) (b : Bool) → list_any (is_last rows) (end_turns b) ≡ false
    → b ≡ false
no_end rows true e = absurd (false≢true (sym e))
no_end rows false e = refl

-- it hasn't where the connection goes on
going_items : (rows : CentreRows) (past : Past) (who : ℕ) (items : List Item) (said : List ℕ)
    (v : Talking) (p : Progress) → (s : Serves rows past who items said None v)
    → v.progress ≡ p → IsWaiting p None → conn_end_in p ≡ None → IsResting v
    → items_end items ≡ false
going_items rows past who items said v (progresses.Running askeds.Nothing) s e w f rests =
    let r : Runs rows items s.told s.turns askeds.Nothing v =
    subst (λ (x : Progress). GoesBy x rows items s.told s.turns v) e s.stands.goes in
    let t : turns_of items ≡ s.turns =
    sym (all_done rows items s.told s.turns v rests r).seen_is ∙ append-nil s.turns in
    let told = turns_told (reading_of (text_given items)) in
    let kept : list_any (is_last rows) (told ++ end_turns (items_end items)) ≡ false =
    ap (λ (ts : List Turn). list_any (is_last rows) ts) (sym (text_turns items s.input))
    ∙ any_kept (is_last rows) refl (turns_of items)
    ∙ ap (λ (ts : List Turn). list_any (is_last rows) ts) t ∙ (ap (λ (x : Reach). x.ending) r.reached) in
    no_end rows (items_end items)
    (any_back (is_last rows) told (end_turns (items_end items)) kept)
going_items rows past who items said v (progresses.Running (askeds.Opening peer granted)) s e w f
    rests = absurd w
going_items rows past who items said v (progresses.Running (askeds.Requesting invoke)) s e w f
    rests = absurd w
going_items rows past who items said v (progresses.Running askeds.Taking) s e w f rests = absurd w
going_items rows past who items said v (progresses.Running (askeds.Closing cause)) s e w f rests =
    absurd w
going_items rows past who items said v progresses.Refused s e w f rests = absurd w
going_items rows past who items said v (progresses.Leaving end asked) s e w f rests = absurd w
going_items rows past who items said v (progresses.Ended end) s e w f rests = absurd cc
going_items rows past who items said v (progresses.Cut end) s e w f rests = absurd w

pub going_input : (rows : CentreRows) (scene : Scene) (who : ℕ) (item : Item) (v : Talking)
    → LinkGoesOn rows scene who v → IsLinkInput (items_of who scene.given ++ item ∷ [])
going_input rows scene who item v g =
    let items = items_of who scene.given in
    input_on items item g.serves.input
    (going_items rows scene.past who items (link_octets rows scene.past who items) v v.progress
    g.serves refl g.serves.waits g.unended g.resting)

pub going_awaits : (rows : CentreRows) (past : Past) (scene : Scene) (who : ℕ) (item : Item)
    (v : Talking) → scene.past ≡ past → LinkGoesOn rows scene who v
    → IsAwaiting rows past who item v
going_awaits rows past scene who item v e g =
    let items = items_of who scene.given in
    subst (λ (p : Past). IsAwaiting rows p who item v) e (
      items,
      link_octets rows scene.past who items,
      g.serves,
      going_input rows scene who item v g,
      g.resting,
    )

-- ---- taken in

-- what is to be sent is the same
abbrev adds_on : (old between new : Talking) → pending_of between ≡ pending_of old
    → AddsPending between new → AddsPending old new
adds_on old between new e a = record {
  added = a.added;
  pending = a.pending ∙ ap (λ (os : List ℕ). os ++ a.added) e;
}

attends_on : (setup : Setup) (past : Past) (who : ℕ) (items : List Item) (said : List ℕ)
    (old between new : Talking) (after : Past) → pending_of between ≡ pending_of old
    → Attends setup past who items said between after new
    → Attends setup past who items said old after new
attends_on setup past who items said old between new after e (inl a) = inl (record {
  adds = adds_on old between new e a.adds;
  taken = a.taken;
  takes = a.takes;
  asks_are = a.asks_are;
  serves = a.serves;
  resting = a.resting;
  octets = a.octets;
  end = a.end;
})
attends_on setup past who items said old between new after e (inr a) = inr (record {
  taken = a.taken;
  between = a.between;
  brought = a.brought;
  takes = a.takes;
  brings = a.brings;
  cut = record {
    adds = adds_on old between new e a.cut.adds;
    end = a.cut.end;
    by_node = a.cut.by_node;
    ended = a.cut.ended;
    others = a.cut.others;
    asks_are = a.cut.asks_are;
    cause = a.cut.cause;
    after_is = a.cut.after_is;
    none_open = a.cut.none_open;
    said_is = a.cut.said_is;
  };
})

pub received_on : (setup : Setup) (past : Past) (who : ℕ) (items : List Item) (item : Item)
    (said : List ℕ) (old between new : Talking) (after : Past)
    → (s : Serves setup.centre past who items said None old) → IsLinkInput (items ++ item ∷ [])
    → ConnStandsAt setup.centre (items ++ item ∷ []) s.told s.turns between → TakesIn old between
    → (Serves setup.centre past who (items ++ item ∷ []) said None between
    → Attends setup past who (items ++ item ∷ []) said between after new)
    → Attends setup past who (items ++ item ∷ []) said old after new
received_on setup past who items item said old between new after s i stands takes attends =
    attends_on setup past who (items ++ item ∷ []) said old between new after
    (ap (λ (v : Talking). pending_of v) takes)
    (attends (taken_serves setup.centre past who items item said old between s i stands takes))

-- ---- acted on

-- a line that was taken, up to what was printed
pub record Came (setup : Setup) (scene : Scene) (given : SeatItem) (old : Talking) (after : Past)
    (conn : Talking) : Type 0 where
  pub adds : AddsPending old conn
  pub events : List EventKind
  pub end : Option ConnEnd
  pub received_is : received setup scene given
      ≡ linked setup.centre scene given (entry_steps given.who events) after end
  pub grown : after ≡ reverse (entries_by given.who events) ++ scene.past
  pub octets : link_octets setup.centre scene.past given.who (items_of given.who scene.given)
      ++ adds.added
      ≡ link_octets setup.centre after given.who
      (items_of given.who scene.given ++ given.item ∷ [])
  pub acted : HasEvents setup after given.who
      (items_of given.who scene.given ++ given.item ∷ []) end
  pub end_is : conn_end_in conn.progress ≡ end
  pub goes : end ≡ None → Serves setup.centre after given.who
      (items_of given.who scene.given ++ given.item ∷ [])
      (link_octets setup.centre scene.past given.who (items_of given.who scene.given) ++ adds.added)
      None conn × IsResting conn

some_end : (found : Option ConnEnd) (end : ConnEnd) → found ≡ Some end → found ≡ None → ⊥
some_end found end e f = absurd cc

pub asked_so : (rows : CentreRows) (scene : Scene) (who : ℕ) (v : Talking)
    → LinkGoesOn rows scene who v
    → reverse (events_by who scene.past) ≡ asks_of rows (items_of who scene.given)
asked_so rows scene who v g =
    let items = items_of who scene.given in
    (has_served rows scene.past who items (link_octets rows scene.past who items) v g.serves
    g.resting).asked

-- what was said before an item, and what a connection came to behind it
abbrev pub AttendsAt : Setup → Scene → SeatItem → Talking → Past → Talking → Type 0
AttendsAt setup scene given old after conn =
    Attends setup scene.past given.who (items_of given.who scene.given ++ given.item ∷ [])
    (link_octets setup.centre scene.past given.who (items_of given.who scene.given)) old after conn

-- the event that a node refused, where the connection was cut for that
record RefusedNext (setup : Setup) (scene : Scene) (given : SeatItem) (taken : List EventKind)
    (between : Past) (fault : StepFault) : Type 0 where
  event : EventKind
  later : List EventKind
  asks_are : asks_of setup.centre (items_of given.who scene.given ++ given.item ∷ [])
      ≡ (reverse (events_by given.who scene.past) ++ taken) ++ event ∷ later
  refused : refusal_of setup between given.who event ≡ Some fault

none_refused : {fault : StepFault} → None ≡ Some fault → ⊥
none_refused e = absurd cc

refused_next : (setup : Setup) (scene : Scene) (given : SeatItem) (taken : List EventKind)
    (between : Past) (others : List EventKind) (fault : StepFault)
    → TakesEvents setup given.who (items_with scene given) scene.past taken between
    → asks_of setup.centre (items_of given.who scene.given ++ given.item ∷ [])
    ≡ reverse (events_by given.who between) ++ others
    → first_refused setup between given.who others ≡ Some fault
    → RefusedNext setup scene given taken between fault
refused_next setup scene given taken between [] fault takes e is = absurd (none_refused is)
refused_next setup scene given taken between (event ∷ later) fault takes e is = record {
  event = event;
  later = later;
  asks_are = e ∙ ap (λ (es : List EventKind). es ++ event ∷ later)
      (events_up_to setup given.who (items_with scene given) scene.past taken between None takes);
  refused = is;
}

-- the line is taken, and the connection has ended
cut_came : (setup : Setup) (scene : Scene) (given : SeatItem) (old conn : Talking) (after : Past)
    (end : ConnEnd)
    → (a : IsServedTo setup scene.past given.who (items_with scene given)
    (link_octets setup.centre scene.past given.who (items_of given.who scene.given)) old after conn)
    → a.cut.end ≡ end
    → link_octets setup.centre scene.past given.who (items_of given.who scene.given)
    ++ a.cut.adds.added ≡ link_octets setup.centre after given.who (items_with scene given)
    → received setup scene given ≡ linked setup.centre scene given (entry_steps given.who
    (a.taken ++ close_of (association_in a.between given.who))) (with_closed given.who a.between)
    (Some end)
    → Came setup scene given old after conn
cut_came setup scene given old conn after end a e said is =
    let who = given.who in
    let items = items_with scene given in
    let all = a.taken ++ close_of (association_in a.between who) in
    record {
      adds = a.cut.adds;
      events = all;
      end = Some end;
      received_is = is ∙ ap (λ (p : Past). linked setup.centre scene given (entry_steps who all) p
          (Some end)) (sym a.cut.after_is);
      grown = a.cut.after_is
          ∙ cut_past setup who items scene.past a.taken a.between a.brought a.takes;
      octets = said;
      acted = subst (λ (x : ConnEnd). HasEvents setup after who items (Some x)) e
          (cut_sends setup a.between who items
          (link_octets setup.centre scene.past who (items_of who scene.given)) old after conn
          a.cut).events;
      end_is = ap (λ (p : Progress). conn_end_in p) a.cut.ended
          ∙ ap (λ (x : ConnEnd). Some x) e;
      goes = λ none. absurd (some_end (Some end) end refl none);
    }

-- it is taken unless the connection was cut for a full history, or for want of memory
came_cut : (setup : Setup) (scene : Scene) (given : SeatItem) (old conn : Talking) (after : Past)
    (end : ConnEnd) → LinkGoesOn setup.centre scene given.who old
    → is_unfit given.who scene ≡ false
    → (a : IsServedTo setup scene.past given.who (items_of given.who scene.given ++ given.item ∷ [])
    (link_octets setup.centre scene.past given.who (items_of given.who scene.given)) old after conn)
    → a.cut.end ≡ end → IsNodesEnd end → end_of_cut (Some end) ≡ None
    → Came setup scene given old after conn
came_cut setup scene given old conn after conn_ends.Stopped g fit a e node goes =
    let who = given.who in
    let items = items_with scene given in
    let cause : IsCutFor setup a.between who items conn_ends.Stopped
    (first_refused setup a.between who a.cut.others) =
    subst (λ (x : ConnEnd). IsCutFor setup a.between who items x
    (first_refused setup a.between who a.cut.others)) e a.cut.cause in
    let none : a.brought ≡ None = subst (λ (x : ConnEnd). IsBrought x a.brought) e a.brings in
    let takes : TakesEvents setup who items scene.past a.taken a.between =
    subst (λ (o : Option ConnEnd). TakesTo o setup who items scene.past a.taken a.between) none
    a.takes in
    let r = refused_next setup scene given a.taken a.between a.cut.others (faults.Stopped cause.0)
    takes a.cut.asks_are cause.1 in
    cut_came setup scene given old conn after conn_ends.Stopped a e
    (subst (λ (x : ConnEnd). IsSaidByEnd items (Some x)
    (link_octets setup.centre scene.past who (items_of who scene.given) ++ a.cut.adds.added)
    (link_octets setup.centre after who items)) e a.cut.said_is)
    (refused_so setup scene given a.taken a.between r.event r.later (faults.Stopped cause.0) fit
    (asked_so setup.centre scene who old g) r.asks_are takes r.refused)
came_cut setup scene given old conn after (conn_ends.TooLong len detail) g fit a e node goes =
    let who = given.who in
    let items = items_with scene given in
    let end = conn_ends.TooLong len detail in
    let long : a.brought ≡ Some end =
    subst (λ (x : ConnEnd). IsBrought x a.brought) e a.brings in
    let takes : TakesTo (Some end) setup who items scene.past a.taken a.between =
    subst (λ (o : Option ConnEnd). TakesTo o setup who items scene.past a.taken a.between) long
    a.takes in
    cut_came setup scene given old conn after end a e
    (subst (λ (x : ConnEnd). IsSaidByEnd items (Some x)
    (link_octets setup.centre scene.past who (items_of who scene.given) ++ a.cut.adds.added)
    (link_octets setup.centre after who items)) e a.cut.said_is)
    (long_so setup scene given a.taken a.cut.others a.between end fit
    (asked_so setup.centre scene who old g)
    (a.cut.asks_are ∙ ap (λ (es : List EventKind). es ++ a.cut.others)
    (events_up_to setup who items scene.past a.taken a.between (Some end) takes)) takes)
came_cut setup scene given old conn after (conn_ends.Full weight limit) g fit a e node goes =
    absurd cc
came_cut setup scene given old conn after conn_ends.Memory g fit a e node goes = absurd cc
came_cut setup scene given old conn after (conn_ends.Overflow pending limit) g fit a e node goes =
    absurd node
came_cut setup scene given old conn after conn_ends.LinkFault g fit a e node goes = absurd node
came_cut setup scene given old conn after conn_ends.Finished g fit a e node goes = absurd node
came_cut setup scene given old conn after conn_ends.PeerEnd g fit a e node goes = absurd node
came_cut setup scene given old conn after conn_ends.Declined g fit a e node goes = absurd node
came_cut setup scene given old conn after (conn_ends.Refused fault) g fit a e node goes =
    absurd node

pub came : (setup : Setup) (scene : Scene) (given : SeatItem) (old conn : Talking) (after : Past)
    → LinkGoesOn setup.centre scene given.who old → is_unfit given.who scene ≡ false
    → AttendsAt setup scene given old after conn → end_of_cut (conn_end_in conn.progress) ≡ None
    → Came setup scene given old after conn
came setup scene given old conn after g fit (inl t) none =
    let who = given.who in
    let items = items_of who scene.given ++ given.item ∷ [] in
    record {
      adds = t.adds;
      events = t.taken;
      end = peer_end setup.centre items;
      received_is = through_so setup scene given t.taken after fit
          (asked_so setup.centre scene who old g) t.asks_are t.takes;
      grown = taken_past setup who items scene.past t.taken after None t.takes;
      octets = t.octets;
      acted = inl (record {
        events = events_up_to setup who items scene.past t.taken after None t.takes
            ∙ sym t.asks_are;
        by_peer = refl;
      });
      end_is = t.end;
      goes = λ e. (t.serves, t.resting);
    }
came setup scene given old conn after g fit (inr c) none =
    came_cut setup scene given old conn after c.cut.end g fit c refl c.cut.by_node
    (ap (λ (p : Progress). end_of_cut (conn_end_in p)) (sym c.cut.ended) ∙ none)

-- ---- printed

pub came_played : (setup : Setup) (line : List ℕ) (number : ℕ) (scene : Scene) (given : SeatItem)
    (history now : List Entry) (before after : SinkTold) (end : ReplayEnd) (old conn : Talking)
    (past : Past) → scene.past ≡ reverse history → past ≡ reverse now
    → LinkGoesOn setup.centre scene given.who old → Came setup scene given old past conn
    → IsShown (line_of_out given.who (pending_of conn)
    ++ line_of_end given.who (conn_end_in conn.progress)) before after end
    → IsPlayed (play_line line number (received setup scene given) ends_there) history now before
    after end
came_played setup line number scene given history now before after end old conn past e f g c shown =
    let who = given.who in
    let added = c.adds.added in
    let pending : pending_of conn ≡ added =
    c.adds.pending ∙ ap (λ (os : List ℕ). os ++ added) g.printed in
    let text : line_of_out who (pending_of conn) ++ line_of_end who (conn_end_in conn.progress)
    ≡ (link_step setup.centre scene (behind_link scene past given c.end) given c.end).printed =
    ap (λ (os : List ℕ). line_of_out who os ++ line_of_end who (conn_end_in conn.progress)) pending
    ∙ ap (λ (o : Option ConnEnd). line_of_out who added ++ line_of_end who o) c.end_is
    ∙ sym (link_text setup.centre scene given past c.end added c.octets) in
    subst (λ (m : LineMeaning). IsPlayed (play_line line number m ends_there) history now before after
    end) (sym c.received_is)
    (IsPlayed-linked setup.centre line number scene given history now before after end c.events past
    c.end e f c.grown (subst (λ (os : List ℕ). IsShown os before after end) text shown))

-- where its connection stands then
rests_sent : (old new : Talking) → SendsSome old new → IsResting old → IsResting new
rests_sent old new same r = record {
  read = ap (λ (v : Talking). v.behind) same ∙ r.read;
  acted = ap (λ (v : Talking). v.held) same ∙ r.acted;
  free = subst (λ (p : Progress). IsFree p) (sym (ap (λ (v : Talking). v.progress) same)) r.free;
}

stands_by : (setup : Setup) (scene : Scene) (given : SeatItem) (old conn new : Talking) (past : Past)
    (end : Option ConnEnd) → LinkGoesOn setup.centre scene given.who old
    → (c : Came setup scene given old past conn) → c.end ≡ end
    → (c.end ≡ None → Serves setup.centre past given.who
    (items_of given.who scene.given ++ given.item ∷ [])
    (link_octets setup.centre scene.past given.who (items_of given.who scene.given)
    ++ c.adds.added) None new) → SendsSome conn new → pending_of new ≡ []
    → StandsOn setup.centre (behind_link scene past given end) given.who new
stands_by setup scene given old conn new past None g c e serves same sent =
    let rows = setup.centre in
    let who = given.who in
    let items = items_of who scene.given ++ given.item ∷ [] in
    let there = items_behind who scene.given given refl in
    let shown : conn_end_in new.progress ≡ None =
    ap (λ (v : Talking). conn_end_in v.progress) same ∙ c.end_is ∙ e in
    inl (record {
      serves = subst (λ (is : List Item). Serves rows past who is (link_octets rows past who is)
          None new) (sym there)
          (subst (λ (os : List ℕ). Serves rows past who items os None new) c.octets (serves e));
      resting = rests_sent conn new same (c.goes e).1;
      printed = sent;
      unended = shown;
      shown = g.shown;
    })
stands_by setup scene given old conn new past (Some end) g c e serves same sent =
    let who = given.who in
    inr (record {
      ended = ap (λ (v : Talking). is_some (conn_end_in v.progress)) same
          ∙ ap (λ (o : Option ConnEnd). is_some o) (c.end_is ∙ e);
      shown = ap (λ (b : Bool). b || conn_has_ended who scene) (eq-eqb who who refl);
    })

pub came_behind : (setup : Setup) (scene : Scene) (given : SeatItem) (now : List Entry)
    (old conn new : Talking) (past : Past) → past ≡ reverse now
    → LinkGoesOn setup.centre scene given.who old → (c : Came setup scene given old past conn)
    → ((items : List Item) (told : List Arrival) (turns : List Turn)
    → ConnStandsAt setup.centre items told turns conn → ConnStandsAt setup.centre items told turns new)
    → SendsSome conn new → pending_of new ≡ []
    → IsBehind setup.centre scene given (scene_by scene (received setup scene given)) now new
came_behind setup scene given now old conn new past f g c stands same sent =
    let rows = setup.centre in
    let who = given.who in
    let items = items_of who scene.given ++ given.item ∷ [] in
    let said = link_octets rows scene.past who (items_of who scene.given) ++ c.adds.added in
    let after : scene_by scene (received setup scene given) ≡ behind_link scene past given c.end =
    ap (λ (m : LineMeaning). scene_by scene m) c.received_is in
    let serves : c.end ≡ None → Serves rows past who items said None new =
    λ e. let s = (c.goes e).0 in
    sent_serves rows past who items said None conn new s (stands items s.told s.turns s.stands)
    same in
    record {
      entries = reverse (entries_by who c.events);
      own = entries_own who c.events;
      end = c.end;
      after_is = after ∙ ap (λ (p : Past). behind_link scene p given c.end) c.grown;
      past_is = ap (λ (s : Scene). s.past) after ∙ f;
      stands = subst (λ (s : Scene). StandsOn rows s who new) (sym after)
          (stands_by setup scene given old conn new past c.end g c refl serves same sent);
    }

-- ---- cut for a full history, or for want of memory

cut_played : (setup : Setup) (line : List ℕ) (number : ℕ) (scene : Scene) (given : SeatItem)
    (history now : List Entry) (sink : SinkTold) (over : ConnEnd) (end : ReplayEnd)
    (old conn : Talking) (past : Past) → scene.past ≡ reverse history → past ≡ reverse now
    → LinkGoesOn setup.centre scene given.who old → is_unfit given.who scene ≡ false
    → (a : IsServedTo setup scene.past given.who (items_of given.who scene.given ++ given.item ∷ [])
    (link_octets setup.centre scene.past given.who (items_of given.who scene.given)) old past conn)
    → a.cut.end ≡ over → end_of_cut (Some over) ≡ Some end
    → IsPlayed (play_line line number (received setup scene given) ends_there) history now sink
    sink end
cut_played setup line number scene given history now sink (conn_ends.Full weight limit) end old conn
    past e f g fit a is ends =
    let who = given.who in
    let cause : first_refused setup a.between who a.cut.others
    ≡ Some (faults.HistoryFull weight limit) =
    subst (λ (x : ConnEnd). IsCutFor setup a.between who
    (items_of who scene.given ++ given.item ∷ []) x
    (first_refused setup a.between who a.cut.others)) is a.cut.cause in
    let none : a.brought ≡ None = subst (λ (x : ConnEnd). IsBrought x a.brought) is a.brings in
    let takes : TakesEvents setup who (items_with scene given) scene.past a.taken a.between =
    subst (λ (o : Option ConnEnd). TakesTo o setup who (items_with scene given) scene.past a.taken
    a.between) none a.takes in
    let r = refused_next setup scene given a.taken a.between a.cut.others
    (faults.HistoryFull weight limit) takes a.cut.asks_are cause in
    subst (λ (x : ReplayEnd). IsPlayed (play_line line number (received setup scene given) ends_there)
    history now sink sink x) (end_is (Full weight limit) end ends)
    (IsPlayed-full setup line number scene given history now sink a.taken a.between past r.event
    r.later weight limit e f fit (asked_so setup.centre scene who old g) r.asks_are takes r.refused
    a.cut.after_is)
  where
    end_is : (x y : ReplayEnd) → Some x ≡ Some y → x ≡ y
    end_is x y same = ap (λ (o : Option ReplayEnd). unwrap_or o x) same
cut_played setup line number scene given history now sink conn_ends.Memory end old conn past e f g
    fit a is ends =
    subst (λ (x : ReplayEnd). IsPlayed (play_line line number (received setup scene given) ends_there)
    history now sink sink x) (end_is Memory end ends)
    (IsPlayed-begun setup line number scene given history now sink a.taken a.cut.others a.between past
    a.brought e f fit (asked_so setup.centre scene given.who old g)
    (asked_in_turn setup.centre (items_of given.who scene.given ++ given.item ∷ [])
    (going_input setup.centre scene given.who given.item old g)) a.takes a.cut.asks_are
    a.cut.after_is)
  where
    end_is : (x y : ReplayEnd) → Some x ≡ Some y → x ≡ y
    end_is x y same = ap (λ (o : Option ReplayEnd). unwrap_or o x) same
cut_played setup line number scene given history now sink conn_ends.Stopped end old conn past e f g
    fit a is ends = absurd cc
cut_played setup line number scene given history now sink (conn_ends.TooLong len detail) end old
    conn past e f g fit a is ends = absurd cc
cut_played setup line number scene given history now sink (conn_ends.Overflow pending limit) end old
    conn past e f g fit a is ends = absurd cc
cut_played setup line number scene given history now sink conn_ends.LinkFault end old conn past e f
    g fit a is ends = absurd cc
cut_played setup line number scene given history now sink conn_ends.Finished end old conn past e f g
    fit a is ends = absurd cc
cut_played setup line number scene given history now sink conn_ends.PeerEnd end old conn past e f g
    fit a is ends = absurd cc
cut_played setup line number scene given history now sink conn_ends.Declined end old conn past e f g
    fit a is ends = absurd cc
cut_played setup line number scene given history now sink (conn_ends.Refused fault) end old conn
    past e f g fit a is ends = absurd cc

-- a peer's end is none of these
uncut_end : (rows : CentreRows) (items : List Item) (end : ReplayEnd)
    → end_of_cut (peer_end rows items) ≡ Some end → ⊥
uncut_end rows items end e =
    by (last_turn rows (turns_of items)) e
  where
    at : (turn : Turn) (broken : Option StackFault) → end_of_cut (end_at broken turn) ≡ Some end → ⊥
    at (offers title) broken e = absurd cc
    at offers_badly broken e = absurd cc
    at (asks invoke call) broken e = absurd cc
    at concludes broken e = absurd cc
    at releases broken e = absurd cc
    at aborts broken e = absurd cc
    at breaks None e = absurd cc
    at breaks (Some fault) e = absurd cc
    at link_ends broken e = absurd cc
    at pauses broken e = absurd cc

    by : (last : Option Turn)
        → end_of_cut (option_and_then (end_at (reading_of (text_given items)).broken) last)
        ≡ Some end → ⊥
    by None e = absurd cc
    by (Some turn) e = at turn (reading_of (text_given items)).broken e

pub ended_played : (setup : Setup) (line : List ℕ) (number : ℕ) (scene : Scene) (given : SeatItem)
    (history now : List Entry) (sink : SinkTold) (end : ReplayEnd) (old conn : Talking)
    (past : Past) → scene.past ≡ reverse history → past ≡ reverse now
    → LinkGoesOn setup.centre scene given.who old → is_unfit given.who scene ≡ false
    → AttendsAt setup scene given old past conn → end_of_cut (conn_end_in conn.progress) ≡ Some end
    → IsPlayed (play_line line number (received setup scene given) ends_there) history now sink
    sink end
ended_played setup line number scene given history now sink end old conn past e f g fit (inl t) ends =
    absurd (uncut_end setup.centre (items_of given.who scene.given ++ given.item ∷ []) end
    (ap (λ (o : Option ConnEnd). end_of_cut o) (sym t.end) ∙ ends))
ended_played setup line number scene given history now sink end old conn past e f g fit (inr a) ends =
    cut_played setup line number scene given history now sink a.cut.end end old conn past e f g fit a
    refl (ap (λ (p : Progress). end_of_cut (conn_end_in p)) (sym a.cut.ended) ∙ ends)

-- no line was taken with such an end
pub never_cut : (found : Option ConnEnd) → end_of_cut found ≡ Some Done → ⊥
never_cut None e = absurd cc
never_cut (Some (conn_ends.Full weight limit)) e = absurd cc
never_cut (Some conn_ends.Memory) e = absurd cc
never_cut (Some conn_ends.Stopped) e = absurd cc
never_cut (Some (conn_ends.TooLong len detail)) e = absurd cc
never_cut (Some (conn_ends.Overflow pending limit)) e = absurd cc
never_cut (Some conn_ends.LinkFault) e = absurd cc
never_cut (Some conn_ends.Finished) e = absurd cc
never_cut (Some conn_ends.PeerEnd) e = absurd cc
never_cut (Some conn_ends.Declined) e = absurd cc
never_cut (Some (conn_ends.Refused fault)) e = absurd cc

-- ---- over a node's history

pub attended_of : (setup : Setup) (past : Past) (scene : Scene) (given : SeatItem)
    (old new : Talking) (after : Past) → scene.past ≡ past
    → LinkGoesOn setup.centre scene given.who old
    → ((items : List Item) (said : List ℕ) → Serves setup.centre past given.who items said None old
    → IsLinkInput (items ++ given.item ∷ [])
    → Attends setup past given.who (items ++ given.item ∷ []) said old after new)
    → AttendsAt setup scene given old after new
attended_of setup past scene given old new after e g f =
    let rows = setup.centre in
    let who = given.who in
    let items = items_of who scene.given in
    let said = link_octets rows scene.past who items in
    subst (λ (p : Past). Attends setup p who (items ++ given.item ∷ []) said old after new) (sym e)
    (f items said (subst (λ (p : Past). Serves rows p who items said None old) e g.serves)
    (going_input rows scene who given.item old g))
