-- A connection has acted on all that its link gave, or has ended.
use Rattle.std.proofs.Common.{◌≡◌, ℕ, false, List, [], ◌∷◌, ◌++◌, Option, Some, None}
use Rattle.std.proofs.Common.{refl, sym, ap, subst, ◌∙◌, inl, inr, append_assoc}
use Rattle.std.specs.Prelude.{option_and_then}
use Rattle.std.specs.List.{list_any}
use Rattle.std.proofs.lemmas.Bool.{false≢true}
use Rattle.std.proofs.lemmas.List.{append-nil}
use mathlib.Core.List.{IsPrefix}
use Rattle.bilateral.specs.Rows.{CentreRows}
use Rattle.stack_assoc.specs.declared.messages.fault.StackFault.{StackFault}
use Rattle.outside.specs.Links.LinkAnswers.{Received, piece, idle, ended, failed, LinkAnswer}
use Rattle.outside.specs.Links.Links.{LinkTold}
use Rattle.share_turn.specs.Entries.{Each}
use Rattle.tase_views.specs.History.{Past}
use Rattle.tase_conn.specs.Map.Inputs.{Item, text_given}
use Rattle.tase_conn.specs.Map.Inputs.{piece as piece_item, idle as idle_item, ended as ended_item}
use Rattle.tase_conn.specs.Map.Readings.{reading_of}
use Rattle.tase_conn.specs.Map.Turns.{Turn, turns_of, turns_from, turns_at, turns_between}
use Rattle.tase_conn.specs.Map.Turns as turns
use Rattle.tase_conn.specs.Map.Asks.{is_last}
use Rattle.tase_conn.specs.Map.Linked.{link_octets}
use Rattle.tase_conn.specs.declared.stage.ConnEnd.{ConnEnd}
use Rattle.tase_conn.specs.declared.stage.ConnEnd.TheVariants as conn_ends
use Rattle.tase_conn.specs.declared.stage.PendingEvent.TheVariants as askeds
use Rattle.tase_conn.specs.declared.stage.Progress.{Progress}
use Rattle.tase_conn.specs.declared.stage.Progress.TheVariants as progresses
use Rattle.tase_conn.specs.PeerEnd.{end_at, peer_end, last_turn}
use Rattle.tase_conn.specs.Talking.{Talking, pending_of, conn_end_in, IsResting}
use Rattle.conn_service.specs.Courses.Serving.{Serves, IsWaiting}
use Rattle.conn_service.specs.Sends.{IsSaidByEnd}
use Rattle.conn_service.specs.Attending.{IsNodesEnd}
use Rattle.conn_service.proofs.Closed.{said_whole}
use Rattle.conn_service.proofs.OfCourses.Seats.{goes_at}
use Rattle.conn_service.proofs.OfCourses.Served.{all_done}
use Rattle.conn_service.proofs.OfCourses.TurnLists.{any_front, any_back}
use Rattle.tase_conn.specs.Places.{Reach}
use Rattle.node_server.specs.declared.turn.turn_node.NodeSetup.{NodeSetup}
use Rattle.node_server.specs.Turn.Logged.{past_in}
use Rattle.node_server.specs.NodeCalls.{NodeLog}
use Rattle.node_server.specs.Seats.Serving.{shared_setup, RestsServed, IsCutBySeat}
use Rattle.node_server.specs.Seats.Serving.{SeatAttends}
use Rattle.node_server.specs.Seats.Peers.{HasItsPeer}
use Rattle.node_server.specs.Links.GivenItems.{items_given, items_of, MayGoOn}
use Rattle.node_server.specs.Links.ServedLinks.{HasActedOn}
use Rattle.node_server.specs.Links.Turns.{HasGiven, IsUnderWay, IsToSend, HasCome, IsOwnEnd}
use Rattle.node_server.specs.Links.Turns.{IsToSendBy}
use Rattle.node_server.proofs.OfLinks.InTurn.{came_later}
use Rattle.node_server.proofs.OfLinks.Left.{cut_sends}

-- ---- ends

nodes_own : (end : ConnEnd) → IsNodesEnd end → IsOwnEnd end
nodes_own (conn_ends.TooLong len detail) is = tt
nodes_own conn_ends.Stopped is = tt
nodes_own (conn_ends.Full weight limit) is = tt
nodes_own conn_ends.Memory is = tt
nodes_own conn_ends.LinkFault is = absurd is
nodes_own (conn_ends.Overflow pending limit) is = absurd is
nodes_own conn_ends.Finished is = tt
nodes_own conn_ends.PeerEnd is = tt
nodes_own conn_ends.Declined is = tt
nodes_own (conn_ends.Refused fault) is = tt

-- an end that a peer brings is one of its own
abbrev IsOwnIf : Option ConnEnd → Type 0
IsOwnIf None = Unit {0}
IsOwnIf (Some end) = IsOwnEnd end

own_refused : (broken : Option StackFault) → IsOwnIf (end_at broken turns.breaks)
own_refused None = tt
own_refused (Some fault) = tt

own_at : (broken : Option StackFault) (turn : Turn) → IsOwnIf (end_at broken turn)
own_at broken (turns.offers title) = tt
own_at broken turns.offers_badly = tt
own_at broken (turns.asks invoke call) = tt
own_at broken turns.concludes = tt
own_at broken turns.releases = tt
own_at broken turns.aborts = tt
own_at broken turns.breaks = own_refused broken
own_at broken turns.ends = tt
own_at broken turns.pauses = tt

own_of : (broken : Option StackFault) (last : Option Turn)
    → IsOwnIf (option_and_then (end_at broken) last)
own_of broken None = tt
own_of broken (Some turn) = own_at broken turn

peers_own : (rows : CentreRows) (items : List Item) (end : ConnEnd)
    → peer_end rows items ≡ Some end → IsOwnEnd end
peers_own rows items end is = subst IsOwnIf is
    (own_of (reading_of (text_given items)).broken (last_turn rows (turns_of items)))

-- ---- whether it goes on

running_by : (p : Progress) → IsWaiting p None → conn_end_in p ≡ None
    → p ≡ progresses.Running askeds.Nothing
running_by (progresses.Running askeds.Nothing) w none = refl
running_by (progresses.Running (askeds.Opening peer offered)) w none = absurd w
running_by (progresses.Running (askeds.Requesting invoke)) w none = absurd w
running_by (progresses.Running askeds.Taking) w none = absurd w
running_by (progresses.Running (askeds.Closing cause)) w none = absurd w
running_by progresses.Refused w none = absurd w
running_by (progresses.Leaving end asked) w none = absurd w
running_by (progresses.Ended end) w none = absurd cc
running_by (progresses.Cut end) w none = absurd w

-- all was acted on by then
acted_all : (end : ConnEnd) (items : List Item) → HasActedOn end items items
acted_all conn_ends.Finished items = refl
acted_all conn_ends.PeerEnd items = refl
acted_all conn_ends.Declined items = refl
acted_all (conn_ends.Refused fault) items = refl
acted_all (conn_ends.TooLong len detail) items = refl
acted_all (conn_ends.Overflow pending limit) items = refl
acted_all conn_ends.LinkFault items = refl
acted_all conn_ends.Stopped items = refl
acted_all (conn_ends.Full weight limit) items = refl
acted_all conn_ends.Memory items = inl refl

-- ---- the octets

-- what was said before the node was asked, what was added, and what waits then
said_on : (taken before added now : List ℕ) → now ≡ before ++ added
    → (taken ++ before) ++ added ≡ taken ++ now
said_on taken before added now is =
    append_assoc taken before added ∙ ap (λ (l : List ℕ). taken ++ l) (sym is)

module _ (setup : NodeSetup) (who : ℕ) (log longer : NodeLog) (start used : LinkTold)
    (v new : Talking) (w : IsUnderWay setup who log start used v) (more : IsPrefix log longer) where
  -- the peer has ended it
  ended_by_peer : (end : ConnEnd)
      → (r : RestsServed (shared_setup setup) who (items_of w.given) (w.taken ++ pending_of v) v
      (past_in longer) new)
      → conn_end_in new.progress ≡ Some end → HasCome setup who longer start used new end
  ended_by_peer end r is =
      let items = items_of w.given in
      let all = link_octets setup.centre (past_in longer) who items in
      let by_peer : peer_end setup.centre items ≡ Some end = sym r.end ∙ is in
      let octets : w.taken ++ pending_of new ≡ all =
      sym (said_on w.taken (pending_of v) r.adds.added (pending_of new) r.adds.pending)
      ∙ r.octets in
      record {
        given = w.given;
        taken = w.taken;
        first = w.first;
        now = w.now;
        uses = w.uses;
        own_end = peers_own setup.centre items end by_peer;
        acted = items;
        acted_is = acted_all end items;
        sends = record {
          events = inl (record { events = r.events; by_peer = by_peer });
          said = subst (λ (l : List ℕ). IsSaidByEnd items (Some end) l all) (sym octets)
              (said_whole items (Some end) all);
        };
        in_turn = came_later setup.centre who w.first.sent log longer [] w.given more w.in_turn;
      }

  -- it was cut
  pub cut_has_come : (end : ConnEnd) → IsOwnEnd end
      → (c : IsCutBySeat (shared_setup setup) who (items_of w.given) (w.taken ++ pending_of v) end
      v (past_in longer) new)
      → HasCome setup who longer start used new end
  cut_has_come end own_end c =
      let items = items_of w.given in record {
        given = w.given;
        taken = w.taken;
        first = w.first;
        now = w.now;
        uses = w.uses;
        own_end = own_end;
        acted = items;
        acted_is = acted_all end items;
        sends = cut_sends (shared_setup setup) who items w.taken (pending_of v) end v
            (past_in longer) new refl c;
        in_turn = came_later setup.centre who w.first.sent log longer [] w.given more w.in_turn;
      }

-- ---- nothing follows an end

no_last : (rows : CentreRows) (past : Past) (who : ℕ) (items : List Item) (octets : List ℕ)
    (v : Talking) → Serves rows past who items octets None v
    → v.progress ≡ progresses.Running askeds.Nothing → IsResting v
    → list_any (is_last rows) (turns_of items) ≡ false
no_last rows past who items octets v s p at =
    let r = goes_at s.stands p in
    let d = all_done rows items s.told s.turns v at r in
    let t : turns_of items ≡ s.turns = sym d.seen_is ∙ append-nil s.turns in
    ap (λ (ts : List Turn). list_any (is_last rows) ts) t ∙ ap (λ (x : Reach). x.ending) r.reached

first_goes : (rows : CentreRows) (before items : List Item) (received : Received)
    → (received ≡ failed → ⊥)
    → list_any (is_last rows) (turns_from before (items_given received ++ items)) ≡ false
    → MayGoOn received × ((next : List Item)
    × (list_any (is_last rows) (turns_from next items) ≡ false))
first_goes rows before items (piece octets) has none = (
  tt,
  (
    before ++ piece_item octets ∷ [],
    any_back (is_last rows) (turns_at before (piece_item octets))
        (turns_from (before ++ piece_item octets ∷ []) items) none,
  ),
)
first_goes rows before items idle has none = (
  tt,
  (
    before ++ idle_item ∷ [],
    any_back (is_last rows) (turns_at before idle_item)
        (turns_from (before ++ idle_item ∷ []) items) none,
  ),
)
first_goes rows before items ended has none =
    let now = turns_between (reading_of (text_given before))
    (reading_of (text_given (before ++ ended_item ∷ []))) in
    absurd (false≢true (sym (any_back (is_last rows) now (turns.ends ∷ [])
    (any_front (is_last rows) (now ++ turns.ends ∷ [])
    (turns_from (before ++ ended_item ∷ []) items) none))))
first_goes rows before items failed has none = absurd (has refl)

all_go : (rows : CentreRows) (before : List Item) (given : List LinkAnswer) → Each HasGiven given
    → list_any (is_last rows) (turns_from before (items_of given)) ≡ false
    → Each (λ (answer : LinkAnswer). MayGoOn answer.received) given
all_go rows before [] has none = tt
all_go rows before (answer ∷ given) has none =
    let f = first_goes rows before (items_of given) answer.received has.0 none in
    (f.0, all_go rows f.1.0 given has.1 f.1.1)

-- ---- behind what the node was asked

module _ (setup : NodeSetup) (who : ℕ) (log longer : NodeLog) (start used : LinkTold)
    (v new : Talking) (w : IsUnderWay setup who log start used v) (more : IsPrefix log longer)
    (peer : HasItsPeer (past_in longer) who new) where
  goes_on : (r : RestsServed (shared_setup setup) who (items_of w.given) (w.taken ++ pending_of v) v
      (past_in longer) new)
      → conn_end_in new.progress ≡ None → IsToSend setup who longer start used new
  goes_on r is =
      let items = items_of w.given in
      let octets = (w.taken ++ pending_of v) ++ r.adds.added in
      let p = running_by new.progress r.serves.waits is in record {
        way = record {
          given = w.given;
          taken = w.taken;
          first = w.first;
          now = w.now;
          uses = w.uses;
          has_given = w.has_given;
          serves = subst (λ (l : List ℕ). Serves setup.centre (past_in longer) who items l None new)
              (said_on w.taken (pending_of v) r.adds.added (pending_of new) r.adds.pending)
              r.serves;
          in_turn = came_later setup.centre who w.first.sent log longer [] w.given more w.in_turn;
          running = p;
          peer = peer;
        };
        more = all_go setup.centre [] w.given w.has_given
            (no_last setup.centre (past_in longer) who items octets new r.serves p r.resting);
        resting = r.resting;
      }

  rested : (result : Option ConnEnd)
      → RestsServed (shared_setup setup) who (items_of w.given) (w.taken ++ pending_of v) v
      (past_in longer) new
      → result ≡ conn_end_in new.progress → IsToSendBy result setup who longer start used new
  rested None r is = goes_on r (sym is)
  rested (Some end) r is = ended_by_peer setup who log longer start used v new w more end r (sym is)

  cut_by : (result : Option ConnEnd) (end : ConnEnd) → IsNodesEnd end
      → IsCutBySeat (shared_setup setup) who (items_of w.given) (w.taken ++ pending_of v) end v
      (past_in longer) new
      → result ≡ conn_end_in new.progress → IsToSendBy result setup who longer start used new
  cut_by result end own_end c is =
      subst (λ (o : Option ConnEnd). IsToSendBy o setup who longer start used new)
      (sym (is ∙ ap conn_end_in c.ended))
      (cut_has_come setup who log longer start used v new w more end (nodes_own end own_end) c)

  pub handled : (result : Option ConnEnd)
      → SeatAttends (shared_setup setup) who (items_of w.given) (w.taken ++ pending_of v) v
      (past_in longer) new
      → result ≡ conn_end_in new.progress → IsToSendBy result setup who longer start used new
  handled result (inl r) is = rested result r is
  handled result (inr c) is = cut_by result c.0 c.1 c.2 is
