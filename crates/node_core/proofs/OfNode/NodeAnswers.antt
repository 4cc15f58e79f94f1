-- What the answers of a node's functions have in common.
use Rattle.std.proofs.Common.{◌≡◌, ◌^◌, ◌≤◌, ◌<◌, ℕ, false, List, [], ◌∷◌, ◌++◌, length, reverse}
use Rattle.std.proofs.Common.{Option, Some, None, sym, ap, subst, ◌∙◌, arith}
use Rattle.std.specs.Arc.{arc_value}
use Rattle.std.specs.HashMap.{hash_map_len}
use Rattle.bilateral.specs.Rows.{CentreRows, IsCentre}
use Rattle.sbo_device.specs.declared.key.Key.{Key}
use Rattle.tase_views.specs.declared.event.Entry.{Entry}
use Rattle.tase_views.specs.declared.event.EventKind.{EventKind}
use Rattle.tase_views.specs.History.{Past, association_in}
use Rattle.tase_views.specs.Outcomes.{is_ending, refusal_of}
use Rattle.tase_views.specs.Lived.{IsLived}
use Rattle.node_core.specs.declared.node.hub.Hub.{Hub}
use Rattle.node_core.specs.declared.node.Node.TheInside.{Inside}
use Rattle.node_core.specs.declared.node.parts.Parts.{Parts}
use Rattle.node_core.specs.LogState.{LogState}
use Rattle.node_core.specs.NodeState.{NodeState}
use Rattle.node_core.specs.Room.{past_of, HasRoom, IsReserved, LeavesSeats, MayAppend}
use Rattle.node_core.specs.Stored.{IsNode, found_by}
use Rattle.node_core.specs.declared.feeds.index.PeerIndex.{PeerIndex}
use Rattle.node_core.specs.declared.node.peer.Peer.{Peer}
use Rattle.node_core.specs.Feeds.Indexed.{AreIndexed, OthersStay, HasIndex}
use Rattle.node_core.proofs.OfNode.Causes.{IsFree, free_in, light-fits, unweighed_free}
use Rattle.node_core.proofs.OfNode.Outcomes.{reverse_push}
use Rattle.node_core.proofs.OfNode.Rooms.{MayAppend-reserved}
use Rattle.node_core.proofs.OfNode.NodeSteps.{seat_there}
use Rattle.node_core.proofs.OfNode.Indexing.{has_index-of}

-- what a node is seen as
abbrev pub seen_as : Inside → NodeState
seen_as node = record {
  setup = record { centre = arc_value node.centre; limit = node.log.limit };
  history = node.log.entries;
}

-- what a node keeps, with another log, hub and parts
abbrev pub Keeps : Inside → LogState → Hub → Parts → Type 0
Keeps node log hub parts = IsNode (arc_value node.centre) (past_of log) hub parts
    × HasRoom log (hash_map_len hub.seats) × IsLived (arc_value node.centre) (past_of log)

-- what an entry's place and the closes behind it take is reserved
abbrev pub Reserves : LogState → LogState → ℕ → ℕ → EventKind → Type 0
Reserves old new seats who event = record {
  limit : new.limit ≡ old.limit;
  entries : new.entries ≡ old.entries;
  room : (before : ℕ) → HasRoom old before → HasRoom new before;
  ok : IsReserved new seats who event;
  few : length new.entries < 2 ^ 63;
}

-- an entry is appended
abbrev pub Appends : LogState → LogState → ℕ → EventKind → Type 0
Appends old new who event = record {
  limit : new.limit ≡ old.limit;
  entries : new.entries ≡ old.entries ++ record { who = who; event = event } ∷ [];
  room : (before behind : ℕ) → HasRoom old before → LeavesSeats event before behind
      → MayAppend old who event behind → HasRoom new behind;
}

-- a seat has this association, whose peer is there
abbrev pub IsSeated : Inside → ℕ → Key → Type 0
IsSeated node who key = (association_in (past_of node.log) who ≡ Some key)
    × (key.peer < length (arc_value node.centre).tables)

-- a log is light enough for one more entry
pub light_enough : {log : LogState} {seats : ℕ} → HasRoom log seats → log.weight ≤ 2 ^ 62
light_enough room = omega (arith, room.bounded, room.light)

-- indexes as the node keeps them, of those that code of these rows left
pub indexed_as : {rows is : CentreRows} {now clock : ℕ} (parts : Parts) → rows ≡ is
    → now ≡ clock → AreIndexed rows now parts.peers.items parts.indexes.items
    → AreIndexed is clock parts.peers.items parts.indexes.items
indexed_as {rows} {is} {now} {clock} parts same at a =
    subst (λ (r : CentreRows). AreIndexed r clock parts.peers.items parts.indexes.items) same
    (subst (λ (m : ℕ). AreIndexed rows m parts.peers.items parts.indexes.items) at a)

module _ (node : Inside) where
  -- that an event isn't refused
  pub free_at : (who : ℕ) {now : NodeState} {event is : EventKind} → seen_as node ≡ now
      → event ≡ is → refusal_of now.setup (reverse now.history) who event ≡ None
      → IsFree (seen_as node).setup (past_of node.log) who is
  free_at who {now} {event} {is} seen e free =
      free_in (seen_as node) now who event is seen e free

  module _ (kept : Keeps node node.log node.hub node.parts) where
    -- a seat's association, as the hub finds it
    pub seated_by : (who : ℕ) {found : Option Key} {key : Key} → found ≡ found_by node.hub who
        → found ≡ Some key → IsSeated node who key
    seated_by who {found} {key} is some =
        let seated : association_in (past_of node.log) who ≡ Some key =
        sym (kept.0.common.seated who) ∙ sym is ∙ some in
        (seated, seat_there _ _ _ _ kept.0 who key seated)

    -- where room is reserved, and nothing is appended
    pub unlogged : {hub : Hub} {parts : Parts} (mid : LogState)
        → mid.entries ≡ node.log.entries
        → ((before : ℕ) → HasRoom node.log before → HasRoom mid before)
        → hash_map_len hub.seats ≡ hash_map_len node.hub.seats
        → IsNode (arc_value node.centre) (past_of node.log) hub parts → Keeps node mid hub parts
    unlogged mid entries room same n = (
      rw entries n,
      rw same (room _ kept.1),
      subst (λ (those : List Entry). IsLived (arc_value node.centre) (reverse those)) (sym entries)
          kept.2,
    )

    -- an event that isn't refused is appended to what is lived
    lived_on : {event is : EventKind} (who : ℕ) (new : LogState)
        → new.entries ≡ node.log.entries ++ record { who = who; event = event } ∷ []
        → event ≡ is → IsFree (seen_as node).setup (past_of node.log) who is
        → IsLived (arc_value node.centre) (past_of new)
    lived_on {event} {is} who new more e free =
        subst (λ (past : Past). IsLived (arc_value node.centre) past)
        (sym (ap (λ (those : List Entry). reverse those) more
        ∙ reverse_push node.log.entries (record { who = who; event = event })
        ∙ ap (λ (kind : EventKind).
        let behind : Past = record { who = who; event = kind } ∷ past_of node.log in behind) e))
        (unweighed_free (seen_as node).setup (past_of node.log) who is free, kept.2)

    -- an event for which there is room is appended
    pub ended : {hub : Hub} {parts : Parts} {event is : EventKind} (who : ℕ) (new : LogState)
        → event ≡ is → Appends node.log new who event
        → LeavesSeats is (hash_map_len node.hub.seats) (hash_map_len hub.seats)
        → MayAppend node.log who is (hash_map_len hub.seats)
        → IsFree (seen_as node).setup (past_of node.log) who is
        → IsNode (arc_value node.centre) (record { who = who; event = is } ∷ past_of node.log) hub
        parts
        → Keeps node new hub parts
    ended who new e more leaves may free n = (
      rw (more.entries, reverse_push, e) n,
      more.room _ _ kept.1 (rw e leaves) (rw e may),
      lived_on who new more.entries e free,
    )

    -- an event that isn't ending and isn't refused, for which room is reserved, is appended
    pub logged : {hub : Hub} {parts : Parts} {now : NodeState} {event is : EventKind} (who : ℕ)
        (mid new : LogState) (count : ℕ) → seen_as node ≡ now → event ≡ is
        → refusal_of now.setup (reverse now.history) who event ≡ None → is_ending is ≡ false
        → Reserves node.log mid count who event → Appends mid new who event
        → LeavesSeats is (hash_map_len node.hub.seats) (hash_map_len hub.seats)
        → count ≡ hash_map_len hub.seats
        → IsNode (arc_value node.centre) (record { who = who; event = is } ∷ past_of node.log) hub
        parts
        → Keeps node new hub parts
    logged {hub} {parts} {now} {event} {is} who mid new count seen e free goes_on reserved more
        leaves counted n =
        let none = free_at who seen e free in
        let fits = light-fits (seen_as node).setup (past_of node.log) is goes_on none.light in (
          rw (more.entries, reserved.entries, reverse_push, e) n,
          more.room _ _ (reserved.room _ kept.1) (rw e leaves)
              (rw e (MayAppend-reserved node.log mid who is _ goes_on reserved.limit
              reserved.entries fits (rw (← counted, ← e) reserved.ok))),
          lived_on who new
              (more.entries ∙ ap (λ (those : List Entry).
              those ++ record { who = who; event = event } ∷ []) reserved.entries) e none,
        )

    -- the indexes as code of these rows finds them, at the clock's moment
    pub indexed_at : {rows : CentreRows} {now : ℕ} → rows ≡ arc_value node.centre
        → now ≡ node.hub.last_tick
        → AreIndexed rows now node.parts.peers.items node.parts.indexes.items
    indexed_at {rows} {now} is clock =
        subst (λ (r : CentreRows). AreIndexed r now node.parts.peers.items
        node.parts.indexes.items) (sym is)
        (subst (λ (m : ℕ). AreIndexed (arc_value node.centre) m node.parts.peers.items
        node.parts.indexes.items) (sym clock) kept.0.indexed)

    -- the indexes where that of one peer was made anew behind a change of its part
    pub reindexed : {rows : CentreRows} {now peer : ℕ} (mid new : Parts)
        → rows ≡ arc_value node.centre → now ≡ node.hub.last_tick
        → mid.indexes.items ≡ node.parts.indexes.items
        → OthersStay peer node.parts.peers.items mid.peers.items
        → ((before : List Peer) → OthersStay peer before mid.peers.items
        → AreIndexed rows now before mid.indexes.items
        → AreIndexed rows now new.peers.items new.indexes.items)
        → AreIndexed (arc_value node.centre) node.hub.last_tick new.peers.items new.indexes.items
    reindexed {rows} {now} {peer} mid new is clock indexes stay anew =
        indexed_as new is clock (anew node.parts.peers.items stay
        (subst (λ (l : List PeerIndex). AreIndexed rows now node.parts.peers.items l) (sym indexes)
        (indexed_at is clock)))

    -- a peer has its index
    pub has_index : {rows : CentreRows} {peer : ℕ} {indexes : List PeerIndex}
        → rows ≡ arc_value node.centre → indexes ≡ node.parts.indexes.items
        → peer < length (arc_value node.centre).tables → HasIndex rows peer indexes
    has_index {rows} {peer} {indexes} is same known =
        subst (λ (r : CentreRows). HasIndex r peer indexes) (sym is)
        (subst (λ (l : List PeerIndex). HasIndex (arc_value node.centre) peer l) (sym same)
        (has_index-of _ _ _ _ kept.0.indexed peer (omega (arith, known, kept.0.peers.many))))

    pub lawful_at : {rows : CentreRows} → rows ≡ arc_value node.centre → IsCentre rows
    lawful_at {rows} is = subst IsCentre (sym is) kept.0.common.lawful
