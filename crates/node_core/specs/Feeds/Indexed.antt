-- The indexes that a node keeps beside what it keeps of its peers, by which a tick and an update
-- look at few transfer sets.
use Rattle.std.specs.Prelude.{◌≡◌, ◌≢◌, ℕ, zero, suc, ◌+◌, ◌<◌, ◌≤◌, true, List, length}
use Rattle.std.specs.Prelude.{is_some, Some, slice_get, ◌==◌, ◌&&◌, ◌||◌, Bool}
use Rattle.std.specs.List.{All}
use Rattle.std.specs.Option.{option_map_or}
use Rattle.bilateral.specs.declared.rows.TheConstants.{SLOT_LIMIT}
use Rattle.bilateral.specs.declared.rows.Table.{Table}
use Rattle.bilateral.specs.Rows.{CentreRows, point_of, place_of_see, variant_of}
use Rattle.data_sets.specs.Books.{Book}
use Rattle.transfer_sets.specs.Banks.{OwnedSlot, slot_at}
use Rattle.transfer_sets.specs.DueIndex.{IsDueIndex}
use Rattle.point_db.specs.WatchLists.{PointSlots, point_slots, is_watching}
use Rattle.node_core.specs.declared.feeds.index.PeerIndex.{PeerIndex}
use Rattle.node_core.specs.declared.node.peer.Peer.{Peer}
use Rattle.node_core.specs.Objects.Found.{TableInForce, offered, table_at}
use Rattle.node_core.specs.Feeds.SlotFeeds.{watches_point, due_count, watch_count, planned_count}

-- At each point of the centre stand the enabled transfer sets whose data set names it.
pub record IsWatch (t : TableInForce) (book : Book) (slots : List OwnedSlot)
    (watch : List PointSlots) : Type 0 where
  pub each : (p s : ℕ) → p < length t.rows.points → s < SLOT_LIMIT
      → is_watching s (point_slots watch p)
      ≡ watches_point (offered t) book (point_of t.rows p).name (slot_at slots s)

-- At each point of the centre stand transfer sets that a table may offer, and at a point that the
-- table shows there is room for all of them.
pub record HasWatchRoom (points : ℕ) (table : Table) (watch : List PointSlots) : Type 0 where
  pub many : length watch ≡ points
  pub few : (p : ℕ) → All (λ s. s < SLOT_LIMIT) (point_slots watch p).slots
  pub room : (p : ℕ) → is_some (place_of_see table p) ≡ true
      → SLOT_LIMIT ≤ length (point_slots watch p).slots + (point_slots watch p).spare

-- From now on a transfer set watches also the points of the centre that it names, by their numbers;
-- all others watch where they did, and each table finds the room that it found.
pub record HasWatched (points slot : ℕ) (names : ℕ → Bool) (old new : List PointSlots) : Type 0
  where
    pub watch : (p s : ℕ) → p < points → is_watching s (point_slots new p)
        ≡ (is_watching s (point_slots old p) || ((s == slot) && names p))
    pub room : (table : Table) → HasWatchRoom points table old → HasWatchRoom points table new

-- an index of a peer has a place for each transfer set and for each point of the centre, with room
-- by each of the peer's tables
pub record IsRoomy (rows : CentreRows) (peer : ℕ) (index : PeerIndex) : Type 0 where
  pub slots : length index.dues ≡ SLOT_LIMIT
  pub watch : (variant : ℕ)
      → HasWatchRoom (length rows.points) (variant_of rows peer variant) index.watch

-- a peer has an index, with room
pub record HasIndex (rows : CentreRows) (peer : ℕ) (indexes : List PeerIndex) : Type 0 where
  pub there : peer < length indexes
  pub roomy : (index : PeerIndex) → slice_get indexes peer ≡ Some index → IsRoomy rows peer index

-- an index is that of what is kept of a peer, at a moment
pub record IsIndexed (rows : CentreRows) (peer now : ℕ) (part : Peer) (index : PeerIndex) :
    Type 0 where
  pub roomy : IsRoomy rows peer index
  pub dues : IsDueIndex part.slots now index.dues
  pub watch : IsWatch (table_at rows peer part.variant) part.book part.slots index.watch

-- the transfer sets that an index has at each point are those of a peer
pub record IsWatched (rows : CentreRows) (peer : ℕ) (part : Peer) (index : PeerIndex) : Type 0
  where
    pub many : length index.watch ≡ length rows.points
    pub watch : IsWatch (table_at rows peer part.variant) part.book part.slots index.watch

-- each peer has its index
pub record AreIndexed (rows : CentreRows) (now : ℕ) (peers : List Peer)
    (indexes : List PeerIndex) : Type 0 where
  pub many : length indexes ≡ length peers
  pub each : (peer : ℕ) (part : Peer) (index : PeerIndex) → slice_get peers peer ≡ Some part
      → slice_get indexes peer ≡ Some index → IsIndexed rows peer now part index

-- a part keeps its tables and its transfer sets
pub record KeepsSlots (old new : Peer) : Type 0 where
  pub variant : new.variant ≡ old.variant
  pub chosen : new.chosen_last ≡ old.chosen_last
  pub slots : new.slots ≡ old.slots

-- of parts all others than that of one peer stay
pub record OthersStay (peer : ℕ) (old new : List Peer) : Type 0 where
  pub many : length new ≡ length old
  pub others : (other : ℕ) → other ≢ peer → slice_get new other ≡ slice_get old other

-- the sum of a number of each of the first so many peers
abbrev pub over_peers : ℕ → (ℕ → ℕ) → ℕ
over_peers zero number = 0
over_peers (suc peer) number = over_peers peer number + number peer

-- a number of what is kept of a peer; where no peer stands, none
abbrev pub of_part : List Peer → (Peer → ℕ) → ℕ → ℕ
of_part peers number peer = option_map_or number (slice_get peers peer) 0

-- how many transfer sets of all peers have something due where the clock goes on from a moment to
-- another
abbrev pub due_total : ℕ → ℕ → List Peer → ℕ
due_total from to peers =
    over_peers (length peers) (of_part peers (λ part. due_count from to part.slots))

-- how many transfer sets of a peer are enabled and have a data set that names a point, which is
-- given by its number
abbrev pub watch_of_part : CentreRows → ℕ → ℕ → Peer → ℕ
watch_of_part rows peer point part =
    watch_count (offered (table_at rows peer part.variant)) part.book (point_of rows point).name
    part.slots

-- those of all peers
abbrev pub watch_total : CentreRows → ℕ → List Peer → ℕ
watch_total rows point peers =
    over_peers (length peers) (λ peer. of_part peers (watch_of_part rows peer point) peer)

-- for how many transfer sets of all peers something is planned
abbrev pub plan_total : List Peer → ℕ
plan_total peers = over_peers (length peers) (of_part peers (λ part. planned_count part.plan))
