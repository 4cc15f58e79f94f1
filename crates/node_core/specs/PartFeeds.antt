-- What the clock, the operator and the points do to the parts of peers: first what may fail is made
-- ready, which changes nothing that a peer sees, then it is noted.
use Rattle.std.specs.Prelude.{◌≡◌, ◌≢◌, ℕ, ◌<◌, ◌++◌, List, length, map, Some, slice_get}
use Rattle.std.specs.List.{All}
use Rattle.tase_points.specs.Sample.{Sample}
use Rattle.bilateral.specs.Rows.{CentreRows, point_of}
use Rattle.data_sets.specs.Books.{Book}
use Rattle.transfer_sets.specs.Banks.{HasMoreRoom}
use Rattle.tase_views.specs.declared.reply.ReportKind.{ReportKind}
use Rattle.tase_views.specs.OwnTables.{OwnTable, OwnTables}
use Rattle.tase_views.specs.View.{View, moment_in}
use Rattle.tase_views.specs.Reports.{reports_by}
use Rattle.node_core.specs.declared.feeds.cause.ReportCause.{ReportCause}
use Rattle.node_core.specs.declared.node.peer.Peer.{Peer}
use Rattle.node_core.specs.declared.plant.Plant.{Plant}
use Rattle.node_core.specs.Slots.Associations.{OpenAssociation, undrafted, with_drafted}
use Rattle.node_core.specs.Slots.Associations.{association_at}
use Rattle.node_core.specs.Objects.Found.{offered, table_at}
use Rattle.node_core.specs.Replies.Shown.{Shown, InEachView, shown_of}
use Rattle.node_core.specs.Feeds.SlotFeeds.{move_of, moment_before, AreReported, AreChanged}
use Rattle.node_core.specs.Feeds.SlotFeeds.{IsPlanned}
use Rattle.node_core.specs.Feeds.SlotFeeds.{HasPlanRoom}

-- ---- one part

-- a part with other drafts, another plan and more room, and else the same
pub record IsAlike (old new : Peer) : Type 0 where
  pub same : new ≡ record old {
    associations = new.associations;
    slots = new.slots;
    plan = new.plan;
  }
  pub associations : map undrafted new.associations ≡ map undrafted old.associations
  pub slots : HasMoreRoom old.slots new.slots

-- for each association the reports are drafted that a cause makes, by what the peer is shown
abbrev pub IsDrafted : CentreRows → ℕ → Plant → ReportCause → Peer → Type 0
IsDrafted rows peer plant cause part =
    All (λ (a : OpenAssociation). InEachView (shown_of rows peer part plant)
    (λ tables view. moment_in view ≡ moment_before cause
    → a.drafted ≡ reports_by tables view a.ordinal (move_of cause))) part.associations

-- associations of whose drafts each has more behind it, by what the peer is shown
pub record AreDraftedMore (shown : Shown) (more : OwnTables → View → ℕ → List ReportKind)
    (old new : List OpenAssociation) : Type 0 where
  pub same : map undrafted new ≡ map undrafted old
  pub each : (place : ℕ) → place < length old → InEachView shown (λ tables view.
      (association_at new place).drafted ≡ (association_at old place).drafted
      ++ more tables view (association_at old place).ordinal)

-- a part behind a cause of reports, which are those that were drafted
pub record IsReported (cause : ReportCause) (old new : Peer) : Type 0 where
  pub same : new ≡ record old {
    associations = map with_drafted old.associations;
    slots = new.slots;
  }
  pub slots : AreReported cause old.slots new.slots

-- a change of a point is planned, and there is room for it
pub record IsReady (rows : CentreRows) (peer point : ℕ) (part : Peer) : Type 0 where
  pub planned : IsPlanned (offered (table_at rows peer part.variant)) part.book
      (point_of rows point).name part.slots part.plan
  pub room : HasPlanRoom part.plan part.slots

-- a part behind a change of a point at a moment, as it was planned
pub record IsNoted (now : ℕ) (value : Sample) (cov : ℕ) (old new : Peer) : Type 0 where
  pub same : new ≡ record old { slots = new.slots }
  pub slots : (table : OwnTable) (book : Book) (name : List ℕ)
      → IsPlanned table book name old.slots old.plan → AreChanged table book
      (record { point = name; moment = now; value = value; count = cov }) old.slots new.slots

-- ---- all parts

-- of parts that of one peer has become another, and the others stay
pub record OneBecomes (Becomes : Peer → Peer → Type 0) (peer : ℕ) (old new : List Peer) : Type 0
  where
    pub many : length new ≡ length old
    pub here : (part after : Peer) → slice_get old peer ≡ Some part
        → slice_get new peer ≡ Some after → Becomes part after
    pub others : (other : ℕ) → other ≢ peer → slice_get new other ≡ slice_get old other

-- each part has become another
pub record EachBecomes (Becomes : ℕ → Peer → Peer → Type 0) (old new : List Peer) : Type 0
  where
    pub many : length new ≡ length old
    pub each : (peer : ℕ) (part after : Peer) → slice_get old peer ≡ Some part
        → slice_get new peer ≡ Some after → Becomes peer part after
