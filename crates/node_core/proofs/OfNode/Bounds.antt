-- What is counted of what a node keeps is what is counted over the views of its peers.
use Rattle.std.proofs.Common.{◌≡◌, ◌==◌, ℕ, Bool, true, false, not, ◌&&◌, List, [], ◌∷◌}
use Rattle.std.proofs.Common.{length}
use Rattle.std.proofs.Common.{Option, None, refl, sym, ap, subst, ◌∙◌, arith}
use Rattle.std.specs.Prelude.{nat_lt, filter, if◌then◌else◌, bytes_eq}
use Rattle.std.specs.List.{range_with_len}
use Rattle.std.specs.Option.{unwrap_or}
use Rattle.bilateral.specs.declared.rows.TheConstants.{SLOT_LIMIT}
use Rattle.bilateral.specs.Rows.{CentreRows, IsCentre, point_of}
use Rattle.mms_data.specs.ObjectName.{ObjectName}
use Rattle.data_sets.specs.Books.{Book, members_in}
use Rattle.transfer_sets.specs.declared.wish.Wish.{Wish}
use Rattle.transfer_sets.specs.Due.{conditions_due}
use Rattle.transfer_sets.specs.Banks.{OwnedSlot, slot_at}
use Rattle.tase_views.specs.OwnTables.{OwnTable, OwnTables, own_tables, table_in}
use Rattle.tase_views.specs.History.{Past, last_tick}
use Rattle.tase_views.specs.View.{View, view_of, held, moment_in}
use Rattle.tase_views.specs.Slots.{sets_in, places_told, wished_members}
use Rattle.tase_views.specs.Reports.{slot_state}
use Rattle.node_core.specs.declared.feeds.cause.ReportCause.TheVariants.{Tick}
use Rattle.node_core.specs.declared.node.peer.Peer.{Peer}
use Rattle.node_core.specs.Objects.Found.{offered, table_at}
use Rattle.node_core.specs.Slots.SlotsKept.{IsBank}
use Rattle.node_core.specs.Feeds.SlotFeeds.{due_count, watches_point, planned_count}
use Rattle.node_core.specs.PartFeeds.{IsReady, EachBecomes}
use Rattle.node_core.specs.Stored.{AreParts}
use Rattle.node_core.specs.Feeds.Indexed.{over_peers, of_part, due_total, watch_of_part}
use Rattle.node_core.specs.Feeds.Indexed.{watch_total}
use Rattle.node_core.specs.Feeds.Indexed.{plan_total}
use Rattle.node_core.specs.Feeds.Concerned.{due_in, watching_in, due_in_all, watching_total}
use Rattle.node_core.proofs.OfReplies.ReportsAlike.{conditions-alike}
use Rattle.node_core.proofs.Moments.{moment_is}
use Rattle.node_core.proofs.OfObjects.Known.{offered-at}
use Rattle.node_core.proofs.OfNode.Steps.{own_count}
use Rattle.node_core.proofs.OfNode.Steps.{part_there}
use Rattle.node_core.proofs.OfFeeds.Planned.{planned_count-watched}
use Rattle.node_core.proofs.OfNode.PeerTotals.{over_peers-same, of_part-at}

-- as many of some numbers have one property as have another that is the same for each
pub counts_alike : (f g : ℕ → Bool) → ((s : ℕ) → f s ≡ g s) → (those : List ℕ)
    → length (filter f those) ≡ length (filter g those)
counts_alike f g same [] = refl
counts_alike f g same (s ∷ those) =
    let rest = counts_alike f g same those in
    elim (g s) as (λ b. f s ≡ b → length (if f s then s ∷ filter f those else filter f those)
    ≡ length (if b then s ∷ filter g those else filter g those)) [
      | true ↦ λ e. rw e (omega (arith, rest))
      | false ↦ λ e. rw e rest
    ] (same s)

module _ (tables : OwnTables) (view : View) (slots : List OwnedSlot)
    (b : IsBank tables view slots) where
  pub due_is : (from to : ℕ) → moment_in view ≡ from
      → due_count from to slots ≡ due_in tables view to
  due_is from to moment =
      counts_alike _ _
      (λ s. ap (λ (conditions : ℕ). not (conditions == 0))
      (conditions-alike (Tick from to) s (slot_at slots s).state (slot_state tables view s)
      (b.state s)
      ∙ ap (λ (m : ℕ). conditions_due (slot_state tables view s) m to) (sym moment)))
      (range_with_len 0 SLOT_LIMIT)

  pub watch_is : (table : OwnTable) (book : Book) (name : List ℕ) → table ≡ held tables view
      → ((set : List ℕ) → members_in book.sets set ≡ sets_in tables view set)
      → length (filter (λ s. watches_point table book name (slot_at slots s))
      (range_with_len 0 SLOT_LIMIT)) ≡ watching_in tables view name
  watch_is table book name offers members =
      subst (λ (t : OwnTable). length (filter (λ s. watches_point t book name (slot_at slots s))
      (range_with_len 0 SLOT_LIMIT)) ≡ watching_in tables view name) (sym offers)
      (counts_alike _ _ (λ s. one (slot_at slots s).state.wish ∙ ap (λ (w : Wish). w.status
      && nat_lt 0 (length (places_told (held tables view)
      (unwrap_or (wished_members (held tables view) (sets_in tables view) w) []) name)))
      (b.state s).wish) (range_with_len 0 SLOT_LIMIT))
    where
      by : (on : Bool) (places : List ℕ)
          → nat_lt 0 (length (if on then places else [])) ≡ (on && nat_lt 0 (length places))
      by true places = refl
      by false places = refl

      one : (w : Wish) → nat_lt 0 (length (if w.status then places_told (held tables view)
          (unwrap_or (wished_members (held tables view) (members_in book.sets) w) []) name else []))
          ≡ (w.status && nat_lt 0 (length (places_told (held tables view)
          (unwrap_or (wished_members (held tables view) (sets_in tables view) w) []) name)))
      one w =
          by w.status _
          ∙ ap (λ (found : Option (List ObjectName)). w.status && nat_lt 0 (length
          (places_told (held tables view) (unwrap_or
          (if bytes_eq w.set_domain (held tables view).domain then found else None) []) name)))
          (members w.set_name)

module _ (rows : CentreRows) (lawful : IsCentre rows) (past : Past) (peers : List Peer)
    (a : AreParts rows past peers) where
  pub dues_are : (from to : ℕ) → from ≡ last_tick past
      → due_total from to peers ≡ due_in_all rows past to
  dues_are from to clock =
      ap (λ (n : ℕ). over_peers n (of_part peers (λ part. due_count from to part.slots))) a.many
      ∙ over_peers-same (length rows.tables) _ _
      (λ peer below.
      let part = part_there peers peer (omega (arith, below, a.many)) in
      of_part-at peers (λ x. due_count from to x.slots) peer part.0 part.1
      ∙ due_is (own_tables rows peer) (view_of rows peer past) part.0.slots
      (a.each peer part.0 part.1).slots from to (moment_is rows peer past ∙ sym clock))

  pub watchers_are : (point : ℕ) → watch_total rows point peers ≡ watching_total rows past point
  watchers_are point =
      ap (λ (n : ℕ). over_peers n (λ peer. of_part peers (watch_of_part rows peer point) peer))
      a.many
      ∙ over_peers-same (length rows.tables) _ _
      (λ peer below.
      let part = part_there peers peer (omega (arith, below, a.many)) in
      let p = a.each peer part.0 part.1 in
      of_part-at peers (watch_of_part rows peer point) peer part.0 part.1
      ∙ watch_is (own_tables rows peer) (view_of rows peer past) part.0.slots p.slots
      (offered (table_at rows peer part.0.variant)) part.0.book (point_of rows point).name
      (offered-at rows peer part.0.variant
      (omega (arith, p.force_there, own_count rows peer))
      ∙ ap (table_in (own_tables rows peer)) p.in_force) p.sets.members)

-- what is planned is planned for those that watch
pub plans_are : (rows : CentreRows) (point : ℕ) (old mid : List Peer)
    → EachBecomes (λ peer part after. IsReady rows peer point after) old mid
    → plan_total mid ≡ watch_total rows point mid
plans_are rows point old mid ready =
    over_peers-same (length mid) _ _
    (λ peer below.
    let part = part_there mid peer below in
    let before = part_there old peer (omega (arith, below, ready.many)) in
    of_part-at mid (λ x. planned_count x.plan) peer part.0 part.1
    ∙ planned_count-watched (offered (table_at rows peer part.0.variant)) part.0.book
    (point_of rows point).name part.0.slots part.0.plan
    (ready.each peer before.0 part.0 before.1 part.1).planned
    ∙ sym (of_part-at mid (watch_of_part rows peer point) peer part.0 part.1))
