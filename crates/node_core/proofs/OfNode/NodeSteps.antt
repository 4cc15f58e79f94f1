-- What a node keeps is that of the history with one more entry.
use Rattle.std.proofs.Common.{◌≡◌, ◌≢◌, ◌==◌, ℕ, ◌+◌, ◌^◌, ◌%◌, ◌<◌, Bool, true, false, List, []}
use Rattle.std.proofs.Common.{◌∷◌, ◌++◌, map, Option, Some, None, length, refl, sym, ap, subst, ◌∙◌}
use Rattle.std.proofs.Common.{⊎_elim}
use Rattle.std.proofs.Common.{arith}
use Rattle.std.proofs.lemmas.Bool.{false≢true, eq-eqb, ne_eqb, eqb-true, cases_eq}
use Rattle.std.proofs.lemmas.Option.{slice_get_within, same_Some}
use Rattle.std.specs.Prelude.{if◌then◌else◌, slice_get, slice_set}
use Rattle.mms_data.specs.Datum.{Datum}
use Rattle.mms_data.specs.ObjectName.{ObjectName}
use Rattle.tase_points.specs.declared.layout.TheConstants.{COV_MODULUS}
use Rattle.tase_points.specs.Sample.{Sample}
use Rattle.tase_points.specs.Values.{is_change}
use Rattle.point_db.specs.Updates.{last_value, change_count}
use Rattle.point_db.specs.Stored.{Keeps as KeepsPoints}
use Rattle.bilateral.specs.Rows.{CentreRows, variants_of}
use Rattle.sbo_device.specs.declared.key.Key.{Key}
use Rattle.sbo_device.specs.declared.device.TheConstants.{MOMENT_LIMIT}
use Rattle.sbo_device.specs.Moves.{Tag, closed, ticked, tagged}
use Rattle.sbo_device.specs.Banks.{BankState, moved, with_move}
use Rattle.tase_views.specs.declared.event.EventKind.{EventKind}
use Rattle.tase_views.specs.declared.event.EventKind.TheVariants.{Open, Request, Take, Close}
use Rattle.tase_views.specs.declared.event.EventKind.TheVariants.{Update, Table, Tick, Ask}
use Rattle.tase_views.specs.declared.event.EventKind.TheVariants as events
use Rattle.tase_views.specs.declared.event.EventKind.TheVariants.{TakeOrders, Stop}
use Rattle.tase_views.specs.declared.call.CallKind.{CallKind}
use Rattle.tase_views.specs.declared.call.CallKind.TheVariants.{Identify, Read, ReadSet, Write}
use Rattle.tase_views.specs.declared.call.CallKind.TheVariants.{WriteSet, NameList, TypeOf, Define}
use Rattle.tase_views.specs.declared.call.CallKind.TheVariants.{MembersOf, Delete, DeleteScope, Odd}
use Rattle.tase_views.specs.declared.reply.ReplyKind.{ReplyKind}
use Rattle.tase_views.specs.declared.reply.ReportKind.{ReportKind}
use Rattle.tase_views.specs.History.{Past, association_in, next_key, last_tick}
use Rattle.tase_views.specs.Moves.{Act, opens, takes, closes, acts_of_call, Move, acts, updates}
use Rattle.tase_views.specs.Moves.{asks, chooses, stops, moves_by}
use Rattle.tase_views.specs.OwnTables.{OwnTable, OwnTables, own_tables, table_in}
use Rattle.tase_views.specs.View.{View, own, chose, moves_in, view_of}
use Rattle.tase_views.specs.Answers.{reply_to, define_replied}
use Rattle.tase_views.specs.Reports.{reports_pending}
use Rattle.tase_views.proofs.InForce.{held-seen}
use Rattle.node_core.specs.Devices.DeviceBanks.{IsDeviceBank, IsIdle, HaveActed}
use Rattle.node_core.proofs.OfDevices.BankActs.{acts_followed}
use Rattle.node_core.proofs.OfDevices.BankSteps.{idle_followed, closed_followed, ticked_followed}
use Rattle.node_core.proofs.OfDevices.BankSteps.{tagged_followed, taken_followed}
use Rattle.node_core.specs.declared.feeds.cause.ReportCause.{ReportCause}
use Rattle.node_core.specs.declared.node.hub.Hub.{Hub}
use Rattle.node_core.specs.declared.node.parts.Parts.{Parts}
use Rattle.node_core.specs.declared.node.peer.Peer.{Peer}
use Rattle.node_core.specs.declared.plant.Plant.{Plant}
use Rattle.node_core.specs.LastValues.{kinds_of, updates_in}
use Rattle.node_core.specs.Slots.Associations.{is_open_in, made_for}
use Rattle.node_core.specs.Replies.Shown.{IsShown, shown_of}
use Rattle.node_core.specs.Feeds.SlotFeeds.{move_of, moment_before}
use Rattle.node_core.specs.PartFeeds.{IsAlike, IsDrafted, IsReported, IsReady, IsNoted}
use Rattle.node_core.specs.PartFeeds.{OneBecomes, EachBecomes}
use Rattle.node_core.specs.PeerParts.{IsPart, part_after, part_behind, IsLawfulAct, EachAct}
use Rattle.node_core.specs.Slots.SlotsKept.{handed_all, all_read}
use Rattle.node_core.specs.Slots.SlotWrites.{all_asked, all_slots}
use Rattle.node_core.specs.Replies.DeviceWrites.{devices_read, all_left, all_devices, all_orders}
use Rattle.node_core.specs.PeerParts.{IsReplyTo, IsReplyBy, acts_asked}
use Rattle.node_core.specs.Stored.{AreParts, IsNode, found_by, IsPeerThere, MayOpen, IsChanged}
use Rattle.node_core.specs.Stored.{IsAsked}
use Rattle.node_core.specs.Feeds.Indexed.{AreIndexed}
use Rattle.node_core.proofs.OfNode.Indexing.{IsSameIndexed, AreIndexed-alike, AreIndexed-set}
use Rattle.node_core.specs.Stored.{IsCalmRequest, IsReplied}
use Rattle.node_core.specs.declared.slots.writes.Asked.{Asked}
use Rattle.transfer_sets.specs.Banks.{OwnedSlot}
use Rattle.node_core.proofs.CallActs.{lawful_call, reading_call, writing_call}
use Rattle.node_core.proofs.OfReplies.SlotWrites.{all_slots_alike}
use Rattle.node_core.proofs.OfSlots.SetBooks.{fault_alike}
use Rattle.node_core.proofs.OfSlots.AssociationSteps.{drafted_open, open_alike, made_for-is}
use Rattle.node_core.proofs.Moments.{moment_is}
use Rattle.node_core.proofs.OfNode.PartLists.{IsAlike-refl}
use Rattle.node_core.proofs.LateSelections.{late_ends_nothing}
use Rattle.node_core.proofs.OfNode.PartSteps.{IsPart-reported, IsPart-alike}
use Rattle.node_core.proofs.OfNode.PointChanges.{IsPart-noted}
use Rattle.node_core.proofs.Views.{IsShown-of}
use Rattle.node_core.proofs.OfReplies.DeviceActs.{reading_acts, writing_acts, calm_acts}
use Rattle.node_core.proofs.OfReplies.DevicesKept.{bank_ranged}
use Rattle.node_core.proofs.OfNode.Steps.{IsCommon-open, IsCommon-close, IsCommon-still}
use Rattle.node_core.proofs.OfNode.Steps.{AreParts-called, AreParts-take, AreParts-open}
use Rattle.node_core.proofs.OfNode.Steps.{AreParts-tagged}
use Rattle.node_core.proofs.OfNode.Steps.{AreParts-orders}
use Rattle.node_core.proofs.OfNode.Steps.{AreParts-close, AreParts-each, AreParts-stop}
use Rattle.node_core.proofs.OfNode.Steps.{AreParts-chosen}
use Rattle.node_core.proofs.OfNode.Steps.{own_offers}
use Rattle.node_core.proofs.OfNode.Steps.{part_there, IsPeerThere-of, opens-at, MayOpen-of}
use Rattle.node_core.proofs.OfNode.Steps.{opens_in-le-length}

-- only what is kept counts
pub IsNode-alike : (rows : CentreRows) (past : Past) (hub new : Hub) (parts after : Parts)
    → new.plant ≡ hub.plant → new.last_tick ≡ hub.last_tick
    → ((who : ℕ) → found_by new who ≡ found_by hub who)
    → after.peers.items ≡ parts.peers.items → after.indexes.items ≡ parts.indexes.items
    → IsNode rows past hub parts → IsNode rows past new after
IsNode-alike rows past hub new parts after plant clock seats peers indexes n = record {
  common = record {
    lawful = n.common.lawful;
    kept = rw plant n.common.kept;
    devices = rw plant n.common.devices;
    seated = λ who. seats who ∙ n.common.seated who;
    known = λ who key e. n.common.known who key (sym (seats who) ∙ e);
  };
  clock = clock ∙ n.clock;
  timed = rw clock n.timed;
  peers = rw peers n.peers;
  indexed = rw (clock, peers, indexes) n.indexed;
}

-- a seat that is given an association, which is taken back, is as before
pub unseated_again : (who : ℕ) (key : Key) (old mid new : ℕ → Option Key) → old who ≡ None
    → ((asked : ℕ) → mid asked ≡ (if who == asked then Some key else old asked))
    → ((asked : ℕ) → new asked ≡ (if who == asked then None else mid asked))
    → (asked : ℕ) → new asked ≡ old asked
unseated_again who key old mid new none seats back asked =
    back asked ∙ by (who == asked) refl (seats asked)
  where
    by : (b : Bool) → (who == asked) ≡ b → mid asked ≡ (if b then Some key else old asked)
        → (if b then None else mid asked) ≡ old asked
    by true e seat = sym none ∙ ap old (eqb-true who asked e)
    by false e seat = seat

-- ---- other drafts

AreParts-alike : (rows : CentreRows) (past : Past) (peers new : List Peer)
    → EachBecomes (λ peer. IsAlike) peers new → AreParts rows past peers → AreParts rows past new
AreParts-alike rows past peers new alike s = record {
  many = alike.many ∙ s.many;
  each = λ peer part here.
      let old = before peer part here in
      IsPart-alike (own_tables rows peer) (view_of rows peer past) old.0 part
      (alike.each peer old.0 part old.1 here) (s.each peer old.0 old.1);
  seated = λ who key part seat here.
      let old = before key.peer part here in
      open_alike old.0.associations part.associations
      (alike.each key.peer old.0 part old.1 here).associations key.ordinal
      ∙ s.seated who key old.0 seat old.1;
}
  where
    before : (peer : ℕ) (part : Peer) → slice_get new peer ≡ Some part
        → (old : Peer) × (slice_get peers peer ≡ Some old)
    before peer part here =
        part_there peers peer (omega (arith, alike.many, slice_get_within new peer part here))

pub one_each : (peer : ℕ) (old new : List Peer) → OneBecomes IsAlike peer old new
    → EachBecomes (λ peer. IsAlike) old new
one_each peer old new one = record {
  many = one.many;
  each = λ other part after at here.
      ⊎_elim
      (λ (mine : other ≡ peer). one.here part after (ap (slice_get old) (sym mine) ∙ at)
      (ap (slice_get new) (sym mine) ∙ here))
      (λ apart. subst (IsAlike part)
      (same_Some part after (sym at ∙ sym (one.others other apart) ∙ here)) (IsAlike-refl part))
      (cases_eq other peer);
}

pub IsNode-drafted : (rows : CentreRows) (past : Past) (hub : Hub) (parts after : Parts)
    → EachBecomes (λ peer. IsAlike) parts.peers.items after.peers.items
    → after.indexes.items ≡ parts.indexes.items
    → IsNode rows past hub parts → IsNode rows past hub after
IsNode-drafted rows past hub parts after alike indexes n = record {
  common = n.common;
  clock = n.clock;
  timed = n.timed;
  peers = AreParts-alike rows past parts.peers.items after.peers.items alike n.peers;
  indexed = rw indexes (AreIndexed-alike rows hub.last_tick parts.peers.items after.peers.items
      parts.indexes.items alike n.indexed);
}

module _ (rows : CentreRows) (past : Past) (hub : Hub) (parts : Parts)
    (n : IsNode rows past hub parts) where
  -- where no part's transfer sets, data sets or table in force change, nor the indexes
  still_indexed : (new : Hub) (after : Parts) → new.last_tick ≡ hub.last_tick
      → after ≡ parts → AreIndexed rows new.last_tick after.peers.items after.indexes.items
  still_indexed new after clock same = rw (clock, same) n.indexed

  -- where one part changes, and as far as indexes go is as before
  set_indexed : (new : Hub) (after : Parts) (peer : ℕ) (part behind : Peer)
      → new.last_tick ≡ hub.last_tick → after.indexes.items ≡ parts.indexes.items
      → slice_get parts.peers.items peer ≡ Some part
      → after.peers.items ≡ slice_set parts.peers.items peer behind
      → IsSameIndexed part behind
      → AreIndexed rows new.last_tick after.peers.items after.indexes.items
  set_indexed new after peer part behind clock indexes at is same =
      rw (clock, indexes) (AreIndexed-set rows hub.last_tick parts.peers.items after.peers.items
      parts.indexes.items peer part behind at is same n.indexed)

  -- a peer's part
  pub its_part : (peer : ℕ) → peer < length rows.tables
      → (part : Peer) × (slice_get parts.peers.items peer ≡ Some part)
      × IsPart (own_tables rows peer) (view_of rows peer past) part
  its_part peer there =
      let within : peer < length parts.peers.items = omega (arith, there, n.peers.many) in
      let found = part_there parts.peers.items peer within in
      (found.0, found.1, n.peers.each peer found.0 found.1)

  pub peer_there : (peer : ℕ) → peer < length rows.tables
      → IsPeerThere rows parts.peers.items peer
  peer_there peer there =
      IsPeerThere-of rows past parts.peers.items n.peers n.common.lawful peer there

  -- the peer of a seat's association is there
  pub seat_there : (who : ℕ) (key : Key) → association_in past who ≡ Some key
      → key.peer < length rows.tables
  seat_there who key seated = n.common.known who key (n.common.seated who ∙ seated)

  pub may_open : (peer : ℕ) → length past + 1 < 2 ^ 64 → MayOpen parts.peers.items peer
  may_open peer room =
      MayOpen-of rows past parts.peers.items n.peers peer
      (omega (arith, room, opens_in-le-length past peer))

  -- the association that a peer opens next
  pub opens_next : (peer : ℕ) (key : Key) → peer < length rows.tables
      → ((part : Peer) → slice_get parts.peers.items peer ≡ Some part
      → key ≡ record { peer = peer; ordinal = part.opened_in_all })
      → key ≡ next_key past peer
  opens_next peer key there is =
      let part = its_part peer there in
      is part.0 part.1
      ∙ ap (λ (k : ℕ). record { peer = peer; ordinal = k })
      (opens-at rows past parts.peers.items n.peers peer part.0 part.1)

  -- what a take is given
  pub made_is : (who : ℕ) (key : Key) (reports : List ReportKind)
      → association_in past who ≡ Some key
      → ((part : Peer) → slice_get parts.peers.items key.peer ≡ Some part
      → reports ≡ made_for key.ordinal part.associations)
      → reports
      ≡ reports_pending (own_tables rows key.peer) (view_of rows key.peer past) key.ordinal
  made_is who key reports seated made =
      let part = its_part key.peer (seat_there who key seated) in
      made part.0 part.1
      ∙ made_for-is (own_tables rows key.peer) (view_of rows key.peer past) key.ordinal
      part.0.associations part.0.open_now part.0.opened_in_all
      (n.peers.seated who key part.0 seated part.1) part.2.open_ones

  -- a move that is nothing to devices
  stays : (move : Move) → IsIdle move → IsDeviceBank rows (move ∷ moves_in past) hub.plant.devices
  stays move idle =
      idle_followed rows (moves_in past) move hub.plant.devices hub.plant.devices idle refl refl
      n.common.devices

  module _ (who : ℕ) (new : Hub) (after : Parts) where
    idled : (move : Move) → IsIdle move → new.plant.devices ≡ hub.plant.devices
        → IsDeviceBank rows (move ∷ moves_in past) new.plant.devices
    idled move idle same = rw same (stays move idle)

    -- the one act of an event of a seat
    at_seat : {bank : BankState} (key : Key) → association_in past who ≡ Some key → (act : Act)
        → IsDeviceBank rows (acts key act ∷ moves_in past) bank
        → IsDeviceBank rows (moves_by (association_in past who) (act ∷ []) ++ moves_in past) bank
    at_seat {bank} key seated act b =
        subst (λ (found : Option Key).
        IsDeviceBank rows (moves_by found (act ∷ []) ++ moves_in past) bank) (sym seated) b

    pub IsNode-open : after.indexes.items ≡ parts.indexes.items
        → (peer : ℕ) (key : Key) → peer < length rows.tables
        → key ≡ next_key past peer → new.plant ≡ hub.plant → new.last_tick ≡ hub.last_tick
        → ((asked : ℕ) → found_by new asked
        ≡ (if who == asked then Some key else found_by hub asked))
        → ((tables : OwnTables) (now : ℕ) → IsChanged parts.peers.items peer
        (λ part. part_after tables now (own part.opened_in_all opens) part) after.peers.items)
        → IsNode rows (record { who = who; event = Open peer } ∷ past) new after
    IsNode-open indexes peer key there key_is plant clock seats changed =
        let part = its_part peer there in
        let all = opens-at rows past parts.peers.items n.peers peer part.0 part.1 in
        record {
          common = IsCommon-open rows past hub.plant (found_by hub) who n.common new.plant peer
              (found_by new) there (ap (λ (p : Plant). p.points) plant)
              (idled (acts (next_key past peer) opens) tt
              (ap (λ (p : Plant). p.devices) plant))
              (λ asked. seats asked ∙ ap (λ (k : Key). if who == asked then Some k
              else found_by hub asked) key_is);
          clock = clock ∙ n.clock;
          indexed = set_indexed new after peer part.0 _ clock indexes part.1
              (changed (own_tables rows peer) (last_tick past) part.0 part.1)
              (record { many = refl; state = λ s. refl; book = refl; variant = refl });
          timed = rw clock n.timed;
          peers = rw (changed (own_tables rows peer) (last_tick past) part.0 part.1
              ∙ ap (λ (k : ℕ). slice_set parts.peers.items peer (part_after (own_tables rows peer)
              (last_tick past) (own k opens) part.0)) all)
              (AreParts-open rows n.common.lawful past who parts.peers.items peer part.0 part.1 all
              n.peers);
        }

    pub IsNode-close : (key : Key) → association_in past who ≡ Some key
        → new.plant.points ≡ hub.plant.points
        → new.plant.devices ≡ record hub.plant.devices {
          devices = map (moved (closed key)) hub.plant.devices.devices;
        }
        → new.last_tick ≡ hub.last_tick
        → ((asked : ℕ) → found_by new asked
        ≡ (if who == asked then None else found_by hub asked))
        → IsChanged parts.peers.items key.peer
        (part_after (own_tables rows key.peer) (last_tick past) (own key.ordinal closes))
        after.peers.items
        → AreIndexed rows new.last_tick after.peers.items after.indexes.items
        → IsNode rows (record { who = who; event = Close } ∷ past) new after
    IsNode-close key seated points devices clock seats changed indexed =
        let part = its_part key.peer (seat_there who key seated) in
        record {
          common = IsCommon-close rows past hub.plant (found_by hub) who n.common new.plant
              (found_by new) points
              (at_seat key seated closes (closed_followed rows (moves_in past) key hub.plant.devices
              new.plant.devices (ap (λ (b : BankState). b.devices) devices)
              (ap (λ (b : BankState). b.orders) devices) n.common.devices))
              seats;
          clock = clock ∙ n.clock;
          indexed = indexed;
          timed = rw clock n.timed;
          peers = rw (changed part.0 part.1)
              (AreParts-close rows n.common.lawful past who parts.peers.items key part.0 seated
              part.1 n.peers);
        }

    pub IsNode-take : after.indexes.items ≡ parts.indexes.items
        → (key : Key) → association_in past who ≡ Some key → new ≡ hub
        → ((tables : OwnTables) (now : ℕ) → IsChanged parts.peers.items key.peer
        (part_after tables now (own key.ordinal takes)) after.peers.items)
        → IsNode rows (record { who = who; event = Take } ∷ past) new after
    IsNode-take indexes key seated same changed =
        let part = its_part key.peer (seat_there who key seated) in
        record {
          common = rw same (IsCommon-still rows past hub.plant (found_by hub) who n.common hub.plant
              Take (λ before. refl) n.common.kept
              (at_seat key seated takes (idle_followed rows (moves_in past) (acts key takes)
              hub.plant.devices hub.plant.devices tt refl refl n.common.devices)));
          clock = rw same n.clock;
          indexed = set_indexed new after key.peer part.0 _ (ap (λ (h : Hub). h.last_tick) same)
              indexes part.1
              (changed (own_tables rows key.peer) (last_tick past) part.0 part.1)
              (record { many = refl; state = λ s. refl; book = refl; variant = refl });
          timed = rw same n.timed;
          peers = rw (changed (own_tables rows key.peer) (last_tick past) part.0 part.1)
              (AreParts-take rows n.common.lawful past who parts.peers.items key part.0 seated
              part.1 n.peers);
        }

    -- the part of a peer behind a cause of reports, which were drafted
    reported : (centre : CentreRows) (plant : Plant) → centre ≡ rows
        → plant ≡ hub.plant → (cause : ReportCause) (peer : ℕ) (part behind : Peer)
        → peer < length rows.tables → moment_before cause ≡ hub.last_tick
        → IsPart (own_tables rows peer) (view_of rows peer past) part
        → IsDrafted centre peer plant cause part → IsReported cause part behind
        → IsPart (own_tables rows peer) (move_of cause ∷ view_of rows peer past) behind
    reported centre plant same kept cause peer part behind there clock p drafted r =
        let before = moment_is rows peer past ∙ sym n.clock ∙ sym clock in
        let shown : IsShown (updates_in past) (own_tables rows peer) (view_of rows peer past)
        (shown_of centre peer part plant) =
        subst (λ (c : CentreRows). IsShown (updates_in past) (own_tables rows peer)
        (view_of rows peer past) (shown_of c peer part plant)) (sym same)
        (subst (λ (s : Plant). IsShown (updates_in past) (own_tables rows peer)
        (view_of rows peer past) (shown_of rows peer part s)) (sym kept)
        (IsShown-of rows past peer part hub.plant (found_by hub) there p n.common)) in
        IsPart-reported (own_tables rows peer) (own_offers rows n.common.lawful peer)
        (view_of rows peer past) part _ refl cause behind before
        (late_ends_nothing rows n.common.lawful past peer part p)
        (λ i d within. drafted i d within (updates_in past) (own_tables rows peer)
        (view_of rows peer past) shown before)
        r p

    pub IsNode-tick : AreIndexed rows new.last_tick after.peers.items after.indexes.items
        → (centre : CentreRows) (plant : Plant) (from now : ℕ) (mid : Parts)
        → now < MOMENT_LIMIT → centre ≡ rows → plant ≡ hub.plant → from ≡ hub.last_tick
        → EachBecomes (λ peer. IsAlike) parts.peers.items mid.peers.items
        → EachBecomes (λ peer part behind.
        IsDrafted centre peer plant (ReportCause.Tick from now) behind)
        parts.peers.items mid.peers.items
        → EachBecomes (λ peer. IsReported (ReportCause.Tick from now)) mid.peers.items
        after.peers.items
        → new ≡ record hub {
          last_tick = now;
          plant = record hub.plant {
            devices = record hub.plant.devices {
              devices = map (moved (ticked now)) hub.plant.devices.devices;
            };
          };
        }
        → IsNode rows (record { who = who; event = Tick now } ∷ past) new after
    IsNode-tick indexed centre plant from now mid below is kept clock alike drafted noted same =
        let cause = ReportCause.Tick from now in
        let m = AreParts-alike rows past parts.peers.items mid.peers.items alike n.peers in
        record {
          common = rw same (IsCommon-still rows past hub.plant (found_by hub) who n.common _
              (Tick now) (λ before. refl) n.common.kept
              (ticked_followed rows (moves_in past) now hub.plant.devices _ refl refl
              n.common.devices));
          clock = rw same refl;
          indexed = indexed;
          timed = rw same below;
          peers = AreParts-each rows n.common.lawful past who mid.peers.items (Tick now)
              after.peers.items (λ before. refl) noted.many
              (λ peer part behind at here p.
              let within = slice_get_within mid.peers.items peer part at in
              let old = part_there parts.peers.items peer (omega (arith, within, alike.many)) in
              let r = noted.each peer part behind at here in (
                reported centre plant is kept cause peer part behind
                    (omega (arith, within, m.many)) clock p
                    (drafted.each peer old.0 part old.1 at) r,
                λ ordinal there. ap (λ (x : Peer). is_open_in ordinal x.associations) r.same
                    ∙ drafted_open ordinal part.associations ∙ there,
              )) m;
        }

    pub IsNode-ask : AreIndexed rows new.last_tick after.peers.items after.indexes.items
        → (centre : CentreRows) (plant : Plant) (from asker slot : ℕ)
        (mid : Parts) → centre ≡ rows → plant ≡ hub.plant → from ≡ hub.last_tick
        → asker < length rows.tables
        → OneBecomes IsAlike asker parts.peers.items mid.peers.items
        → OneBecomes (λ part behind.
        IsDrafted centre asker plant (ReportCause.Ask slot from) behind) asker
        parts.peers.items mid.peers.items
        → OneBecomes (IsReported (ReportCause.Ask slot from)) asker mid.peers.items
        after.peers.items
        → new ≡ hub
        → IsNode rows (record { who = who; event = Ask asker slot } ∷ past) new after
    IsNode-ask indexed centre plant from asker slot mid is kept clock there alike drafted noted same =
        let cause = ReportCause.Ask slot from in
        let m = AreParts-alike rows past parts.peers.items mid.peers.items
        (one_each asker parts.peers.items mid.peers.items alike) n.peers in
        record {
          common = rw same (IsCommon-still rows past hub.plant (found_by hub) who n.common hub.plant
              (Ask asker slot) (λ before. refl) n.common.kept (stays (asks asker slot) tt));
          clock = rw same n.clock;
          indexed = indexed;
          timed = rw same n.timed;
          peers = AreParts-each rows n.common.lawful past who mid.peers.items (Ask asker slot)
              after.peers.items (λ before. refl) noted.many
              (λ peer part behind at here p.
              ⊎_elim
              (λ (mine : peer ≡ asker).
              let at_asker = ap (slice_get mid.peers.items) (sym mine) ∙ at in
              let here_asker = ap (slice_get after.peers.items) (sym mine) ∙ here in
              let old = part_there parts.peers.items asker (omega (arith, there, n.peers.many)) in
              let r = noted.here part behind at_asker here_asker in (
                subst (λ (q : ℕ). IsPart (own_tables rows q)
                    (view_of rows q (record { who = who; event = Ask asker slot } ∷ past)) behind)
                    (sym mine)
                    (rw (eq-eqb asker asker refl)
                    (reported centre plant is kept cause asker part behind there clock
                    (subst (λ (q : ℕ). IsPart (own_tables rows q) (view_of rows q past) part) mine
                    p) (drafted.here old.0 part old.1 at_asker) r)),
                λ ordinal open_one.
                    ap (λ (x : Peer). is_open_in ordinal x.associations) r.same
                    ∙ drafted_open ordinal part.associations ∙ open_one,
              ))
              (λ (apart : peer ≢ asker).
              let stays = same_Some part behind (sym at ∙ sym (noted.others peer apart) ∙ here)
              in (
                subst (λ (x : Peer). IsPart (own_tables rows peer)
                    (view_of rows peer (record { who = who; event = Ask asker slot } ∷ past)) x)
                    stays (rw (ne_eqb asker peer (λ e. apart (sym e))) p),
                λ ordinal open_one. ap (λ (x : Peer). is_open_in ordinal x.associations)
                    (sym stays) ∙ open_one,
              ))
              (cases_eq peer asker)) m;
        }

    pub IsNode-stop : new ≡ hub → after ≡ parts
        → IsNode rows (record { who = who; event = Stop } ∷ past) new after
    IsNode-stop same alike = record {
      common = rw same (IsCommon-still rows past hub.plant (found_by hub) who n.common hub.plant
          Stop (λ before. refl) n.common.kept (stays stops tt));
      clock = rw same n.clock;
      indexed = still_indexed new after (ap (λ (h : Hub). h.last_tick) same) alike;
      timed = rw same n.timed;
      peers = rw alike (AreParts-stop rows n.common.lawful past who parts.peers.items n.peers);
    }

    pub IsNode-update : (centre : CentreRows) (from point : ℕ) (value : Sample) (mid : Parts)
        (changed : Bool) (cov : ℕ) → centre ≡ rows → from ≡ hub.last_tick
        → point < length rows.points
        → EachBecomes (λ peer. IsAlike) parts.peers.items mid.peers.items
        → EachBecomes (λ peer part behind. IsReady centre peer point behind) parts.peers.items
        mid.peers.items
        → KeepsPoints (kinds_of rows) (record { point = point; value = value } ∷ updates_in past)
        new.plant.points
        → new.plant.devices ≡ hub.plant.devices
        → changed ≡ is_change (last_value (kinds_of rows) (updates_in past) point) value
        → cov ≡ change_count (kinds_of rows)
        (record { point = point; value = value } ∷ updates_in past) point % COV_MODULUS
        → (changed ≡ true → EachBecomes (λ peer. IsNoted from value cov)
        mid.peers.items after.peers.items)
        → (changed ≡ false → after.peers.items ≡ mid.peers.items)
        → new.seats ≡ hub.seats → new.last_tick ≡ hub.last_tick
        → AreIndexed rows new.last_tick after.peers.items after.indexes.items
        → IsNode rows (record { who = who; event = Update point value } ∷ past) new after
    IsNode-update centre from point value mid changed cov same at_now known alike ready kept
        devices is cov_is noting leaving seats clock indexed =
        let m = AreParts-alike rows past parts.peers.items mid.peers.items alike n.peers in
        record {
          common = rw seats (IsCommon-still rows past hub.plant (found_by hub) who n.common
              new.plant (Update point value) (λ before. refl) kept
              (idled (updates point value) tt devices));
          clock = clock ∙ n.clock;
          indexed = indexed;
          timed = rw clock n.timed;
          peers = by m changed refl;
        }
      where
        noted : (peer : ℕ) (part behind : Peer) → slice_get mid.peers.items peer ≡ Some part
            → AreParts rows past mid.peers.items
            → (changed ≡ true → IsNoted (last_tick past) value cov part behind)
            → (changed ≡ false → behind ≡ part)
            → IsPart (own_tables rows peer) (view_of rows peer past) part
            → IsPart (own_tables rows peer)
            (view_of rows peer (record { who = who; event = Update point value } ∷ past)) behind
        noted peer part behind at m some none p =
            let within = slice_get_within mid.peers.items peer part at in
            let old = part_there parts.peers.items peer (omega (arith, within, alike.many)) in
            IsPart-noted rows n.common.lawful past who point peer value known part
            (omega (arith, within, m.many)) p (own_offers rows n.common.lawful peer) changed cov
            behind is cov_is some none
            (subst (λ (r : CentreRows). IsReady r peer point part) same
            (ready.each peer old.0 part old.1 at))

        by : AreParts rows past mid.peers.items → (c : Bool) → changed ≡ c
            → AreParts rows (record { who = who; event = Update point value } ∷ past)
            after.peers.items
        by m true e =
            let all = noting e in
            AreParts-each rows n.common.lawful past who mid.peers.items (Update point value)
            after.peers.items (λ before. refl) all.many
            (λ peer part behind at here p.
            let r = all.each peer part behind at here in (
              noted peer part behind at m
                  (λ yes_changed. subst (λ (k : ℕ). IsNoted k value cov part behind)
                  (at_now ∙ n.clock) r)
                  (λ unchanged. absurd (false≢true (sym unchanged ∙ e))) p,
              λ ordinal open_one. ap (λ (x : Peer). is_open_in ordinal x.associations) r.same
                  ∙ open_one,
            )) m
        by m false e =
            AreParts-each rows n.common.lawful past who mid.peers.items (Update point value)
            after.peers.items (λ before. refl) (ap length (leaving e))
            (λ peer part behind at here p.
            let stays : behind ≡ part = same_Some behind part
            (sym here ∙ ap (λ (ps : List Peer). slice_get ps peer) (leaving e) ∙ at) in (
              noted peer part behind at m (λ other. absurd (false≢true (sym e ∙ other)))
                  (λ unchanged. stays) p,
              λ ordinal open_one. ap (λ (x : Peer). is_open_in ordinal x.associations) stays
                  ∙ open_one,
            )) m

    pub IsNode-chosen : AreIndexed rows new.last_tick after.peers.items after.indexes.items
        → (peer variant : ℕ) → peer < length rows.tables
        → variant < length (variants_of rows peer) → new ≡ hub
        → IsChanged parts.peers.items peer
        (part_after (own_tables rows peer) (last_tick past) (chose variant)) after.peers.items
        → IsNode rows (record { who = who; event = Table peer variant } ∷ past) new after
    IsNode-chosen indexed peer variant there known same changed =
        let part = its_part peer there in
        record {
          common = rw same (IsCommon-still rows past hub.plant (found_by hub) who n.common hub.plant
              (Table peer variant) (λ before. refl) n.common.kept (stays (chooses peer variant) tt));
          clock = rw same n.clock;
          indexed = indexed;
          timed = rw same n.timed;
          peers = rw (changed part.0 part.1)
              (AreParts-chosen rows n.common.lawful past who parts.peers.items peer variant part.0
              known part.1 n.peers);
        }

    -- a tag of a device
    pub IsNode-tagged : (device : ℕ) (tag : Tag) → device < length rows.devices
        → new.plant.points ≡ hub.plant.points
        → new.plant.devices ≡ with_move device (tagged tag) hub.plant.devices
        → new.seats ≡ hub.seats → new.last_tick ≡ hub.last_tick → after ≡ parts
        → IsNode rows (record { who = who; event = events.Tag device tag } ∷ past) new after
    IsNode-tagged device tag known points devices seats clock alike = record {
      common = rw seats (IsCommon-still rows past hub.plant (found_by hub) who n.common new.plant
          (events.Tag device tag) (λ before. refl) (rw points n.common.kept)
          (tagged_followed rows (moves_in past) device tag hub.plant.devices new.plant.devices
          n.common.lawful known (ap (λ (b : BankState). b.devices) devices)
          (ap (λ (b : BankState). b.orders) devices) n.common.devices));
      clock = clock ∙ n.clock;
      indexed = still_indexed new after clock alike;
      timed = rw clock n.timed;
      peers = rw alike (AreParts-tagged rows n.common.lawful past who parts.peers.items device tag
          n.peers);
    }

    -- a taking of orders
    pub IsNode-orders : new.plant.points ≡ hub.plant.points
        → new.plant.devices ≡ record hub.plant.devices { orders = []; spare = 0 }
        → new.seats ≡ hub.seats → new.last_tick ≡ hub.last_tick → after ≡ parts
        → IsNode rows (record { who = who; event = TakeOrders } ∷ past) new after
    IsNode-orders points devices seats clock alike = record {
      common = rw seats (IsCommon-still rows past hub.plant (found_by hub) who n.common new.plant
          TakeOrders (λ before. refl) (rw points n.common.kept)
          (taken_followed rows (moves_in past) hub.plant.devices new.plant.devices
          (ap (λ (b : BankState). b.devices) devices) (ap (λ (b : BankState). b.orders) devices)
          n.common.devices));
      clock = clock ∙ n.clock;
      indexed = still_indexed new after clock alike;
      timed = rw clock n.timed;
      peers = rw alike (AreParts-orders rows n.common.lawful past who parts.peers.items n.peers);
    }

    -- a call, behind whose acts its peer's part and the devices stand
    IsNode-called : AreIndexed rows new.last_tick after.peers.items after.indexes.items
        → (key : Key) (call : CallKind) → association_in past who ≡ Some key
        → new.plant.points ≡ hub.plant.points → new.seats ≡ hub.seats
        → new.last_tick ≡ hub.last_tick
        → ((part : Peer) → slice_get parts.peers.items key.peer ≡ Some part
        → HaveActed rows (table_in (own_tables rows key.peer) part.variant) (last_tick past) key
        (acts_of_call call) hub.plant.devices new.plant.devices)
        → EachAct IsLawfulAct (acts_of_call call)
        → ((part : Peer) → slice_get parts.peers.items key.peer ≡ Some part
        → IsPart (own_tables rows key.peer) (view_of rows key.peer past) part
        → after.peers.items ≡ slice_set parts.peers.items key.peer
        (part_behind (own_tables rows key.peer) (last_tick past) key.ordinal (acts_of_call call)
        part))
        → IsNode rows (record { who = who; event = Request call } ∷ past) new after
    IsNode-called indexed key call seated points seats clock acted lawful changed =
        let part = its_part key.peer (seat_there who key seated) in
        let table_is = ap (table_in (own_tables rows key.peer)) part.2.in_force
        ∙ held-seen rows (own_tables rows) key.peer (moves_in past) in
        let devices = acts_followed rows past key call hub.plant.devices new.plant.devices
        n.common.lawful
        (subst (λ (table : OwnTable). HaveActed rows table (last_tick past) key
        (acts_of_call call) hub.plant.devices new.plant.devices) table_is (acted part.0 part.1))
        n.common.devices in
        record {
          common = rw seats (IsCommon-still rows past hub.plant (found_by hub) who n.common
              new.plant (Request call) (λ before. refl) (rw points n.common.kept)
              (subst (λ (found : Option Key). IsDeviceBank rows
              (moves_by found (acts_of_call call) ++ moves_in past) new.plant.devices) (sym seated)
              devices));
          clock = clock ∙ n.clock;
          indexed = indexed;
          timed = rw clock n.timed;
          peers = rw (changed part.0 part.1 part.2)
              (AreParts-called rows n.common.lawful past who parts.peers.items key call part.0
              seated lawful part.1 n.peers);
        }

    -- a read hands transfer sets out
    pub IsNode-read : (now : ℕ) (key : Key) (names : List ObjectName) (echo : Bool)
        (handed : List ℕ) → now ≡ last_tick past → association_in past who ≡ Some key
        → new.plant.points ≡ hub.plant.points → new.seats ≡ hub.seats
        → new.last_tick ≡ hub.last_tick
        → ((part : Peer) → slice_get parts.peers.items key.peer ≡ Some part
        → new.plant.devices.devices
        ≡ devices_read rows (table_in (own_tables rows key.peer) part.variant) now key names
        hub.plant.devices.devices)
        → new.plant.devices.orders ≡ hub.plant.devices.orders
        → ((part : Peer) → slice_get parts.peers.items key.peer ≡ Some part
        → handed_all key.ordinal handed part.slots
        ≡ all_read (table_in (own_tables rows key.peer) part.variant) key.ordinal names part.slots)
        → IsChanged parts.peers.items key.peer
        (λ part. record part { slots = handed_all key.ordinal handed part.slots })
        after.peers.items
        → AreIndexed rows new.last_tick after.peers.items after.indexes.items
        → IsNode rows (record { who = who; event = Request (Read names echo) } ∷ past) new after
    IsNode-read now key names echo handed at_now seated points seats clock devices orders hands
        changed indexed =
        IsNode-called indexed key (Read names echo) seated points seats clock
        (λ part at.
        let table = table_in (own_tables rows key.peer) part.variant in
        subst (λ (k : ℕ). HaveActed rows table k key (acts_of_call (Read names echo))
        hub.plant.devices new.plant.devices) at_now
        (reading_acts rows table now key names echo hub.plant.devices new.plant.devices
        (devices part at) orders))
        (lawful_call (Read names echo) (λ set members e. absurd cc))
        (λ part at p. changed part at
        ∙ ap (λ (x : Peer). slice_set parts.peers.items key.peer x)
        (ap (λ (slots : List OwnedSlot). record part { slots = slots }) (hands part at)
        ∙ sym (reading_call (own_tables rows key.peer) (last_tick past) key.ordinal names echo
        part)))

    -- a write takes wishes
    pub IsNode-write : (now : ℕ) (key : Key) (names : List ObjectName) (values : List Datum)
        (asked : List Asked) → now ≡ last_tick past → association_in past who ≡ Some key
        → new.plant.points ≡ hub.plant.points → new.seats ≡ hub.seats
        → new.last_tick ≡ hub.last_tick
        → ((part : Peer) → slice_get parts.peers.items key.peer ≡ Some part
        → asked ≡ all_asked rows (table_in (own_tables rows key.peer) part.variant) names values)
        → new.plant.devices.devices ≡ all_devices key asked hub.plant.devices.devices
        → new.plant.devices.orders ≡ hub.plant.devices.orders
        ++ all_orders key asked hub.plant.devices.devices
        → IsChanged parts.peers.items key.peer
        (λ part. record part {
          slots = all_slots (table_in (own_tables rows key.peer) part.variant) part.book
              key.ordinal now (all_left key asked hub.plant.devices.devices) part.slots;
        })
        after.peers.items
        → AreIndexed rows new.last_tick after.peers.items after.indexes.items
        → IsNode rows (record { who = who; event = Request (Write names values) } ∷ past) new after
    IsNode-write now key names values asked at_now seated points seats clock asking devices orders
        changed indexed =
        IsNode-called indexed key (Write names values) seated points seats clock
        (λ part at.
        let table = table_in (own_tables rows key.peer) part.variant in
        subst (λ (k : ℕ). HaveActed rows table k key (acts_of_call (Write names values))
        hub.plant.devices new.plant.devices) at_now
        (writing_acts rows table now key names values hub.plant.devices new.plant.devices
        (bank_ranged rows (moves_in past) hub.plant.devices n.common.lawful n.common.devices)
        (devices ∙ ap (λ (these : List Asked). all_devices key these hub.plant.devices.devices)
        (asking part at))
        (orders ∙ ap (λ (these : List Asked). hub.plant.devices.orders
        ++ all_orders key these hub.plant.devices.devices) (asking part at))))
        (lawful_call (Write names values) (λ set members e. absurd cc))
        (λ part at p.
        let tables = own_tables rows key.peer in
        let table = table_in tables part.variant in
        changed part at
        ∙ ap (λ (x : Peer). slice_set parts.peers.items key.peer x)
        (ap (λ (these : List Asked). record part {
          slots = all_slots table part.book key.ordinal now
              (all_left key these hub.plant.devices.devices) part.slots;
        }) (asking part at)
        ∙ ap (λ (slots : List OwnedSlot). record part { slots = slots })
        (all_slots_alike rows table part.book key now names values hub.plant.devices.devices
        part.slots)
        ∙ sym (writing_call tables now key.ordinal names values part)
        ∙ ap (λ (k : ℕ). part_behind tables k key.ordinal (acts_of_call (Write names values)) part)
        at_now))

    -- a request that neither reads nor writes, whose reply is that which the view gives
    pub IsNode-request : AreIndexed rows new.last_tick after.peers.items after.indexes.items
        → (key : Key) (event : EventKind) (reply : ReplyKind)
        → association_in past who ≡ Some key → IsCalmRequest event
        → IsReplied rows past key event reply → new ≡ hub
        → EachAct IsLawfulAct (acts_asked event)
        → IsAsked rows (last_tick past) key (acts_asked event)
        (λ table book. IsReplyBy table book event reply)
        parts.peers.items after.peers.items
        → IsNode rows (record { who = who; event = event } ∷ past) new after
    IsNode-request indexed key (Open peer) reply seated request replied same lawful asked = absurd request
    IsNode-request indexed key Take reply seated request replied same lawful asked = absurd request
    IsNode-request indexed key Close reply seated request replied same lawful asked = absurd request
    IsNode-request indexed key (Update point value) reply seated request replied same lawful asked =
        absurd request
    IsNode-request indexed key (Table peer variant) reply seated request replied same lawful asked =
        absurd request
    IsNode-request indexed key (Tick now) reply seated request replied same lawful asked =
        absurd request
    IsNode-request indexed key (Ask asker slot) reply seated request replied same lawful asked =
        absurd request
    IsNode-request indexed key (events.Tag device tag) reply seated request replied same lawful asked =
        absurd request
    IsNode-request indexed key TakeOrders reply seated request replied same lawful asked =
        absurd request
    IsNode-request indexed key Stop reply seated request replied same lawful asked = absurd request
    IsNode-request indexed key (Request call) reply seated request replied same lawful asked =
        IsNode-called indexed key call seated (ap (λ (h : Hub). h.plant.points) same)
        (ap (λ (h : Hub). h.seats) same) (ap (λ (h : Hub). h.last_tick) same)
        (λ part at. subst (λ (h : Hub). HaveActed rows
        (table_in (own_tables rows key.peer) part.variant) (last_tick past) key
        (acts_of_call call) hub.plant.devices h.plant.devices) (sym same)
        (calm_acts rows (table_in (own_tables rows key.peer) part.variant) (last_tick past) key
        call request hub.plant.devices)) lawful
        (λ part at p. asked part at
        (by_book (own_tables rows key.peer) (view_of rows key.peer past) part call reply key.ordinal
        p replied))
      where
        -- the book refuses what the view refuses
        by_book : (tables : OwnTables) (view : View) (part : Peer) (call : CallKind)
            (reply : ReplyKind) (ordinal : ℕ) → IsPart tables view part
            → reply ≡ reply_to tables view ordinal call
            → IsReplyTo (table_in tables part.variant) part.book call reply
        by_book tables view part (Define set members) reply ordinal p is =
            subst (λ (k : ℕ). IsReplyTo (table_in tables k) part.book (Define set members) reply)
            (sym p.in_force)
            (is ∙ ap define_replied (fault_alike tables view part.book set members p.sets))
        by_book tables view part Identify reply ordinal p is = tt
        by_book tables view part (Read names echo) reply ordinal p is = tt
        by_book tables view part (ReadSet set echo) reply ordinal p is = tt
        by_book tables view part (Write names values) reply ordinal p is = tt
        by_book tables view part (WriteSet set values) reply ordinal p is = tt
        by_book tables view part (NameList class scope from) reply ordinal p is = tt
        by_book tables view part (TypeOf name) reply ordinal p is = tt
        by_book tables view part (MembersOf set) reply ordinal p is = tt
        by_book tables view part (Delete sets) reply ordinal p is = tt
        by_book tables view part (DeleteScope scope) reply ordinal p is = tt
        by_book tables view part (Odd kind code) reply ordinal p is = tt
