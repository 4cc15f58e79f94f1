-- What a peer's view of a history has of a point that its tables name: what the whole history has.
use Rattle.std.proofs.Common.{◌≡◌, ◌==◌, ℕ, Bool, true, false, List, [], ◌∷◌, Option, Some}
use Rattle.std.proofs.Common.{None, is_some, bytes_eq, ◌<◌, length, refl, sym, ap, subst, ◌∙◌}
use Rattle.std.proofs.Common.{arith}
use Rattle.std.specs.Prelude.{if◌then◌else◌}
use Rattle.std.specs.List.{cons_option}
use Rattle.std.proofs.lemmas.Bool.{false≢true, false_from_ne_true, eqb-true}
use Rattle.std.proofs.lemmas.List.{length-map}
use Rattle.tase_points.specs.Sample.{Sample}
use Rattle.bilateral.specs.declared.rows.PointRow.{PointRow}
use Rattle.bilateral.specs.Rows.{CentreRows, IsCentre, point_of, device_of, variants_of}
use Rattle.tase_views.specs.declared.event.EventKind.{EventKind}
use Rattle.tase_views.specs.declared.event.EventKind.TheVariants.{Open, Request, Take, Close}
use Rattle.tase_views.specs.declared.event.EventKind.TheVariants.{Update, Table, Tag, Tick, Ask}
use Rattle.tase_views.specs.declared.event.EventKind.TheVariants.{TakeOrders, Stop}
use Rattle.tase_views.specs.History.{Past, association_in, next_key}
use Rattle.tase_views.specs.OwnTables.{OwnTable, own_table, own_tables, table_in, is_point_of}
use Rattle.tase_views.specs.OwnTables.{device_named}
use Rattle.tase_views.specs.Moves.{Act, opens, takes, closes, acts_of_call}
use Rattle.tase_views.specs.View.{updated, tagged, chose, View, moves_in, view_of, held, asked}
use Rattle.tase_views.specs.Values.{values_in}
use Rattle.point_db.specs.Updates.{values_given}
use Rattle.sbo_device.specs.declared.key.Key.{Key}
use Rattle.node_core.specs.Devices.DeviceBanks.{row_control}
use Rattle.node_core.proofs.OfDevices.DevicesShown.{devices_seen}
use Rattle.node_core.specs.LastValues.{updates_in}
use Rattle.node_core.specs.Objects.Found.{IsThere, table_at, offered}
use Rattle.node_core.specs.declared.node.peer.Peer.{Peer}
use Rattle.node_core.specs.declared.plant.Plant.{Plant}
use Rattle.node_core.specs.PeerParts.{IsPart}
use Rattle.node_core.specs.Stored.{IsCommon}
use Rattle.node_core.specs.Replies.Shown.{IsShown, IsShowable, shown_of}
use Rattle.node_core.proofs.OfObjects.Known.{point_is_there, bytes_eq-names, offered-at}
use Rattle.node_core.proofs.OfObjects.Known.{named_by_variant}
use Rattle.node_core.proofs.OfObjects.Known.{variant_is_lawful}
use Rattle.node_core.proofs.CallActs.{each_of_call}
use Rattle.node_core.proofs.Seeing.{IsKept, by_seat}

-- acts of associations give no point a value
abbrev IsAny : Act → Type 0
IsAny act = Unit {0}

abbrev Gives : List ℕ → List Sample → View → Type 0
Gives name values view = values_in view name ≡ values

gives_kept : (name : List ℕ) (values : List Sample) → IsKept (Gives name values) IsAny
gives_kept name values = record {
  acted = λ key ordinal device act view same. same;
  closed = λ key ordinal view same. same;
  own = λ ordinal act view any same. same;
}

-- an update, of the point itself or of another, seen or not
values_in-update : (view : View) (name other : List ℕ) (new : Sample) (values : List Sample)
    (seen same : Bool)
    → (seen ≡ true → bytes_eq other name ≡ same) → (seen ≡ false → same ≡ false)
    → values_in view name ≡ values
    → values_in (cons_option (if seen then Some (updated other new) else None) view) name
    ≡ cons_option (if same then Some new else None) values
values_in-update view name other new values true same named unseen shown =
    rw (named refl, shown) refl
values_in-update view name other new values false same named unseen shown =
    rw (unseen refl) shown

-- a point that no table of a peer names is another than one that one names
unseen_is_another : (rows : CentreRows) (peer p q : ℕ) → is_point_of rows peer p ≡ true
    → is_point_of rows peer q ≡ false → (q == p) ≡ false
unseen_is_another rows peer p q named unseen =
    false_from_ne_true (q == p)
    (λ e. let here : is_point_of rows peer p ≡ false =
    subst (λ (x : ℕ). is_point_of rows peer x ≡ false) (eqb-true q p e) unseen in
    false≢true (sym here ∙ named))

module _ (rows : CentreRows) (peer p : ℕ) (lawful : IsCentre rows)
    (named : is_point_of rows peer p ≡ true) where
  values_behind : (past : Past) (who : ℕ) (event : EventKind)
      → values_in (view_of rows peer past) (point_of rows p).name ≡ values_given (updates_in past) p
      → values_in (view_of rows peer (record { who = who; event = event } ∷ past))
      (point_of rows p).name
      ≡ values_given (updates_in (record { who = who; event = event } ∷ past)) p
  values_behind past who (Open opener) shown =
      by_seat (Gives (point_of rows p).name (values_given (updates_in past) p)) IsAny
      (gives_kept (point_of rows p).name (values_given (updates_in past) p)) rows peer
      (Some (next_key past opener)) (opens ∷ []) (moves_in past) (tt, tt) shown
  values_behind past who (Request call) shown =
      by_seat (Gives (point_of rows p).name (values_given (updates_in past) p)) IsAny
      (gives_kept (point_of rows p).name (values_given (updates_in past) p)) rows peer
      (association_in past who) (acts_of_call call) (moves_in past)
      (each_of_call IsAny (λ name. tt) (λ name value. tt) (λ other. tt) call
      (λ set members e. tt) (λ sets e set. tt)) shown
  values_behind past who Take shown =
      by_seat (Gives (point_of rows p).name (values_given (updates_in past) p)) IsAny
      (gives_kept (point_of rows p).name (values_given (updates_in past) p)) rows peer
      (association_in past who) (takes ∷ []) (moves_in past) (tt, tt) shown
  values_behind past who Close shown =
      by_seat (Gives (point_of rows p).name (values_given (updates_in past) p)) IsAny
      (gives_kept (point_of rows p).name (values_given (updates_in past) p)) rows peer
      (association_in past who) (closes ∷ []) (moves_in past) (tt, tt) shown
  values_behind past who Stop shown = shown
  values_behind past who (Table chooser variant) shown =
      elim (chooser == peer) as
      (λ b. values_in (cons_option (if b then Some (chose variant) else None)
      (view_of rows peer past)) (point_of rows p).name ≡ values_given (updates_in past) p)
      [ true ↦ shown | false ↦ shown ]
  values_behind past who (Tick now) shown = shown
  values_behind past who (Ask asker slot) shown =
      elim (asker == peer) as
      (λ b. values_in (cons_option (if b then Some (asked slot) else None)
      (view_of rows peer past)) (point_of rows p).name ≡ values_given (updates_in past) p)
      [ true ↦ shown | false ↦ shown ]
  values_behind past who (Tag device tag) shown =
      elim (is_some (device_named (own_tables rows peer) (device_of rows device).name)) as
      (λ b. values_in (cons_option (if b then Some (tagged (device_of rows device).name tag)
      else None) (view_of rows peer past)) (point_of rows p).name
      ≡ values_given (updates_in past) p)
      [ true ↦ shown | false ↦ shown ]
  values_behind past who TakeOrders shown = shown
  values_behind past who (Update q new) shown =
      values_in-update (view_of rows peer past) (point_of rows p).name (point_of rows q).name new
      (values_given (updates_in past) p) (is_point_of rows peer q) (q == p)
      (λ seen. bytes_eq-names rows q p lawful (point_is_there rows peer q lawful seen)
      (point_is_there rows peer p lawful named))
      (unseen_is_another rows peer p q named)
      shown

  -- a peer's view gives each point that its tables name the values that the history gives it
  pub values_in-view_of : (past : Past)
      → values_in (view_of rows peer past) (point_of rows p).name ≡ values_given (updates_in past) p
  values_in-view_of [] = refl
  values_in-view_of (entry ∷ past) =
      values_behind past entry.who entry.event (values_in-view_of past)

module _ (rows : CentreRows) (past : Past) (peer : ℕ) (part : Peer) (plant : Plant)
    (found : ℕ → Option Key) (known : peer < length rows.tables)
    (p : IsPart (own_tables rows peer) (view_of rows peer past) part)
    (s : IsCommon rows past plant found) where
  there : part.variant < length (variants_of rows peer)
  there = omega (arith, p.force_there, length-map (variants_of rows peer) (own_table rows))

  in_force : offered (table_at rows peer part.variant)
      ≡ held (own_tables rows peer) (view_of rows peer past)
  in_force =
      offered-at rows peer part.variant there ∙ ap (table_in (own_tables rows peer)) p.in_force

  -- its table is there
  pub IsThere-of : IsThere rows peer part.variant
  IsThere-of = record { lawful = s.lawful; known = known; there = there }

  -- what a node shows a peer by what it keeps is what the peer's view has
  pub IsShown-of : IsShown (updates_in past) (own_tables rows peer) (view_of rows peer past)
      (shown_of rows peer part plant)
  IsShown-of = record {
    table = in_force;
    book = p.sets;
    slots = p.slots;
    kept = s.kept;
    values = λ point seen. values_in-view_of rows peer point s.lawful
        (named_by_variant rows peer part.variant point there seen) past;
    devices = devices_seen rows past peer part.variant plant.devices s.lawful there s.devices;
  }

  pub IsShowable-of : IsShowable (shown_of rows peer part plant)
  IsShowable-of =
      let limit = ap (λ (t : OwnTable). t.sets) in_force in
      record {
        points = s.kept.points ∙ length-map rows.points (λ (row : PointRow). row.kind);
        devices = s.devices.devices.many ∙ length-map rows.devices row_control;
        named = p.sets.named;
        few = omega (
          arith,
          p.sets.few,
          limit,
          (variant_is_lawful rows peer part.variant IsThere-of).sets,
        );
        slots = p.slots.many;
      }
