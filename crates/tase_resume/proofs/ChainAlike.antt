-- The same entries behind two histories, of which the second stands where the first does, have one
-- snapshot.
use Rattle.std.proofs.Common.{◌≡◌, ℕ, zero, suc, ◌+◌, ◌<◌, Bool, true, false, if◌then◌else◌, List}
use Rattle.std.proofs.Common.{[], ◌∷◌, ◌++◌, map, length, Option, Some, None, is_some, refl, sym}
use Rattle.std.proofs.Common.{ap, subst, ◌∙◌, arith, bytes_eq, ◌==◌}
use Rattle.std.specs.Prelude.{option_map, filter, flat_map, is_none}
use Rattle.std.specs.List.{cons_option, range_with_len}
use Rattle.std.specs.Option.{option_map_or}
use Rattle.std.proofs.lemmas.List.Elements.{filter_map-append}
use mathlib.Core.Path.{fun_ext}
use Rattle.tase_points.specs.Sample.{Sample}
use Rattle.point_db.specs.Updates.{Update as PointUpdate, Updates, values_given, newest_of}
use Rattle.mms_data.specs.ObjectName.{ObjectName}
use Rattle.data_sets.specs.declared.book.DataSet.{DataSet}
use Rattle.bilateral.specs.Rows.{CentreRows, IsCentre, device_of}
use Rattle.sbo_device.specs.declared.key.Key.{Key}
use Rattle.sbo_device.specs.Moves.{Tag, DeviceAct, selecting, operating, tagging, DeviceMove}
use Rattle.sbo_device.specs.Moves as device
use Rattle.sbo_device.specs.States.{tag_of}
use Rattle.tase_views.specs.declared.event.EventKind.{EventKind}
use Rattle.tase_views.specs.declared.event.EventKind.TheVariants.{Update}
use Rattle.tase_views.specs.declared.event.Entry.{Entry}
use Rattle.tase_views.specs.Moves.{Act, opens, takes, closes, reads, writes, defines, deletes}
use Rattle.tase_views.specs.Moves.{calls, sort_of, Move, acts, updates, tags, ticks, asks, chooses}
use Rattle.tase_views.specs.Moves.{takes_orders, stops}
use Rattle.tase_views.specs.OwnTables.{OwnTable, OwnTables, own_tables, table_in}
use Rattle.tase_views.specs.Devices.{Deed, deed_of, step_of_deed, moment_of, done_by, device_moves}
use Rattle.tase_views.specs.History.{Past, opens_in, last_tick}
use Rattle.tase_views.specs.View.{Seen, own, other_acted, other_closed, updated, tagged, asked}
use Rattle.tase_views.specs.View.{chose, ticked, stopped, View, held, held_in, moves_in, view_of}
use Rattle.tase_views.specs.View.{step_in, steps_in, seen_in}
use Rattle.tase_views.specs.Sets.{SetError, define_fault}
use Rattle.tase_views.specs.Slots.{sets_in}
use Rattle.tase_views.proofs.DevicesSeen.{move_for, device_moves-cons}
use Rattle.tase_views.specs.Lived.{IsLived}
use Rattle.tase_views.specs.Listed.{defined_by, sets_listed}
use Rattle.tase_views.specs.Given.{update_by, updates_of}
use Rattle.tase_resume.specs.Bases.{open_seats, settled_past}
use Rattle.tase_resume.specs.Warming.{of_centre, table_event, tag_event, moment_event, set_events}
use Rattle.tase_resume.specs.Warming.{table_told, value_told, tag_told, sets_told, places_of}
use Rattle.tase_resume.specs.Warming.{warm_events, warm_entries}
use Rattle.tase_resume.specs.Recounted.{Gap}
use Rattle.tase_resume.proofs.RaisedHolds.{Offsets, raised_key}
use Rattle.tase_resume.proofs.Like.{raised, IsLike}
use Rattle.tase_resume.proofs.KeysAlike.{raised_in, moves_behind, moves_are, moves_raised}
use Rattle.tase_resume.proofs.KeysAlike.{tick_alike}
use Rattle.tase_resume.proofs.PeerOffsets.{offsets_seen}
use Rattle.tase_resume.proofs.ViewsAlike.{IsForceLike, force_alike}
use Rattle.tase_resume.proofs.Settled.{settled_lived}
use Rattle.tase_resume.proofs.SettledAlike.{open_same, closed_later, settled_later}
use Rattle.tase_resume.proofs.Selectable.{AreSelectable, selectable}
use Rattle.tase_resume.proofs.SetsAlike.{held_alike, fault_alike, sets_counted}
use Rattle.tase_resume.proofs.StepAlike.{like_behind_all, like_behind}
use Rattle.tase_resume.proofs.WarmKnown.{values_past, tag_past}
use Rattle.tase_resume.proofs.Resumed.{IsWarm, start, forces, view_is, other_view_is, going}

-- the data sets in order, behind the same seen moves

defined_alike : (tables : OwnTables) (offs : Offsets) (gap : Gap) (from : ℕ) (v w : View)
    (like : IsLike tables offs gap from v w) (move : Seen)
    → defined_by tables v (raised offs move) ≡ defined_by tables w move
defined_alike tables offs gap from v w like (own ordinal (defines set members)) =
    ap (λ (o : Option SetError). if is_none o
    then (let s : DataSet = record { name = set.item; members = members } in s) ∷ [] else [])
    (ap (λ (t : OwnTable). define_fault t (sets_in tables v) v set members)
    (held_alike tables offs gap from v w like)
    ∙ fault_alike (held tables w) (sets_in tables v) (sets_in tables w) v w set members
    (like.sets set.item) (sets_counted tables v w like.sets))
defined_alike tables offs gap from v w like (own ordinal opens) = refl
defined_alike tables offs gap from v w like (own ordinal takes) = refl
defined_alike tables offs gap from v w like (own ordinal closes) = refl
defined_alike tables offs gap from v w like (own ordinal (reads name)) = refl
defined_alike tables offs gap from v w like (own ordinal (writes name value)) = refl
defined_alike tables offs gap from v w like (own ordinal (deletes set)) = refl
defined_alike tables offs gap from v w like (own ordinal (calls call)) = refl
defined_alike tables offs gap from v w like (other_acted key ordinal device act) = refl
defined_alike tables offs gap from v w like (other_closed key ordinal) = refl
defined_alike tables offs gap from v w like (updated name value) = refl
defined_alike tables offs gap from v w like (tagged device tag) = refl
defined_alike tables offs gap from v w like (asked s) = refl
defined_alike tables offs gap from v w like (chose variant) = refl
defined_alike tables offs gap from v w like (ticked now) = refl
defined_alike tables offs gap from v w like stopped = refl

list_behind : (tables : OwnTables) (offs : Offsets) (gap : Gap) (from : ℕ)
    (selects : AreSelectable tables) (moves v w : View) → IsLike tables offs gap from v w
    → sets_listed tables v ≡ sets_listed tables w
    → sets_listed tables (map (raised offs) moves ++ v) ≡ sets_listed tables (moves ++ w)
list_behind tables offs gap from selects [] v w like same = same
list_behind tables offs gap from selects (move ∷ moves) v w like same =
    let one = map (raised offs) moves ++ v in
    let other = moves ++ w in
    let before = like_behind_all tables offs gap from selects moves v w like in
    let after = like_behind tables offs gap from selects move one other before in
    ap (λ (l : List DataSet). filter (λ (set : DataSet).
    is_some (sets_in tables (raised offs move ∷ one) set.name)) l
    ++ defined_by tables one (raised offs move))
    (list_behind tables offs gap from selects moves v w like same)
    ∙ ap (λ (test : List ℕ → Bool). filter (λ (set : DataSet). test set.name)
    (sets_listed tables other) ++ defined_by tables one (raised offs move))
    (fun_ext (λ z. ap (λ (o : Option (List ObjectName)). is_some o) (after.sets z)))
    ∙ ap (λ (l : List DataSet). filter (λ (set : DataSet).
    is_some (sets_in tables (move ∷ other) set.name)) (sets_listed tables other) ++ l)
    (defined_alike tables offs gap from one other before move)

-- tags behind the same moves

abbrev told_tag : Option DeviceMove → Option Tag
told_tag None = None
told_tag (Some (device.selected key now)) = None
told_tag (Some (device.operated key value)) = None
told_tag (Some (device.closed key)) = None
told_tag (Some (device.ticked now)) = None
told_tag (Some (device.tagged tag)) = Some tag

tag_cons : (move : Option DeviceMove) (moves : List DeviceMove)
    → tag_of (cons_option move moves)
    ≡ option_map_or (λ (t : Tag). t) (told_tag move) (tag_of moves)
tag_cons None moves = refl
tag_cons (Some (device.selected key now)) moves = refl
tag_cons (Some (device.operated key value)) moves = refl
tag_cons (Some (device.closed key)) moves = refl
tag_cons (Some (device.ticked now)) moves = refl
tag_cons (Some (device.tagged tag)) moves = refl

deed_tag : (name : List ℕ) (now later : ℕ) (one other : Key) (deed : Option Deed)
    → told_tag (move_for name now (option_map (step_of_deed one) deed))
    ≡ told_tag (move_for name later (option_map (step_of_deed other) deed))
deed_tag name now later one other None = refl
deed_tag name now later one other (Some deed) =
    by (bytes_eq deed.device.row.name name) deed.act
  where
    by : (b : Bool) (act : DeviceAct)
        → told_tag (if b then Some (done_by one now act) else None)
        ≡ told_tag (if b then Some (done_by other later act) else None)
    by true selecting = refl
    by true (operating value) = refl
    by true (tagging tag) = refl
    by false act = refl

module _ (rows : CentreRows) (off : Offsets) (one other : List Move)
    (like : (p : ℕ) → IsForceLike p one other) (name : List ℕ) where
  deeds_tag : (moves : List Move) (now later : ℕ) (key : Key) (act : Act)
      → told_tag (move_for name now (option_map (step_of_deed (raised_key off key))
      (deed_of (held_in rows (own_tables rows) (map (raised_in off) moves ++ one) key.peer) act)))
      ≡ told_tag (move_for name later (option_map (step_of_deed key)
      (deed_of (held_in rows (own_tables rows) (moves ++ other) key.peer) act)))
  deeds_tag moves now later key act =
      ap (λ (t : OwnTable). told_tag (move_for name now
      (option_map (step_of_deed (raised_key off key)) (deed_of t act))))
      (ap (table_in (own_tables rows key.peer))
      (force_alike off key.peer moves one other (like key.peer)).force)
      ∙ deed_tag name now later (raised_key off key) key
      (deed_of (held_in rows (own_tables rows) (moves ++ other) key.peer) act)

  step_tag : (moves : List Move) (now later : ℕ) (move : Move)
      → told_tag (move_for name now (step_in rows (own_tables rows)
      (map (raised_in off) moves ++ one) (raised_in off move)))
      ≡ told_tag (move_for name later (step_in rows (own_tables rows) (moves ++ other) move))
  step_tag moves now later (acts key closes) = refl
  step_tag moves now later (acts key opens) = refl
  step_tag moves now later (acts key takes) = refl
  step_tag moves now later (acts key (reads item)) = deeds_tag moves now later key (reads item)
  step_tag moves now later (acts key (writes item value)) =
      deeds_tag moves now later key (writes item value)
  step_tag moves now later (acts key (defines set members)) = refl
  step_tag moves now later (acts key (deletes set)) = refl
  step_tag moves now later (acts key (calls call)) = refl
  step_tag moves now later (updates point value) = refl
  step_tag moves now later (tags d tag) = by (bytes_eq (device_of rows d).name name)
    where
      by : (b : Bool)
          → (let o : Option Tag = told_tag (if b then Some (device.tagged tag) else None) in o)
          ≡ told_tag (if b then Some (device.tagged tag) else None)
      by b = refl
  step_tag moves now later (ticks moment) = refl
  step_tag moves now later (asks asker slot) = refl
  step_tag moves now later (chooses chooser variant) = refl
  step_tag moves now later takes_orders = refl
  step_tag moves now later stops = refl

  tags_behind : (moves : List Move)
      → tag_of (device_moves name (steps_in rows (own_tables rows) one))
      ≡ tag_of (device_moves name (steps_in rows (own_tables rows) other))
      → tag_of (device_moves name
      (steps_in rows (own_tables rows) (map (raised_in off) moves ++ one)))
      ≡ tag_of (device_moves name (steps_in rows (own_tables rows) (moves ++ other)))
  tags_behind [] same = same
  tags_behind (move ∷ moves) same =
      let owns = own_tables rows in
      let first = map (raised_in off) moves ++ one in
      let second = moves ++ other in
      let steps = steps_in rows owns first in
      let more = steps_in rows owns second in
      ap tag_of (device_moves-cons name (step_in rows owns first (raised_in off move)) steps)
      ∙ tag_cons (move_for name (moment_of steps) (step_in rows owns first (raised_in off move)))
      (device_moves name steps)
      ∙ ap (λ (o : Option Tag). option_map_or (λ (t : Tag). t) o
      (tag_of (device_moves name steps)))
      (step_tag moves (moment_of steps) (moment_of more) move)
      ∙ ap (λ (t : Tag). option_map_or (λ (u : Tag). u)
      (told_tag (move_for name (moment_of more) (step_in rows owns second move))) t)
      (tags_behind moves same)
      ∙ sym (tag_cons (move_for name (moment_of more) (step_in rows owns second move))
      (device_moves name more))
      ∙ sym (ap tag_of (device_moves-cons name (step_in rows owns second move) more))

-- last values behind the same entries

newest_behind : (values one other : List Sample) → newest_of one ≡ newest_of other
    → newest_of (values ++ one) ≡ newest_of (values ++ other)
newest_behind [] one other same = same
newest_behind (value ∷ values) one other same = refl

values_behind : (q : ℕ) (later past : Past)
    → values_past q (later ++ past) ≡ values_past q later ++ values_past q past
values_behind q later past =
    ap (λ (u : Updates). values_given u q)
    (filter_map-append (λ (entry : Entry). update_by (sort_of entry.event)) later past)
    ∙ filter_map-append
    (λ (u : PointUpdate). if u.point == q then Some u.value else None)
    (updates_of later) (updates_of past)

-- what is told of so many places
flat_same : (f g : ℕ → List EventKind) (n k : ℕ)
    → ((d : ℕ) → d < k + n → f d ≡ g d)
    → flat_map f (range_with_len k n) ≡ flat_map g (range_with_len k n)
flat_same f g zero k same = refl
flat_same f g (suc n) k same =
    ap (λ (l : List EventKind). l ++ flat_map f (range_with_len (k + 1) n))
    (same k (omega arith))
    ∙ ap (λ (l : List EventKind). g k ++ l)
    (flat_same f g n (k + 1) (λ d below. same d (omega (arith, below))))

-- what of two such histories their snapshots tell beside
pub record IsTwin (rows : CentreRows) (one other : Past) : Type 0 where
  pub given : (q : ℕ) → newest_of (values_past q one) ≡ newest_of (values_past q other)
  pub tags : (d : ℕ) → d < length rows.devices → tag_past rows d one ≡ tag_past rows d other
  pub lists : (p : ℕ) → sets_listed (own_tables rows p) (view_of rows p one)
      ≡ sets_listed (own_tables rows p) (view_of rows p other)

module _ (rows : CentreRows) (lawful : IsCentre rows) (off : Offsets) (gap : Gap)
    (one other : Past) (warm : IsWarm rows off gap one other) (twin : IsTwin rows one other) where
  lists_alike : (later : Past) → IsLived rows (later ++ other) → (p : ℕ)
      → sets_listed (own_tables rows p) (view_of rows p (later ++ one))
      ≡ sets_listed (own_tables rows p) (view_of rows p (later ++ other))
  lists_alike later lived p =
      ap (sets_listed (own_tables rows p))
      (view_is rows lawful off gap one other warm p later lived)
      ∙ list_behind (own_tables rows p) (offsets_seen rows p off) gap (opens_in other p)
      (selectable rows p lawful)
      (seen_in rows (own_tables rows) p (moves_in other) (moves_behind later other))
      (view_of rows p one) (view_of rows p other)
      (start rows lawful off gap one other warm p) (twin.lists p)
      ∙ sym (ap (sets_listed (own_tables rows p))
      (other_view_is rows lawful off gap one other warm p later))

  tags_alike : (later : Past) (d : ℕ) → d < length rows.devices
      → tag_past rows d (later ++ one) ≡ tag_past rows d (later ++ other)
  tags_alike later d within =
      let name = (device_of rows d).name in
      ap (λ (m : List Move). tag_of (device_moves name (steps_in rows (own_tables rows) m)))
      (moves_are later one
      ∙ ap (λ (m : List Move). m ++ moves_in one) (moves_raised off one other warm.both later))
      ∙ tags_behind rows off (moves_in one) (moves_in other)
      (forces rows lawful off gap one other warm) name (moves_behind later other)
      (twin.tags d within)
      ∙ sym (ap (λ (m : List Move). tag_of (device_moves name
      (steps_in rows (own_tables rows) m))) (moves_are later other))

  events_alike : (later : Past) → IsLived rows (later ++ other)
      → warm_events rows (later ++ one) ≡ warm_events rows (later ++ other)
  events_alike later lived =
      let a = later ++ one in
      let b = later ++ other in
      let like = λ (p : ℕ). going rows lawful off gap one other warm p later lived in
      let tables : table_told rows a ≡ table_told rows b =
      fun_ext (λ p. ap (table_event p) (like p).choice) in
      let values : value_told rows a ≡ value_told rows b =
      fun_ext (λ q. ap (λ (o : Option Sample).
      option_map_or (λ (value : Sample). Update q value ∷ []) o [])
      (ap newest_of (values_behind q later one)
      ∙ newest_behind (values_past q later) (values_past q one) (values_past q other)
      (twin.given q)
      ∙ sym (ap newest_of (values_behind q later other)))) in
      let tagged_same : flat_map (tag_told rows a) (places_of rows.devices)
      ≡ flat_map (tag_told rows b) (places_of rows.devices) =
      flat_same (tag_told rows a) (tag_told rows b) (length rows.devices) 0
      (λ d below. ap (tag_event d) (tags_alike later d (omega (arith, below)))) in
      let sets : sets_told rows a ≡ sets_told rows b =
      fun_ext (λ p.
      ap (λ (t : OwnTable). set_events p t (sets_listed (own_tables rows p) (view_of rows p a)))
      (held_alike (own_tables rows p) (offsets_seen rows p off) gap (opens_in other p)
      (view_of rows p a) (view_of rows p b) (like p))
      ∙ ap (set_events p (held (own_tables rows p) (view_of rows p b)))
      (lists_alike later lived p)) in
      let moment : last_tick a ≡ last_tick b = tick_alike later one other warm.tick in
      joined tables values tagged_same moment sets
    where
      joined : {x y z u : ℕ → List EventKind} {c d : List EventKind} {m n : ℕ}
          {p q : ℕ → List EventKind} → x ≡ y → z ≡ u → c ≡ d → m ≡ n → p ≡ q
          → flat_map x (places_of rows.tables) ++ flat_map z (places_of rows.points) ++ c
          ++ moment_event m ++ flat_map p (places_of rows.tables)
          ≡ flat_map y (places_of rows.tables) ++ flat_map u (places_of rows.points) ++ d
          ++ moment_event n ++ flat_map q (places_of rows.tables)
      joined e f g h i = rw (e, f, g, h, i) refl

  -- a run may be cut as often as one likes
  pub snapshots_alike : (later : Past) → IsLived rows (later ++ other)
      → warm_entries rows (later ++ one) ≡ warm_entries rows (later ++ other)
  snapshots_alike later lived =
      let seats = open_seats (later ++ other) in
      let more = closed_later seats later in
      let first : settled_past (later ++ one) ≡ more ++ one =
      settled_later later one warm.one_going
      ∙ ap (λ (s : List ℕ). closed_later s later ++ one)
      (open_same off one other warm.both later) in
      let second : settled_past (later ++ other) ≡ more ++ other =
      settled_later later other warm.other_going in
      ap (λ (p : Past). map of_centre (warm_events rows p)) first
      ∙ ap (map of_centre) (events_alike more
      (subst (IsLived rows) second (settled_lived rows (later ++ other) lived)))
      ∙ sym (ap (λ (p : Past). map of_centre (warm_events rows p)) second)
