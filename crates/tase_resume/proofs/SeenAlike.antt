-- Behind one seen move more two views have alike the table in force, the moment, values and counts
-- of points, tags and holders of devices.
use Rattle.std.proofs.Common.{◌≡◌, ℕ, ◌+◌, ◌-◌, Bool, true, false, if◌then◌else◌, List, ◌∷◌, Option}
use Rattle.std.proofs.Common.{Some, None, refl, sym, ap, ◌∙◌, arith, bytes_eq}
use Rattle.std.specs.Prelude.{filter_map, option_map}
use Rattle.std.specs.List.{cons_option}
use Rattle.tase_points.specs.declared.kind.Kind.{Kind}
use Rattle.tase_points.specs.Sample.{Sample}
use Rattle.tase_points.specs.Values.{is_change}
use Rattle.point_db.specs.Updates.{last_of, changes_of}
use Rattle.sbo_device.specs.declared.key.Key.{Key}
use Rattle.sbo_device.specs.Moves.{ControlPoint, DeviceState, Tag, DeviceAct, selecting, operating}
use Rattle.sbo_device.specs.Moves.{tagging, DeviceMove}
use Rattle.sbo_device.specs.Moves as device
use Rattle.sbo_device.specs.States.{after, state_in, tag_of}
use Rattle.tase_views.specs.Moves.{opens, takes, closes, reads, writes, defines, deletes, calls}
use Rattle.tase_views.specs.Force.{TableMove, opened, closed, chosen, open_count, last_chosen}
use Rattle.tase_views.specs.Force.{force_of}
use Rattle.tase_views.specs.OwnTables.{OwnTable, OwnTables}
use Rattle.tase_views.specs.Devices.{Deed, deed_of, step_of_deed, moment_of, done_by}
use Rattle.tase_views.specs.View.{Seen, own, other_acted, other_closed, updated, tagged, asked}
use Rattle.tase_views.specs.View.{chose, ticked, stopped, View, table_seen, force, held, moment_in}
use Rattle.tase_views.specs.View.{own_key, other_key, step_seen, steps_seen, moves_seen}
use Rattle.tase_views.specs.Values.{update_of, values_in}
use Rattle.tase_views.proofs.InForce.{steps_seen-moment}
use Rattle.tase_views.proofs.DevicesSeen.{move_for, device_moves-cons}
use Rattle.tase_views.specs.Chosen.{chosen_in}
use Rattle.tase_resume.proofs.RaisedHolds.{Offsets, raised_key, raised_move, raised_state}
use Rattle.tase_resume.proofs.RaisedHolds.{after_raised}
use Rattle.tase_resume.proofs.Like.{raised}

-- the table in force

pub table_raised : (offs : Offsets) (move : Seen) → table_seen (raised offs move) ≡ table_seen move
table_raised offs (own ordinal opens) = refl
table_raised offs (own ordinal takes) = refl
table_raised offs (own ordinal closes) = refl
table_raised offs (own ordinal (reads name)) = refl
table_raised offs (own ordinal (writes name value)) = refl
table_raised offs (own ordinal (defines set members)) = refl
table_raised offs (own ordinal (deletes set)) = refl
table_raised offs (own ordinal (calls call)) = refl
table_raised offs (other_acted key ordinal device act) = refl
table_raised offs (other_closed key ordinal) = refl
table_raised offs (updated name value) = refl
table_raised offs (tagged device tag) = refl
table_raised offs (asked s) = refl
table_raised offs (chose variant) = refl
table_raised offs (ticked now) = refl
table_raised offs stopped = refl

pub count_more : (move : Option TableMove) (one other : List TableMove)
    → open_count one ≡ open_count other
    → open_count (cons_option move one) ≡ open_count (cons_option move other)
count_more None one other same = same
count_more (Some opened) one other same = ap (λ n. 1 + n) same
count_more (Some closed) one other same = ap (λ n. n - 1) same
count_more (Some (chosen variant)) one other same = same

pub choice_more : (move : Option TableMove) (one other : List TableMove)
    → last_chosen one ≡ last_chosen other
    → last_chosen (cons_option move one) ≡ last_chosen (cons_option move other)
choice_more None one other same = same
choice_more (Some opened) one other same = same
choice_more (Some closed) one other same = same
choice_more (Some (chosen variant)) one other same = refl

pub force_more : (move : Option TableMove) (one other : List TableMove)
    → open_count one ≡ open_count other → last_chosen one ≡ last_chosen other
    → force_of one ≡ force_of other
    → force_of (cons_option move one) ≡ force_of (cons_option move other)
force_more None one other counts choices same = same
force_more (Some move) one other counts choices same =
    rw (
      count_more (Some move) one other counts,
      choice_more (Some move) one other choices,
      same,
    ) refl

pub count_seen : (offs : Offsets) (move : Seen) (v w : View)
    → open_count (filter_map table_seen v) ≡ open_count (filter_map table_seen w)
    → open_count (filter_map table_seen (raised offs move ∷ v))
    ≡ open_count (filter_map table_seen (move ∷ w))
count_seen offs move v w same =
    ap (λ (o : Option TableMove). open_count (cons_option o (filter_map table_seen v)))
    (table_raised offs move)
    ∙ count_more (table_seen move) (filter_map table_seen v) (filter_map table_seen w) same

pub choice_seen : (offs : Offsets) (move : Seen) (v w : View) → chosen_in v ≡ chosen_in w
    → chosen_in (raised offs move ∷ v) ≡ chosen_in (move ∷ w)
choice_seen offs move v w same =
    ap (λ (o : Option TableMove). last_chosen (cons_option o (filter_map table_seen v)))
    (table_raised offs move)
    ∙ choice_more (table_seen move) (filter_map table_seen v) (filter_map table_seen w) same

pub force_seen : (offs : Offsets) (move : Seen) (v w : View)
    → open_count (filter_map table_seen v) ≡ open_count (filter_map table_seen w)
    → chosen_in v ≡ chosen_in w → force v ≡ force w
    → force (raised offs move ∷ v) ≡ force (move ∷ w)
force_seen offs move v w counts choices same =
    ap (λ (o : Option TableMove). force_of (cons_option o (filter_map table_seen v)))
    (table_raised offs move)
    ∙ force_more (table_seen move) (filter_map table_seen v) (filter_map table_seen w) counts
    choices same

-- the moment

pub moment_seen : (offs : Offsets) (move : Seen) (v w : View) → moment_in v ≡ moment_in w
    → moment_in (raised offs move ∷ v) ≡ moment_in (move ∷ w)
moment_seen offs (own ordinal act) v w same = same
moment_seen offs (other_acted key ordinal device act) v w same = same
moment_seen offs (other_closed key ordinal) v w same = same
moment_seen offs (updated name value) v w same = same
moment_seen offs (tagged device tag) v w same = same
moment_seen offs (asked s) v w same = same
moment_seen offs (chose variant) v w same = same
moment_seen offs (ticked now) v w same = refl
moment_seen offs stopped v w same = same

-- values and changes

pub update_raised : (offs : Offsets) (name : List ℕ) (move : Seen)
    → update_of name (raised offs move) ≡ update_of name move
update_raised offs name (own ordinal act) = refl
update_raised offs name (other_acted key ordinal device act) = refl
update_raised offs name (other_closed key ordinal) = refl
update_raised offs name (updated point value) = refl
update_raised offs name (tagged device tag) = refl
update_raised offs name (asked s) = refl
update_raised offs name (chose variant) = refl
update_raised offs name (ticked now) = refl
update_raised offs name stopped = refl

last_more : (kind : Kind) (value : Option Sample) (one other : List Sample)
    → last_of kind one ≡ last_of kind other
    → last_of kind (cons_option value one) ≡ last_of kind (cons_option value other)
last_more kind None one other same = same
last_more kind (Some value) one other same = refl

-- how many changes a value is from another
abbrev one_change : Sample → Sample → ℕ
one_change before value = if is_change before value then 1 else 0

changes_more : (kind : Kind) (more : ℕ) (value : Option Sample) (one other : List Sample)
    → last_of kind one ≡ last_of kind other → changes_of kind one ≡ changes_of kind other + more
    → changes_of kind (cons_option value one) ≡ changes_of kind (cons_option value other) + more
changes_more kind more None one other last same = same
changes_more kind more (Some value) one other last same =
    let first : one_change (last_of kind one) value ≡ one_change (last_of kind other) value =
    ap (λ (t : Sample). one_change t value) last in
    omega (arith, first, same)

pub last_seen : (offs : Offsets) (move : Seen) (v w : View) (kind : Kind) (name : List ℕ)
    → last_of kind (values_in v name) ≡ last_of kind (values_in w name)
    → last_of kind (values_in (raised offs move ∷ v) name)
    ≡ last_of kind (values_in (move ∷ w) name)
last_seen offs move v w kind name same =
    ap (λ (o : Option Sample). last_of kind (cons_option o (values_in v name)))
    (update_raised offs name move)
    ∙ last_more kind (update_of name move) (values_in v name) (values_in w name) same

pub changes_seen : (offs : Offsets) (move : Seen) (v w : View) (kind : Kind) (name : List ℕ)
    (more : ℕ) → last_of kind (values_in v name) ≡ last_of kind (values_in w name)
    → changes_of kind (values_in v name) ≡ changes_of kind (values_in w name) + more
    → changes_of kind (values_in (raised offs move ∷ v) name)
    ≡ changes_of kind (values_in (move ∷ w) name) + more
changes_seen offs move v w kind name more last same =
    ap (λ (o : Option Sample). changes_of kind (cons_option o (values_in v name)))
    (update_raised offs name move)
    ∙ changes_more kind more (update_of name move) (values_in v name) (values_in w name) last same

-- devices

done_raised : (offs : Offsets) (key : Key) (now : ℕ) (act : DeviceAct)
    → done_by (raised_key offs key) now act ≡ raised_move offs (done_by key now act)
done_raised offs key now selecting = refl
done_raised offs key now (operating value) = refl
done_raised offs key now (tagging tag) = refl

done_if : (offs : Offsets) (key : Key) (now : ℕ) (act : DeviceAct) (b : Bool)
    → (if b then Some (done_by (raised_key offs key) now act) else None)
    ≡ option_map (raised_move offs) (if b then Some (done_by key now act) else None)
done_if offs key now act true = ap (λ (m : DeviceMove). Some m) (done_raised offs key now act)
done_if offs key now act false = refl

deed_raised : (offs : Offsets) (name : List ℕ) (now : ℕ) (key : Key) (deed : Option Deed)
    → move_for name now (option_map (step_of_deed (raised_key offs key)) deed)
    ≡ option_map (raised_move offs) (move_for name now (option_map (step_of_deed key) deed))
deed_raised offs name now key None = refl
deed_raised offs name now key (Some deed) =
    done_if offs key now deed.act (bytes_eq deed.device.row.name name)

tag_if : (offs : Offsets) (tag : Tag) (b : Bool)
    → (let o : Option DeviceMove = if b then Some (device.tagged tag) else None in o)
    ≡ option_map (raised_move offs) (if b then Some (device.tagged tag) else None)
tag_if offs tag true = refl
tag_if offs tag false = refl

module _ (tables : OwnTables) (offs : Offsets) (v w : View) (name : List ℕ) where
  -- what a seen move behind one of the views is to the device
  abbrev move_told : View → Seen → Option DeviceMove
  move_told view move =
      move_for name (moment_of (steps_seen tables view)) (step_seen tables view move)

  by_deed : (key : Key) (one other : OwnTable) (now : ℕ) (deed : OwnTable → Option Deed)
      → one ≡ other
      → move_for name now (option_map (step_of_deed (raised_key offs key)) (deed one))
      ≡ option_map (raised_move offs)
      (move_for name now (option_map (step_of_deed key) (deed other)))
  by_deed key one other now deed same =
      ap (λ (t : OwnTable).
      move_for name now (option_map (step_of_deed (raised_key offs key)) (deed t))) same
      ∙ deed_raised offs name now key (deed other)

  told_at : (now : ℕ) (move : Seen) → held tables v ≡ held tables w
      → move_for name now (step_seen tables v (raised offs move))
      ≡ option_map (raised_move offs) (move_for name now (step_seen tables w move))
  told_at now (own ordinal closes) same = refl
  told_at now (own ordinal opens) same = refl
  told_at now (own ordinal takes) same = refl
  told_at now (own ordinal (reads item)) same =
      by_deed (own_key ordinal) (held tables v) (held tables w) now
      (λ table. deed_of table (reads item)) same
  told_at now (own ordinal (writes item value)) same =
      by_deed (own_key ordinal) (held tables v) (held tables w) now
      (λ table. deed_of table (writes item value)) same
  told_at now (own ordinal (defines set members)) same = refl
  told_at now (own ordinal (deletes set)) same = refl
  told_at now (own ordinal (calls call)) same = refl
  told_at now (other_acted key ordinal named act) same =
      done_if offs (other_key key ordinal) now act (bytes_eq named name)
  told_at now (other_closed key ordinal) same = refl
  told_at now (updated point value) same = refl
  told_at now (tagged named tag) same = tag_if offs tag (bytes_eq named name)
  told_at now (asked s) same = refl
  told_at now (chose variant) same = refl
  told_at now (ticked moment) same = refl
  told_at now stopped same = refl

  told_raised : (move : Seen) → moment_in v ≡ moment_in w → held tables v ≡ held tables w
      → move_told v (raised offs move) ≡ option_map (raised_move offs) (move_told w move)
  told_raised move moment same =
      ap (λ n. move_for name n (step_seen tables v (raised offs move)))
      (steps_seen-moment tables v ∙ moment ∙ sym (steps_seen-moment tables w))
      ∙ told_at (moment_of (steps_seen tables w)) move same

  tag_behind : (move : Option DeviceMove) (one other : List DeviceMove) → tag_of one ≡ tag_of other
      → tag_of (cons_option (option_map (raised_move offs) move) one)
      ≡ tag_of (cons_option move other)
  tag_behind None one other same = same
  tag_behind (Some (device.selected key now)) one other same = same
  tag_behind (Some (device.operated key value)) one other same = same
  tag_behind (Some (device.closed key)) one other same = same
  tag_behind (Some (device.ticked now)) one other same = same
  tag_behind (Some (device.tagged tag)) one other same = refl

  state_behind : (point : ControlPoint) (move : Option DeviceMove) (one other : List DeviceMove)
      → state_in point one ≡ raised_state offs (state_in point other)
      → state_in point (cons_option (option_map (raised_move offs) move) one)
      ≡ raised_state offs (state_in point (cons_option move other))
  state_behind point None one other same = same
  state_behind point (Some move) one other same =
      ap (λ (s : DeviceState). after (raised_move offs move) s) same
      ∙ after_raised offs move (state_in point other)

  pub tag_seen : (move : Seen) → moment_in v ≡ moment_in w → held tables v ≡ held tables w
      → tag_of (moves_seen tables v name) ≡ tag_of (moves_seen tables w name)
      → tag_of (moves_seen tables (raised offs move ∷ v) name)
      ≡ tag_of (moves_seen tables (move ∷ w) name)
  tag_seen move moment table same =
      ap tag_of
      (device_moves-cons name (step_seen tables v (raised offs move)) (steps_seen tables v))
      ∙ ap (λ (o : Option DeviceMove). tag_of (cons_option o (moves_seen tables v name)))
      (told_raised move moment table)
      ∙ tag_behind (move_told w move) (moves_seen tables v name) (moves_seen tables w name) same
      ∙ sym (ap tag_of
      (device_moves-cons name (step_seen tables w move) (steps_seen tables w)))

  pub state_seen : (point : ControlPoint) (move : Seen) → moment_in v ≡ moment_in w
      → held tables v ≡ held tables w
      → state_in point (moves_seen tables v name)
      ≡ raised_state offs (state_in point (moves_seen tables w name))
      → state_in point (moves_seen tables (raised offs move ∷ v) name)
      ≡ raised_state offs (state_in point (moves_seen tables (move ∷ w) name))
  state_seen point move moment table same =
      ap (state_in point)
      (device_moves-cons name (step_seen tables v (raised offs move)) (steps_seen tables v))
      ∙ ap (λ (o : Option DeviceMove). state_in point (cons_option o (moves_seen tables v name)))
      (told_raised move moment table)
      ∙ state_behind point (move_told w move) (moves_seen tables v name) (moves_seen tables w name)
      same
      ∙ sym (ap (λ (l : List DeviceMove). raised_state offs (state_in point l))
      (device_moves-cons name (step_seen tables w move) (steps_seen tables w)))
