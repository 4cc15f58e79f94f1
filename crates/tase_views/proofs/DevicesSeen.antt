-- What a peer sees of a device is what all moves of the node are to it, by other numbers of the
-- peers and without closes of associations whose table has no part in it.
use Rattle.std.proofs.Common.{◌≡◌, ℕ, ◌==◌, Bool, true, false, not, ◌||◌}
use Rattle.std.proofs.Common.{if◌then◌else◌, List, [], ◌∷◌, Option, Some, None, is_some}
use Rattle.std.proofs.Common.{bytes_eq, refl, sym, ap, ◌∙◌}
use Rattle.std.specs.Prelude.{option_map, option_and_then}
use Rattle.std.specs.List.{cons_option}
use Rattle.std.specs.Option.{option_map_or}
use Rattle.std.proofs.lemmas.Bool.{eqb-true, eq-eqb}
use Rattle.std.proofs.lemmas.Slice.Eq.{bytes_eq-Decides}
use Rattle.bilateral.specs.Rows.{CentreRows, table_of, device_of, point_of}
use Rattle.sbo_device.specs.declared.key.Key.{Key}
use Rattle.sbo_device.specs.Moves.{Tag, DeviceAct, selecting, operating, tagging, DeviceMove}
use Rattle.sbo_device.specs.Moves as device
use Rattle.sbo_device.specs.States.{tag_of}
use Rattle.sbo_device.specs.SameMoves.{renumbered_key, renumbered, is_kept}
use Rattle.tase_views.specs.Moves.{Act, opens, takes, closes, reads, writes, defines, deletes}
use Rattle.tase_views.specs.Moves.{calls}
use Rattle.tase_views.specs.Moves.{Move, acts, updates, tags, ticks, asks, chooses, takes_orders}
use Rattle.tase_views.specs.Moves.{stops}
use Rattle.tase_views.specs.OwnTables.{OwnDevice, OwnTable, OwnTables, own_tables, device_named}
use Rattle.tase_views.specs.OwnTables.{is_selectable, is_point_of}
use Rattle.tase_views.specs.Devices.{Deed, deed_of, DeviceStep, step_of_deed, moment_of}
use Rattle.tase_views.specs.Devices.{done_by, step_for, device_moves}
use Rattle.tase_views.specs.View.{Seen, own, other_acted, other_closed, updated, tagged, asked}
use Rattle.tase_views.specs.View.{chose}
use Rattle.tase_views.specs.View.{View, shows_act, deed_seen, other_seen, held_in, seen_by, view_by}
use Rattle.tase_views.specs.View.{step_in, steps_in, held, own_key, other_key, peer_number}
use Rattle.tase_views.specs.View.{step_seen}
use Rattle.tase_views.specs.View.{steps_seen, moves_seen}
use Rattle.tase_views.proofs.InForce.{held-seen, moment-alike}
use Rattle.tase_views.proofs.KeyNumbers.{shares}

-- what a step is to the device with a name at a moment
abbrev pub move_for : List ℕ → ℕ → Option DeviceStep → Option DeviceMove
move_for name now step = option_and_then (step_for name now) step

-- what a move of the node, and a seen move, are to the device
abbrev pub move_in : CentreRows → List ℕ → ℕ → List Move → Move → Option DeviceMove
move_in rows name now before move = move_for name now (step_in rows (own_tables rows) before move)

abbrev told_in : OwnTables → List ℕ → View → Seen → Option DeviceMove
told_in tables name view seen =
    move_for name (moment_of (steps_seen tables view)) (step_seen tables view seen)

-- the moves of the device, one more

pub device_moves-cons : (name : List ℕ) (step : Option DeviceStep) (steps : List DeviceStep)
    → device_moves name (cons_option step steps)
    ≡ cons_option (move_for name (moment_of steps) step) (device_moves name steps)
device_moves-cons name None steps = refl
device_moves-cons name (Some step) steps = refl

moves_seen-cons : (tables : OwnTables) (name : List ℕ) (seen : Option Seen) (view : View)
    → moves_seen tables (cons_option seen view) name
    ≡ cons_option (option_and_then (told_in tables name view) seen) (moves_seen tables view name)
moves_seen-cons tables name None view = refl
moves_seen-cons tables name (Some move) view =
    device_moves-cons name (step_seen tables view move) (steps_seen tables view)

-- a kept move with the other number
abbrev pub kept : (ℕ → Bool) → (ℕ → ℕ) → DeviceMove → Option DeviceMove
kept known number move = if is_kept known move then Some (renumbered number move) else None

-- whether a peer's table in force has part in the devices of this one
abbrev pub has_part : CentreRows → ℕ → List Move → ℕ → Bool
has_part rows peer before other =
    (other == peer)
    || shares (own_tables rows peer) (held_in rows (own_tables rows) before other)

-- a deed, with the device's own number of the peer
renumbered_deed : (known : ℕ → Bool) (number : ℕ → ℕ) (key : Key) (now : ℕ) (act : DeviceAct)
    → kept known number (done_by key now act) ≡ Some (done_by (renumbered_key number key) now act)
renumbered_deed known number key now selecting = refl
renumbered_deed known number key now (operating value) = refl
renumbered_deed known number key now (tagging tag) = refl

own_deed : (known : ℕ → Bool) (number : ℕ → ℕ) (name : List ℕ) (now : ℕ) (key : Key)
    (deed : Option Deed)
    → move_for name now (option_map (step_of_deed (renumbered_key number key)) deed)
    ≡ option_and_then (kept known number) (move_for name now (option_map (step_of_deed key) deed))
own_deed known number name now key None = refl
own_deed known number name now key (Some deed) = by (bytes_eq deed.device.row.name name)
  where
    by : (b : Bool)
        → (if b then Some (done_by (renumbered_key number key) now deed.act) else None)
        ≡ option_and_then (kept known number) (if b then Some (done_by key now deed.act) else None)
    by true = sym (renumbered_deed known number key now deed.act)
    by false = refl

-- tables with a device that isn't direct show all that is done to it
shows : (tables : OwnTables) (name : List ℕ) (act : DeviceAct) → is_selectable tables name ≡ true
    → shows_act tables name act ≡ true
shows tables name selecting there = there
shows tables name (operating value) there = there
shows tables name (tagging tag) there = by (device_named tables name) there
  where
    by : (d : Option OwnDevice)
        → option_map_or (λ (e : OwnDevice). not e.row.direct) d false ≡ true
        → is_some d ≡ true
    by None e = e
    by (Some d) e = refl

-- tables that have the device so that it isn't direct have it
pub has_named : (tables : OwnTables) (name : List ℕ) → is_selectable tables name ≡ true
    → is_some (device_named tables name) ≡ true
has_named tables name there = shows tables name (tagging (record { tag = 0; reason = [] })) there

none_if : (b : Bool) → (let o : Option DeviceMove = if b then None else None in o) ≡ None
none_if true = refl
none_if false = refl

other_deed : (known : ℕ → Bool) (number : ℕ → ℕ) (tables : OwnTables) (view : View)
    (name key_text : List ℕ) (key : Key) (deed : Option Deed) → is_selectable tables name ≡ true
    → other_key key_text key.ordinal ≡ renumbered_key number key
    → option_and_then (told_in tables name view)
    (option_and_then (deed_seen tables key_text key.ordinal) deed)
    ≡ option_and_then (kept known number)
    (move_for name (moment_of (steps_seen tables view)) (option_map (step_of_deed key) deed))
other_deed known number tables view name key_text key None there e = refl
other_deed known number tables view name key_text key (Some deed) there e =
    by (bytes_eq deed.device.row.name name) refl
  where
    now : ℕ
    now = moment_of (steps_seen tables view)

    shown_deed : (b : Bool)
        → option_and_then (told_in tables name view)
        (if b then Some (other_acted key_text key.ordinal deed.device.row.name deed.act) else None)
        ≡ (if b then (if bytes_eq deed.device.row.name name
        then Some (done_by (other_key key_text key.ordinal) (moment_of (steps_seen tables view))
        deed.act) else None) else None)
    shown_deed true = refl
    shown_deed false = refl

    by : (t : Bool) → bytes_eq deed.device.row.name name ≡ t
        → option_and_then (told_in tables name view)
        (if shows_act tables deed.device.row.name deed.act
        then Some (other_acted key_text key.ordinal deed.device.row.name deed.act) else None)
        ≡ option_and_then (kept known number)
        (if bytes_eq deed.device.row.name name
        then Some (done_by key (moment_of (steps_seen tables view)) deed.act) else None)
    by true found =
        let same : deed.device.row.name ≡ name =
        (bytes_eq-Decides deed.device.row.name name).0 found in
        let visible : shows_act tables deed.device.row.name deed.act ≡ true =
        ap (λ n. shows_act tables n deed.act) same ∙ shows tables name deed.act there in
        shown_deed (shows_act tables deed.device.row.name deed.act)
        ∙ rw (visible, found) (ap (λ (k : Key).
        Some (done_by k (moment_of (steps_seen tables view)) deed.act)) e
        ∙ sym (renumbered_deed known number key (moment_of (steps_seen tables view)) deed.act))
    by false found =
        shown_deed (shows_act tables deed.device.row.name deed.act)
        ∙ rw found (none_if (shows_act tables deed.device.row.name deed.act))

-- a peer's own associations have the number 0 in its view, others' that of their peer's key
pub own_number : (rows : CentreRows) (peer ordinal : ℕ)
    → renumbered_key (peer_number rows peer) (record { peer = peer; ordinal = ordinal })
    ≡ own_key ordinal
own_number rows peer ordinal = rw (eq-eqb peer peer refl) refl

other_number : (rows : CentreRows) (peer : ℕ) (key : Key) → (key.peer == peer) ≡ false
    → other_key (table_of rows key.peer).key key.ordinal
    ≡ renumbered_key (peer_number rows peer) key
other_number rows peer key apart = rw apart refl

own_deed_in : (rows : CentreRows) (peer ordinal : ℕ) (known : ℕ → Bool) (name : List ℕ) (now : ℕ)
    (deed : Option Deed)
    → move_for name now (option_map (step_of_deed (own_key ordinal)) deed)
    ≡ option_and_then (kept known (peer_number rows peer))
    (move_for name now
    (option_map (step_of_deed (record { peer = peer; ordinal = ordinal })) deed))
own_deed_in rows peer ordinal known name now deed =
    ap (λ (k : Key). move_for name now (option_map (step_of_deed k) deed))
    (sym (own_number rows peer ordinal))
    ∙ own_deed known (peer_number rows peer) name now (record { peer = peer; ordinal = ordinal })
    deed

-- what an act of an association by this table is, as its own peer sees it
own_act : (rows : CentreRows) (peer ordinal : ℕ) (name : List ℕ) (before : List Move) (view : View)
    (act : Act)
    → held (own_tables rows peer) view ≡ held_in rows (own_tables rows) before peer
    → told_in (own_tables rows peer) name view (own ordinal act)
    ≡ option_and_then (kept (has_part rows peer before) (peer_number rows peer))
    (move_in rows name (moment_of (steps_seen (own_tables rows peer) view)) before
    (acts (record { peer = peer; ordinal = ordinal }) act))
own_act rows peer ordinal name before view closes same =
    by (peer == peer) refl (eq-eqb peer peer refl)
  where
    by : (t : Bool) → (peer == peer) ≡ t → t ≡ true
        → Some (device.closed (own_key ordinal))
        ≡ kept (has_part rows peer before) (peer_number rows peer)
        (device.closed (record { peer = peer; ordinal = ordinal }))
    by t e is = rw (e ∙ is) refl
own_act rows peer ordinal name before view opens same = refl
own_act rows peer ordinal name before view takes same = refl
own_act rows peer ordinal name before view (reads item) same =
    ap (λ (table : OwnTable).
    move_for name (moment_of (steps_seen (own_tables rows peer) view))
    (option_map (step_of_deed (own_key ordinal))
    (deed_of table (reads item)))) same
    ∙ own_deed_in rows peer ordinal (has_part rows peer before) name
    (moment_of (steps_seen (own_tables rows peer) view))
    (deed_of (held_in rows (own_tables rows) before peer) (reads item))
own_act rows peer ordinal name before view (writes item value) same =
    ap (λ (table : OwnTable).
    move_for name (moment_of (steps_seen (own_tables rows peer) view))
    (option_map (step_of_deed (own_key ordinal))
    (deed_of table (writes item value)))) same
    ∙ own_deed_in rows peer ordinal (has_part rows peer before) name
    (moment_of (steps_seen (own_tables rows peer) view))
    (deed_of (held_in rows (own_tables rows) before peer) (writes item value))
own_act rows peer ordinal name before view (defines set members) same = refl
own_act rows peer ordinal name before view (deletes set) same = refl
own_act rows peer ordinal name before view (calls call) same = refl

other_close : (rows : CentreRows) (peer : ℕ) (name : List ℕ) (view : View) (key : Key) (b : Bool)
    → option_and_then (told_in (own_tables rows peer) name view)
    (if b then Some (other_closed (table_of rows key.peer).key key.ordinal) else None)
    ≡ (if b then Some (device.closed (other_key (table_of rows key.peer).key key.ordinal))
    else None)
other_close rows peer name view key true = refl
other_close rows peer name view key false = refl

-- and as another one sees it, by the key of its peer
other_act : (rows : CentreRows) (peer : ℕ) (name : List ℕ) (before : List Move) (view : View)
    (key : Key) (act : Act) → is_selectable (own_tables rows peer) name ≡ true
    → (key.peer == peer) ≡ false
    → option_and_then (told_in (own_tables rows peer) name view)
    (other_seen (own_tables rows peer) (table_of rows key.peer).key
    (held_in rows (own_tables rows) before key.peer) key.ordinal act)
    ≡ option_and_then (kept (has_part rows peer before) (peer_number rows peer))
    (move_in rows name (moment_of (steps_seen (own_tables rows peer) view)) before (acts key act))
other_act rows peer name before view key closes there apart =
    other_close rows peer name view key
    (shares (own_tables rows peer) (held_in rows (own_tables rows) before key.peer))
    ∙ rw apart refl
other_act rows peer name before view key opens there apart = refl
other_act rows peer name before view key takes there apart = refl
other_act rows peer name before view key (reads item) there apart =
    other_deed (has_part rows peer before) (peer_number rows peer)
    (own_tables rows peer) view name
    (table_of rows key.peer).key key
    (deed_of (held_in rows (own_tables rows) before key.peer) (reads item)) there
    (other_number rows peer key apart)
other_act rows peer name before view key (writes item value) there apart =
    other_deed (has_part rows peer before) (peer_number rows peer)
    (own_tables rows peer) view name
    (table_of rows key.peer).key key
    (deed_of (held_in rows (own_tables rows) before key.peer) (writes item value)) there
    (other_number rows peer key apart)
other_act rows peer name before view key (defines set members) there apart = refl
other_act rows peer name before view key (deletes set) there apart = refl
other_act rows peer name before view key (calls call) there apart = refl

-- what is nothing to a device
unseen_if : (tables : OwnTables) (name : List ℕ) (view : View) (b : Bool) (seen : Seen)
    → told_in tables name view seen ≡ None
    → option_and_then (told_in tables name view) (if b then Some seen else None) ≡ None
unseen_if tables name view true seen e = e
unseen_if tables name view false seen e = refl

-- a tag of a device that the tables have
seen_tag : (tables : OwnTables) (view : View) (name other : List ℕ) (tag : Tag)
    → is_some (device_named tables name) ≡ true
    → option_and_then (told_in tables name view)
    (if is_some (device_named tables other) then Some (tagged other tag) else None)
    ≡ (if bytes_eq other name then Some (device.tagged tag) else None)
seen_tag tables view name other tag there = by (bytes_eq other name) refl
  where
    unseen : (b : Bool)
        → bytes_eq other name ≡ false
        → option_and_then (told_in tables name view) (if b then Some (tagged other tag) else None)
        ≡ None
    unseen true e = rw e refl
    unseen false e = refl

    by : (t : Bool) → bytes_eq other name ≡ t
        → option_and_then (told_in tables name view)
        (if is_some (device_named tables other) then Some (tagged other tag) else None)
        ≡ (if bytes_eq other name then Some (device.tagged tag) else None)
    by true e =
        let same : other ≡ name = (bytes_eq-Decides other name).0 e in
        let visible : is_some (device_named tables other) ≡ true =
        ap (λ n. is_some (device_named tables n)) same ∙ there in
        rw (visible, e) refl
    by false e = rw e (unseen (is_some (device_named tables other)) e)

kept_tag : (known : ℕ → Bool) (number : ℕ → ℕ) (tag : Tag) (b : Bool)
    → (if b then Some (device.tagged tag) else None)
    ≡ option_and_then (kept known number) (if b then Some (device.tagged tag) else None)
kept_tag known number tag true = refl
kept_tag known number tag false = refl

-- move by move: what is seen of one is what it is to the device
move_seen : (rows : CentreRows) (peer : ℕ) (name : List ℕ) (before : List Move) (view : View)
    (move : Move) → is_selectable (own_tables rows peer) name ≡ true
    → held (own_tables rows peer) view ≡ held_in rows (own_tables rows) before peer
    → option_and_then (told_in (own_tables rows peer) name view)
    (seen_by rows (own_tables rows) peer before move)
    ≡ option_and_then (kept (has_part rows peer before) (peer_number rows peer))
    (move_in rows name (moment_of (steps_seen (own_tables rows peer) view)) before move)
move_seen rows peer name before view (acts key act) there held_same = by (key.peer == peer) refl
  where
    by : (t : Bool) → (key.peer == peer) ≡ t
        → option_and_then (told_in (own_tables rows peer) name view)
        (if key.peer == peer then Some (own key.ordinal act)
        else other_seen (own_tables rows peer) (table_of rows key.peer).key
        (held_in rows (own_tables rows) before key.peer) key.ordinal act)
        ≡ option_and_then (kept (has_part rows peer before) (peer_number rows peer))
        (move_in rows name (moment_of (steps_seen (own_tables rows peer) view)) before
        (acts key act))
    by true e =
        let same : key ≡ record { peer = peer; ordinal = key.ordinal } =
        ap (λ (p : ℕ). let k : Key = record { peer = p; ordinal = key.ordinal } in k)
        (eqb-true key.peer peer e) in
        rw e (own_act rows peer key.ordinal name before view act held_same
        ∙ ap (λ (k : Key). option_and_then (kept (has_part rows peer before)
        (peer_number rows peer))
        (move_in rows name (moment_of (steps_seen (own_tables rows peer) view)) before
        (acts k act))) (sym same))
    by false e = rw e (other_act rows peer name before view key act there e)
move_seen rows peer name before view (updates point value) there held_same =
    unseen_if (own_tables rows peer) name view (is_point_of rows peer point)
    (updated (point_of rows point).name value) refl
move_seen rows peer name before view (tags device tag) there held_same =
    seen_tag (own_tables rows peer) view name (device_of rows device).name tag
    (has_named (own_tables rows peer) name there)
    ∙ kept_tag (has_part rows peer before) (peer_number rows peer) tag
    (bytes_eq (device_of rows device).name name)
move_seen rows peer name before view (ticks now) there held_same = refl
move_seen rows peer name before view (asks asker slot) there held_same =
    unseen_if (own_tables rows peer) name view (asker == peer) (asked slot) refl
move_seen rows peer name before view (chooses chooser variant) there held_same =
    unseen_if (own_tables rows peer) name view (chooser == peer) (chose variant) refl
move_seen rows peer name before view takes_orders there held_same = refl
move_seen rows peer name before view stops there held_same = refl

-- the move of the node to the device, behind others
abbrev pub move_behind : CentreRows → List ℕ → List Move → Move → Option DeviceMove
move_behind rows name before move =
    move_in rows name (moment_of (steps_in rows (own_tables rows) before)) before move

pub device_moves-in : (rows : CentreRows) (name : List ℕ) (before : List Move) (move : Move)
    → device_moves name (steps_in rows (own_tables rows) (move ∷ before))
    ≡ cons_option (move_behind rows name before move)
    (device_moves name (steps_in rows (own_tables rows) before))
device_moves-in rows name before move =
    device_moves-cons name (step_in rows (own_tables rows) before move)
    (steps_in rows (own_tables rows) before)

-- one move more in a view
pub moves_seen-in : (rows : CentreRows) (peer : ℕ) (name : List ℕ) (before : List Move)
    (move : Move) → is_selectable (own_tables rows peer) name ≡ true
    → moves_seen (own_tables rows peer)
    (view_by rows (own_tables rows) peer (move ∷ before)) name
    ≡ cons_option (option_and_then (kept (has_part rows peer before) (peer_number rows peer))
    (move_behind rows name before move))
    (moves_seen (own_tables rows peer) (view_by rows (own_tables rows) peer before) name)
moves_seen-in rows peer name before move there =
    let tables = own_tables rows peer in
    let view = view_by rows (own_tables rows) peer before in
    moves_seen-cons tables name (seen_by rows (own_tables rows) peer before move) view
    ∙ ap (λ (o : Option DeviceMove). cons_option o (moves_seen tables view name))
    (move_seen rows peer name before view move there
    (held-seen rows (own_tables rows) peer before)
    ∙ ap (λ (now : ℕ). option_and_then (kept (has_part rows peer before) (peer_number rows peer))
    (move_in rows name now before move)) (moment-alike rows (own_tables rows) peer before))

-- tags

abbrev tag_move : DeviceMove → Option Tag
tag_move (device.tagged tag) = Some tag
tag_move _ = None

tag_of-cons : (move : Option DeviceMove) (moves : List DeviceMove)
    → tag_of (cons_option move moves)
    ≡ option_map_or (λ (t : Tag). t) (option_and_then tag_move move) (tag_of moves)
tag_of-cons None moves = refl
tag_of-cons (Some (device.selected key now)) moves = refl
tag_of-cons (Some (device.operated key value)) moves = refl
tag_of-cons (Some (device.closed key)) moves = refl
tag_of-cons (Some (device.ticked now)) moves = refl
tag_of-cons (Some (device.tagged tag)) moves = refl

-- the tag of a deed doesn't depend on who does it, nor when
act_tag : (one other : Key) (now later : ℕ) (b : Bool) (act : DeviceAct)
    → option_and_then tag_move (if b then Some (done_by one now act) else None)
    ≡ option_and_then tag_move (if b then Some (done_by other later act) else None)
act_tag one other now later true selecting = refl
act_tag one other now later true (operating value) = refl
act_tag one other now later true (tagging tag) = refl
act_tag one other now later false act = refl

deed_tag : (name : List ℕ) (one other : Key) (now later : ℕ) (found : Option Deed)
    → option_and_then tag_move (move_for name now (option_map (step_of_deed one) found))
    ≡ option_and_then tag_move (move_for name later (option_map (step_of_deed other) found))
deed_tag name one other now later None = refl
deed_tag name one other now later (Some deed) =
    act_tag one other now later (bytes_eq deed.device.row.name name) deed.act

-- what another's act on a device is, where it is shown by a test or not
shown_tag : (tables : OwnTables) (view : View) (name key_text other : List ℕ) (ordinal : ℕ)
    (key : Key) (now : ℕ) (act : DeviceAct) → is_some (device_named tables name) ≡ true
    → option_and_then tag_move (option_and_then (told_in tables name view)
    (if shows_act tables other act then Some (other_acted key_text ordinal other act) else None))
    ≡ option_and_then tag_move (if bytes_eq other name then Some (done_by key now act) else None)
shown_tag tables view name key_text other ordinal key now selecting there =
    by (is_selectable tables other) (bytes_eq other name) refl
  where
    by : (shown_it same : Bool) → bytes_eq other name ≡ same
        → option_and_then tag_move (option_and_then (told_in tables name view)
        (if shown_it then Some (other_acted key_text ordinal other selecting) else None))
        ≡ option_and_then tag_move (if same then Some (device.selected key now) else None)
    by true true e = rw e refl
    by true false e = rw e refl
    by false true e = refl
    by false false e = refl
shown_tag tables view name key_text other ordinal key now (operating value) there =
    by (is_selectable tables other) (bytes_eq other name) refl
  where
    by : (shown_it same : Bool) → bytes_eq other name ≡ same
        → option_and_then tag_move (option_and_then (told_in tables name view)
        (if shown_it then Some (other_acted key_text ordinal other (operating value)) else None))
        ≡ option_and_then tag_move (if same then Some (device.operated key value) else None)
    by true true e = rw e refl
    by true false e = rw e refl
    by false true e = refl
    by false false e = refl
shown_tag tables view name key_text other ordinal key now (tagging tag) there =
    by (bytes_eq other name) refl
  where
    unseen : (shown_it : Bool) → bytes_eq other name ≡ false
        → option_and_then tag_move (option_and_then (told_in tables name view)
        (if shown_it then Some (other_acted key_text ordinal other (tagging tag)) else None))
        ≡ None
    unseen true e = rw e refl
    unseen false e = refl

    by : (same : Bool) → bytes_eq other name ≡ same
        → option_and_then tag_move (option_and_then (told_in tables name view)
        (if is_some (device_named tables other)
        then Some (other_acted key_text ordinal other (tagging tag)) else None))
        ≡ option_and_then tag_move (if same then Some (device.tagged tag) else None)
    by true e =
        let visible : is_some (device_named tables other) ≡ true =
        ap (λ n. is_some (device_named tables n)) ((bytes_eq-Decides other name).0 e) ∙ there in
        rw (visible, e) refl
    by false e = unseen (is_some (device_named tables other)) e

other_deed_tag : (tables : OwnTables) (view : View) (name key_text : List ℕ) (key : Key) (now : ℕ)
    (found : Option Deed) → is_some (device_named tables name) ≡ true
    → option_and_then tag_move (option_and_then (told_in tables name view)
    (option_and_then (deed_seen tables key_text key.ordinal) found))
    ≡ option_and_then tag_move (move_for name now (option_map (step_of_deed key) found))
other_deed_tag tables view name key_text key now None there = refl
other_deed_tag tables view name key_text key now (Some deed) there =
    shown_tag tables view name key_text deed.device.row.name key.ordinal key now deed.act there

other_close_tag : (tables : OwnTables) (view : View) (name key_text : List ℕ) (ordinal : ℕ)
    (b : Bool)
    → option_and_then tag_move (option_and_then (told_in tables name view)
    (if b then Some (other_closed key_text ordinal) else None)) ≡ None
other_close_tag tables view name key_text ordinal true = refl
other_close_tag tables view name key_text ordinal false = refl

own_tag : (rows : CentreRows) (peer ordinal : ℕ) (name : List ℕ) (before : List Move)
    (view : View) (now : ℕ) (act : Act)
    → held (own_tables rows peer) view ≡ held_in rows (own_tables rows) before peer
    → option_and_then tag_move (told_in (own_tables rows peer) name view (own ordinal act))
    ≡ option_and_then tag_move
    (move_in rows name now before (acts (record { peer = peer; ordinal = ordinal }) act))
own_tag rows peer ordinal name before view now closes same = refl
own_tag rows peer ordinal name before view now opens same = refl
own_tag rows peer ordinal name before view now takes same = refl
own_tag rows peer ordinal name before view now (reads item) same =
    ap (λ (table : OwnTable). option_and_then tag_move
    (move_for name (moment_of (steps_seen (own_tables rows peer) view))
    (option_map (step_of_deed (own_key ordinal))
    (deed_of table (reads item))))) same
    ∙ deed_tag name (own_key ordinal)
    (record { peer = peer; ordinal = ordinal })
    (moment_of (steps_seen (own_tables rows peer) view)) now
    (deed_of (held_in rows (own_tables rows) before peer) (reads item))
own_tag rows peer ordinal name before view now (writes item value) same =
    ap (λ (table : OwnTable). option_and_then tag_move
    (move_for name (moment_of (steps_seen (own_tables rows peer) view))
    (option_map (step_of_deed (own_key ordinal))
    (deed_of table (writes item value))))) same
    ∙ deed_tag name (own_key ordinal)
    (record { peer = peer; ordinal = ordinal })
    (moment_of (steps_seen (own_tables rows peer) view)) now
    (deed_of (held_in rows (own_tables rows) before peer) (writes item value))
own_tag rows peer ordinal name before view now (defines set members) same = refl
own_tag rows peer ordinal name before view now (deletes set) same = refl
own_tag rows peer ordinal name before view now (calls call) same = refl

other_tag : (rows : CentreRows) (peer : ℕ) (name : List ℕ) (before : List Move) (view : View)
    (now : ℕ) (key : Key) (act : Act) → is_some (device_named (own_tables rows peer) name) ≡ true
    → option_and_then tag_move (option_and_then (told_in (own_tables rows peer) name view)
    (other_seen (own_tables rows peer) (table_of rows key.peer).key
    (held_in rows (own_tables rows) before key.peer) key.ordinal act))
    ≡ option_and_then tag_move (move_in rows name now before (acts key act))
other_tag rows peer name before view now key closes there =
    other_close_tag (own_tables rows peer) view name (table_of rows key.peer).key key.ordinal
    (shares (own_tables rows peer) (held_in rows (own_tables rows) before key.peer))
other_tag rows peer name before view now key opens there = refl
other_tag rows peer name before view now key takes there = refl
other_tag rows peer name before view now key (reads item) there =
    other_deed_tag (own_tables rows peer) view name (table_of rows key.peer).key key now
    (deed_of (held_in rows (own_tables rows) before key.peer) (reads item)) there
other_tag rows peer name before view now key (writes item value) there =
    other_deed_tag (own_tables rows peer) view name (table_of rows key.peer).key key now
    (deed_of (held_in rows (own_tables rows) before key.peer) (writes item value)) there
other_tag rows peer name before view now key (defines set members) there = refl
other_tag rows peer name before view now key (deletes set) there = refl
other_tag rows peer name before view now key (calls call) there = refl

move_tag : (rows : CentreRows) (peer : ℕ) (name : List ℕ) (before : List Move) (view : View)
    (now : ℕ) (move : Move) → is_some (device_named (own_tables rows peer) name) ≡ true
    → held (own_tables rows peer) view ≡ held_in rows (own_tables rows) before peer
    → option_and_then tag_move (option_and_then (told_in (own_tables rows peer) name view)
    (seen_by rows (own_tables rows) peer before move))
    ≡ option_and_then tag_move (move_in rows name now before move)
move_tag rows peer name before view now (acts key act) there held_same = by (key.peer == peer) refl
  where
    by : (t : Bool) → (key.peer == peer) ≡ t
        → option_and_then tag_move (option_and_then (told_in (own_tables rows peer) name view)
        (if t then Some (own key.ordinal act)
        else other_seen (own_tables rows peer) (table_of rows key.peer).key
        (held_in rows (own_tables rows) before key.peer) key.ordinal act))
        ≡ option_and_then tag_move (move_in rows name now before (acts key act))
    by true e =
        let same : key ≡ record { peer = peer; ordinal = key.ordinal } =
        ap (λ (p : ℕ). let k : Key = record { peer = p; ordinal = key.ordinal } in k)
        (eqb-true key.peer peer e) in
        own_tag rows peer key.ordinal name before view now act held_same
        ∙ ap (λ (k : Key). option_and_then tag_move (move_in rows name now before (acts k act)))
        (sym same)
    by false e = other_tag rows peer name before view now key act there
move_tag rows peer name before view now (updates point value) there held_same =
    ap (option_and_then tag_move)
    (unseen_if (own_tables rows peer) name view (is_point_of rows peer point)
    (updated (point_of rows point).name value) refl)
move_tag rows peer name before view now (tags device tag) there held_same =
    ap (option_and_then tag_move)
    (seen_tag (own_tables rows peer) view name (device_of rows device).name tag there)
move_tag rows peer name before view now (ticks moment) there held_same = refl
move_tag rows peer name before view now (asks asker slot) there held_same =
    ap (option_and_then tag_move)
    (unseen_if (own_tables rows peer) name view (asker == peer) (asked slot) refl)
move_tag rows peer name before view now (chooses chooser variant) there held_same =
    ap (option_and_then tag_move)
    (unseen_if (own_tables rows peer) name view (chooser == peer) (chose variant) refl)
move_tag rows peer name before view now takes_orders there held_same = refl
move_tag rows peer name before view now stops there held_same = refl

-- a peer sees the tag of a device of its tables as all moves have it
pub tag-seen : (rows : CentreRows) (moves : List Move) (peer : ℕ) (name : List ℕ)
    → is_some (device_named (own_tables rows peer) name) ≡ true
    → tag_of (moves_seen (own_tables rows peer)
    (view_by rows (own_tables rows) peer moves) name)
    ≡ tag_of (device_moves name (steps_in rows (own_tables rows) moves))
tag-seen rows [] peer name there = refl
tag-seen rows (move ∷ before) peer name there =
    let tables = own_tables rows peer in
    let view = view_by rows (own_tables rows) peer before in
    let seen = seen_by rows (own_tables rows) peer before move in
    let now = moment_of (steps_in rows (own_tables rows) before) in
    let told = option_and_then (told_in tables name view) seen in
    let rest = moves_seen tables view name in
    let all = device_moves name (steps_in rows (own_tables rows) before) in
    ap tag_of (moves_seen-cons tables name seen view)
    ∙ tag_of-cons told rest
    ∙ ap (λ (o : Option Tag). option_map_or (λ (t : Tag). t) o (tag_of rest))
    (move_tag rows peer name before view now move there
    (held-seen rows (own_tables rows) peer before))
    ∙ ap (λ (t : Tag). option_map_or (λ (u : Tag). u)
    (option_and_then tag_move (move_behind rows name before move)) t)
    (tag-seen rows before peer name there)
    ∙ sym (tag_of-cons (move_behind rows name before move) all)
    ∙ ap tag_of (sym (device_moves-in rows name before move))
