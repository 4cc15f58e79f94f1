-- Who holds a device has part in it by the table in force, and so its close is seen by all who
-- have the device as not direct.
use Rattle.std.proofs.Common.{◌≡◌, ℕ, ◌+◌, ◌==◌, Bool, true, false, ◌&&◌, ◌||◌}
use Rattle.std.proofs.Common.{if◌then◌else◌, List, [], ◌∷◌, map, length, Option, Some, None}
use Rattle.std.proofs.Common.{bytes_eq, subst, refl, sym, ap, ◌∙◌, ⊎_elim}
use Rattle.std.specs.Prelude.{filter, option_map, option_and_then}
use Rattle.std.specs.List.{cons_option, list_any}
use Rattle.std.proofs.lemmas.Bool.{false≢true, eqb-true, cases_lt}
use Rattle.std.proofs.lemmas.List.{get_or_past}
use Rattle.std.proofs.lemmas.List.Folds.{list_any_at}
use Rattle.std.proofs.lemmas.Slice.Eq.{bytes_eq-Decides}
use Rattle.bilateral.specs.Rows.{CentreRows, IsCentre, device_of}
use Rattle.sbo_device.specs.declared.key.Key.{Key}
use Rattle.sbo_device.specs.declared.hold.Hold.{Hold}
use Rattle.sbo_device.specs.Moves.{ControlPoint, DeviceState, Tag, DeviceAct, selecting, operating}
use Rattle.sbo_device.specs.Moves.{tagging, DeviceMove}
use Rattle.sbo_device.specs.Moves as device
use Rattle.sbo_device.specs.States.{same_key, is_held_by, has_run_out, is_granted, is_permitted}
use Rattle.sbo_device.specs.States.{after, state_in, hold_of}
use Rattle.sbo_device.specs.SameMoves.{renumbered_hold, renumbered, is_kept, AreByKnown, shown}
use Rattle.sbo_device.proofs.SameHolders.{hold_shown}
use Rattle.tase_views.specs.Moves.{Act, opens, takes, closes, reads, writes, defines, deletes}
use Rattle.tase_views.specs.Moves.{calls}
use Rattle.tase_views.specs.Moves.{Move, acts, updates, tags, ticks, asks, chooses, takes_orders}
use Rattle.tase_views.specs.Moves.{stops}
use Rattle.tase_views.specs.OwnTables.{OwnDevice, OwnTable, OwnTables, own_tables, table_in}
use Rattle.tase_views.specs.OwnTables.{no_own_table, is_selectable}
use Rattle.tase_views.specs.Devices.{Deed, deed_of, step_of_deed, moment_of, done_by, device_moves}
use Rattle.tase_views.specs.View.{held_in, view_by, steps_in, moves_seen, peer_number}
use Rattle.tase_views.proofs.KeyNumbers.{shares, may_share, numbers_differ}
use Rattle.tase_views.proofs.OwnDevices.{Each, deed_is}
use Rattle.tase_views.proofs.OpenKeys.{AreOrderly, is_open, held_stays, open_behind_open}
use Rattle.tase_views.proofs.OpenKeys.{open_behind_close}
use Rattle.tase_views.proofs.DevicesSeen.{move_for, move_behind, kept, has_part, has_named}
use Rattle.tase_views.proofs.DevicesSeen.{device_moves-in, moves_seen-in}

either : (a b : Bool) → b ≡ true → (a || b) ≡ true
either true b e = refl
either false b e = e

-- who does something to a device that isn't direct has part in it

each_shares : (tables : OwnTables) (table : OwnTable) (devices : List OwnDevice)
    → (list_any (λ (d : OwnDevice). is_selectable tables d.row.name) devices ≡ true
    → shares tables table ≡ true)
    → Each (λ d. is_selectable tables d.row.name ≡ true → shares tables table ≡ true) devices
each_shares tables table [] all = tt
each_shares tables table (d ∷ devices) all = (
  λ this. all (first (is_selectable tables d.row.name) _ this),
  each_shares tables table devices
      (λ rest. all (either (is_selectable tables d.row.name) _ rest)),
)
  where
    first : (a b : Bool) → a ≡ true → (a || b) ≡ true
    first true b e = refl
    first false b e = absurd (false≢true e)

deed_part : (rows : CentreRows) (peer : ℕ) (name : List ℕ) (before : List Move) (key : Key)
    (act : Act) (deed : Deed) → is_selectable (own_tables rows peer) name ≡ true
    → deed_of (held_in rows (own_tables rows) before key.peer) act ≡ Some deed
    → bytes_eq deed.device.row.name name ≡ true
    → has_part rows peer before key.peer ≡ true
deed_part rows peer name before key act deed there is same =
    let tables = own_tables rows peer in
    let table = held_in rows (own_tables rows) before key.peer in
    either (key.peer == peer) (shares tables table)
    (deed_is (λ d. is_selectable tables d.row.name ≡ true → shares tables table ≡ true) table act
    deed (each_shares tables table table.devices (λ all. all)) is
    (ap (is_selectable tables) ((bytes_eq-Decides deed.device.row.name name).0 same) ∙ there))

-- a hold whose association is open and has part in the device
abbrev pub IsGood : CentreRows → ℕ → List Move → Option Hold → Type 0
IsGood rows peer moves None = Unit {0}
IsGood rows peer moves (Some hold) =
    (is_open moves hold.key ≡ true) × (has_part rows peer moves hold.key.peer ≡ true)

good_behind : (rows : CentreRows) (peer : ℕ) (before : List Move) (move : Move)
    (held : Option Hold) → AreOrderly (move ∷ before)
    → ((key : Key) → is_open before key ≡ true → is_open (move ∷ before) key ≡ true)
    → IsGood rows peer before held → IsGood rows peer (move ∷ before) held
good_behind rows peer before move None orderly stays good = tt
good_behind rows peer before move (Some hold) orderly stays good = (
  stays hold.key good.0,
  ap (λ (table : OwnTable). (hold.key.peer == peer) || shares (own_tables rows peer) table)
      (held_stays rows (own_tables rows) before move hold.key orderly (stays hold.key good.0))
      ∙ good.1,
)

good_close : (rows : CentreRows) (peer : ℕ) (before : List Move) (by : Key) (held : Option Hold)
    → AreOrderly (acts by closes ∷ before) → IsGood rows peer before held
    → IsGood rows peer (acts by closes ∷ before) (if is_held_by by held then None else held)
good_close rows peer before by None orderly good = tt
good_close rows peer before by (Some hold) orderly good = one (same_key hold.key by) refl
  where
    one : (b : Bool) → same_key hold.key by ≡ b
        → IsGood rows peer (acts by closes ∷ before) (if b then None else Some hold)
    one true e = tt
    one false e =
        let stays = open_behind_close by hold.key before e good.0 in (
          stays,
          ap (λ (table : OwnTable).
              (hold.key.peer == peer) || shares (own_tables rows peer) table)
              (held_stays rows (own_tables rows) before (acts by closes) hold.key orderly stays)
              ∙ good.1,
        )

-- a state behind what may be a move
abbrev state_behind : Option DeviceMove → DeviceState → DeviceState
state_behind None s = s
state_behind (Some move) s = after move s

state-cons : (point : ControlPoint) (move : Option DeviceMove) (moves : List DeviceMove)
    → state_in point (cons_option move moves) ≡ state_behind move (state_in point moves)
state-cons point None moves = refl
state-cons point (Some move) moves = refl

good_if : (rows : CentreRows) (peer : ℕ) (moves : List Move) (b : Bool) (one other : Option Hold)
    → IsGood rows peer moves one → IsGood rows peer moves other
    → IsGood rows peer moves (if b then one else other)
good_if rows peer moves true one other first second = first
good_if rows peer moves false one other first second = second

good_deed : (rows : CentreRows) (peer : ℕ) (name : List ℕ) (before : List Move) (key : Key)
    (now : ℕ) (s : DeviceState) (found : Option Deed) → is_open before key ≡ true
    → ((deed : Deed) → found ≡ Some deed → bytes_eq deed.device.row.name name ≡ true
    → has_part rows peer before key.peer ≡ true)
    → IsGood rows peer before s.hold
    → IsGood rows peer before
    (state_behind (move_for name now (option_map (step_of_deed key) found)) s).hold
good_deed rows peer name before key now s None stays part good = good
good_deed rows peer name before key now s (Some deed) stays part good =
    by (bytes_eq deed.device.row.name name) refl
  where
    by_act : (act : DeviceAct) → has_part rows peer before key.peer ≡ true
        → IsGood rows peer before (state_behind (Some (done_by key now act)) s).hold
    by_act selecting e =
        good_if rows peer before (is_granted s key)
        (Some (record { key = key; until = now + s.point.span })) s.hold (stays, e) good
    by_act (operating value) e =
        good_if rows peer before (is_permitted s key value) None s.hold tt good
    by_act (tagging tag) e = good

    by : (t : Bool) → bytes_eq deed.device.row.name name ≡ t
        → IsGood rows peer before
        (state_behind (if t then Some (done_by key now deed.act) else None) s).hold
    by true e = by_act deed.act (part deed refl e)
    by false e = good

good_tag : (rows : CentreRows) (peer : ℕ) (before : List Move) (tag : Tag) (s : DeviceState)
    (b : Bool) → IsGood rows peer before s.hold
    → IsGood rows peer before
    (state_behind (if b then Some (device.tagged tag) else None) s).hold
good_tag rows peer before tag s true good = good
good_tag rows peer before tag s false good = good

good_step : (rows : CentreRows) (peer : ℕ) (name : List ℕ) (before : List Move) (move : Move)
    (s : DeviceState) → is_selectable (own_tables rows peer) name ≡ true
    → AreOrderly (move ∷ before) → IsGood rows peer before s.hold
    → IsGood rows peer (move ∷ before) (state_behind (move_behind rows name before move) s).hold
good_step rows peer name before (acts key closes) s there orderly good =
    good_close rows peer before key s.hold orderly good
good_step rows peer name before (acts key opens) s there orderly good =
    good_behind rows peer before (acts key opens) s.hold orderly
    (λ other. open_behind_open key other before) good
good_step rows peer name before (acts key takes) s there orderly good = good
good_step rows peer name before (acts key (reads item)) s there orderly good =
    good_deed rows peer name before key _ s
    (deed_of (held_in rows (own_tables rows) before key.peer) (reads item)) orderly.0
    (λ deed. deed_part rows peer name before key (reads item) deed there) good
good_step rows peer name before (acts key (writes item value)) s there orderly good =
    good_deed rows peer name before key _ s
    (deed_of (held_in rows (own_tables rows) before key.peer) (writes item value)) orderly.0
    (λ deed. deed_part rows peer name before key (writes item value) deed there) good
good_step rows peer name before (acts key (defines set members)) s there orderly good = good
good_step rows peer name before (acts key (deletes set)) s there orderly good = good
good_step rows peer name before (acts key (calls call)) s there orderly good = good
good_step rows peer name before (updates point value) s there orderly good = good
good_step rows peer name before (tags device tag) s there orderly good =
    good_tag rows peer before tag s (bytes_eq (device_of rows device).name name) good
good_step rows peer name before (ticks now) s there orderly good =
    good_if rows peer before (has_run_out now s.hold) None s.hold tt good
good_step rows peer name before (asks asker slot) s there orderly good = good
good_step rows peer name before (chooses chooser variant) s there orderly good =
    good_behind rows peer before (chooses chooser variant) s.hold orderly (λ other there. there)
    good
good_step rows peer name before takes_orders s there orderly good = good
good_step rows peer name before stops s there orderly good = good

behind_orderly : (move : Move) (before : List Move) → AreOrderly (move ∷ before)
    → AreOrderly before
behind_orderly (acts key opens) before orderly = orderly
behind_orderly (acts key closes) before orderly = orderly.1
behind_orderly (acts key takes) before orderly = orderly.1
behind_orderly (acts key (reads item)) before orderly = orderly.1
behind_orderly (acts key (writes item value)) before orderly = orderly.1
behind_orderly (acts key (defines set members)) before orderly = orderly.1
behind_orderly (acts key (deletes set)) before orderly = orderly.1
behind_orderly (acts key (calls call)) before orderly = orderly.1
behind_orderly (updates point value) before orderly = orderly
behind_orderly (tags device tag) before orderly = orderly
behind_orderly (ticks now) before orderly = orderly
behind_orderly (asks asker slot) before orderly = orderly
behind_orderly (chooses chooser variant) before orderly = orderly
behind_orderly takes_orders before orderly = orderly
behind_orderly stops before orderly = orderly

pub all_good : (rows : CentreRows) (peer : ℕ) (name : List ℕ) (point : ControlPoint)
    (moves : List Move) → is_selectable (own_tables rows peer) name ≡ true → AreOrderly moves
    → IsGood rows peer moves
    (hold_of point (device_moves name (steps_in rows (own_tables rows) moves)))
all_good rows peer name point [] there orderly = tt
all_good rows peer name point (move ∷ before) there orderly =
    let all = device_moves name (steps_in rows (own_tables rows) before) in
    subst (λ (moves : List DeviceMove). IsGood rows peer (move ∷ before) (hold_of point moves))
    (sym (device_moves-in rows name before move))
    (subst (λ (s : DeviceState). IsGood rows peer (move ∷ before) s.hold)
    (sym (state-cons point (move_behind rows name before move) all))
    (good_step rows peer name before move (state_in point all) there orderly
    (all_good rows peer name point before there (behind_orderly move before orderly))))

-- the moves of a device without closes that have no part in it
abbrev keeps : (ℕ → Bool) → DeviceMove → Option DeviceMove
keeps known move = if is_kept known move then Some move else None

abbrev kept_moves : CentreRows → ℕ → List ℕ → List Move → List DeviceMove
kept_moves rows peer name [] = []
kept_moves rows peer name (move ∷ before) =
    cons_option
    (option_and_then (keeps (has_part rows peer before)) (move_behind rows name before move))
    (kept_moves rows peer name before)

unknown_holds_nothing : (rows : CentreRows) (peer : ℕ) (before : List Move) (key : Key)
    (held : Option Hold) → IsGood rows peer before held
    → has_part rows peer before key.peer ≡ false → is_held_by key held ≡ false
unknown_holds_nothing rows peer before key None good its = refl
unknown_holds_nothing rows peer before key (Some hold) good its =
    by (hold.key.peer == key.peer) refl
  where
    by : (t : Bool) → (hold.key.peer == key.peer) ≡ t
        → (t && (hold.key.ordinal == key.ordinal)) ≡ false
    by true e =
        absurd (false≢true (sym its
        ∙ sym (ap (has_part rows peer before) (eqb-true hold.key.peer key.peer e)) ∙ good.1))
    by false e = refl

-- they leave the device as it is
dropped : (rows : CentreRows) (peer : ℕ) (before : List Move) (move : Option DeviceMove)
    (s : DeviceState) → IsGood rows peer before s.hold
    → state_behind (option_and_then (keeps (has_part rows peer before)) move) s
    ≡ state_behind move s
dropped rows peer before None s good = refl
dropped rows peer before (Some (device.selected key now)) s good = refl
dropped rows peer before (Some (device.operated key value)) s good = refl
dropped rows peer before (Some (device.ticked now)) s good = refl
dropped rows peer before (Some (device.tagged tag)) s good = refl
dropped rows peer before (Some (device.closed key)) s good =
    by (has_part rows peer before key.peer) refl
  where
    by : (t : Bool) → has_part rows peer before key.peer ≡ t
        → state_behind (if t then Some (device.closed key) else None) s
        ≡ after (device.closed key) s
    by true e = refl
    by false e = rw (unknown_holds_nothing rows peer before key s.hold good e) refl

kept_state : (rows : CentreRows) (peer : ℕ) (name : List ℕ) (point : ControlPoint)
    (moves : List Move) → is_selectable (own_tables rows peer) name ≡ true → AreOrderly moves
    → state_in point (kept_moves rows peer name moves)
    ≡ state_in point (device_moves name (steps_in rows (own_tables rows) moves))
kept_state rows peer name point [] there orderly = refl
kept_state rows peer name point (move ∷ before) there orderly =
    let all = device_moves name (steps_in rows (own_tables rows) before) in
    let part = option_and_then (keeps (has_part rows peer before))
    (move_behind rows name before move) in
    let earlier = behind_orderly move before orderly in
    state-cons point part (kept_moves rows peer name before)
    ∙ ap (state_behind part) (kept_state rows peer name point before there earlier)
    ∙ dropped rows peer before (move_behind rows name before move) (state_in point all)
    (all_good rows peer name point before there earlier)
    ∙ sym (state-cons point (move_behind rows name before move) all)
    ∙ ap (state_in point) (sym (device_moves-in rows name before move))

-- who has part by the table in force may have part
pub part_may : (rows : CentreRows) (peer : ℕ) (before : List Move) (other : ℕ)
    → has_part rows peer before other ≡ true → may_share rows peer other ≡ true
part_may rows peer before other part = by (other == peer) part
  where
    any : (tables : OwnTables) (n : ℕ) → shares (own_tables rows peer) (table_in tables n) ≡ true
        → list_any (shares (own_tables rows peer)) tables.tables ≡ true
    any tables n shared =
        ⊎_elim
        (λ within. list_any_at (shares (own_tables rows peer)) tables.tables n no_own_table within
        shared)
        (λ past. absurd (false≢true (sym (ap (shares (own_tables rows peer))
        (get_or_past tables.tables n no_own_table past)) ∙ shared)))
        (cases_lt n (length tables.tables))

    by : (t : Bool)
        → (t || shares (own_tables rows peer) (held_in rows (own_tables rows) before other))
        ≡ true
        → (t || list_any (shares (own_tables rows peer)) (own_tables rows other).tables) ≡ true
    by true e = refl
    by false e = any (own_tables rows other) _ e

shown-cons : (known : ℕ → Bool) (number : ℕ → ℕ) (move : Option DeviceMove)
    (moves : List DeviceMove)
    → shown known number (cons_option move moves)
    ≡ cons_option (option_and_then (kept known number) move) (shown known number moves)
shown-cons known number None moves = refl
shown-cons known number (Some move) moves = by (is_kept known move)
  where
    by : (b : Bool)
        → map (renumbered number)
        (if b then move ∷ filter (is_kept known) moves else filter (is_kept known) moves)
        ≡ cons_option (if b then Some (renumbered number move) else None)
        (map (renumbered number) (filter (is_kept known) moves))
    by true = refl
    by false = refl

kept_twice : (known now_known : ℕ → Bool) (number : ℕ → ℕ)
    → ((p : ℕ) → now_known p ≡ true → known p ≡ true) → (move : Option DeviceMove)
    → option_and_then (kept now_known number) move
    ≡ option_and_then (kept known number) (option_and_then (keeps now_known) move)
kept_twice known now_known number more None = refl
kept_twice known now_known number more (Some (device.selected key now)) = refl
kept_twice known now_known number more (Some (device.operated key value)) = refl
kept_twice known now_known number more (Some (device.ticked now)) = refl
kept_twice known now_known number more (Some (device.tagged tag)) = refl
kept_twice known now_known number more (Some (device.closed key)) = by (now_known key.peer) refl
  where
    by : (t : Bool) → now_known key.peer ≡ t
        → (if t then Some (renumbered number (device.closed key)) else None)
        ≡ option_and_then (kept known number) (if t then Some (device.closed key) else None)
    by true e = rw (more key.peer e) refl
    by false e = refl

-- the moves of a device in a view are these, as shown
moves-shown : (rows : CentreRows) (peer : ℕ) (name : List ℕ) (moves : List Move)
    → is_selectable (own_tables rows peer) name ≡ true
    → moves_seen (own_tables rows peer) (view_by rows (own_tables rows) peer moves) name
    ≡ shown (may_share rows peer) (peer_number rows peer) (kept_moves rows peer name moves)
moves-shown rows peer name [] there = refl
moves-shown rows peer name (move ∷ before) there =
    let o = move_behind rows name before move in
    let part = option_and_then (keeps (has_part rows peer before)) o in
    moves_seen-in rows peer name before move there
    ∙ ap (λ (m : Option DeviceMove). cons_option m (moves_seen (own_tables rows peer)
    (view_by rows (own_tables rows) peer before) name))
    (kept_twice (may_share rows peer) (has_part rows peer before) (peer_number rows peer)
    (part_may rows peer before) o)
    ∙ ap (λ (l : List DeviceMove).
    cons_option (option_and_then (kept (may_share rows peer) (peer_number rows peer)) part) l)
    (moves-shown rows peer name before there)
    ∙ sym (shown-cons (may_share rows peer) (peer_number rows peer) part
    (kept_moves rows peer name before))

-- who selects the device or operates it may have part in it
abbrev IsByKnown : (ℕ → Bool) → Option DeviceMove → Type 0
IsByKnown known (Some (device.selected key now)) = known key.peer ≡ true
IsByKnown known (Some (device.operated key value)) = known key.peer ≡ true
IsByKnown known _ = Unit {0}

one_more : (known : ℕ → Bool) (move : Option DeviceMove) (rest : List DeviceMove)
    → IsByKnown known move → AreByKnown known rest → AreByKnown known (cons_option move rest)
one_more known None rest this others = others
one_more known (Some (device.selected key now)) rest this others = (this, others)
one_more known (Some (device.operated key value)) rest this others = (this, others)
one_more known (Some (device.closed key)) rest this others = others
one_more known (Some (device.ticked now)) rest this others = others
one_more known (Some (device.tagged tag)) rest this others = others

kept_known : (known part : ℕ → Bool) (move : Option DeviceMove) → IsByKnown known move
    → IsByKnown known (option_and_then (keeps part) move)
kept_known known part None this = tt
kept_known known part (Some (device.selected key now)) this = this
kept_known known part (Some (device.operated key value)) this = this
kept_known known part (Some (device.closed key)) this = by (part key.peer)
  where
    by : (b : Bool) → IsByKnown known (if b then Some (device.closed key) else None)
    by true = tt
    by false = tt
kept_known known part (Some (device.ticked now)) this = tt
kept_known known part (Some (device.tagged tag)) this = tt

deed_known : (known : ℕ → Bool) (name : List ℕ) (now : ℕ) (key : Key) (found : Option Deed)
    → ((deed : Deed) → found ≡ Some deed → bytes_eq deed.device.row.name name ≡ true
    → known key.peer ≡ true)
    → IsByKnown known (move_for name now (option_map (step_of_deed key) found))
deed_known known name now key None is = tt
deed_known known name now key (Some deed) is = by (bytes_eq deed.device.row.name name) refl
  where
    by_act : (act : DeviceAct) → known key.peer ≡ true
        → IsByKnown known (Some (done_by key now act))
    by_act selecting e = e
    by_act (operating value) e = e
    by_act (tagging tag) e = tt

    by : (t : Bool) → bytes_eq deed.device.row.name name ≡ t
        → IsByKnown known (if t then Some (done_by key now deed.act) else None)
    by true e = by_act deed.act (is deed refl e)
    by false e = tt

tag_known : (known : ℕ → Bool) (tag : Tag) (b : Bool)
    → IsByKnown known (if b then Some (device.tagged tag) else None)
tag_known known tag true = tt
tag_known known tag false = tt

move_known : (rows : CentreRows) (peer : ℕ) (name : List ℕ) (before : List Move) (move : Move)
    → is_selectable (own_tables rows peer) name ≡ true
    → IsByKnown (may_share rows peer) (move_behind rows name before move)
move_known rows peer name before (acts key closes) there = tt
move_known rows peer name before (acts key opens) there = tt
move_known rows peer name before (acts key takes) there = tt
move_known rows peer name before (acts key (reads item)) there =
    deed_known (may_share rows peer) name
    (moment_of (steps_in rows (own_tables rows) before)) key
    (deed_of (held_in rows (own_tables rows) before key.peer) (reads item))
    (λ deed is same. part_may rows peer before key.peer
    (deed_part rows peer name before key (reads item) deed there is same))
move_known rows peer name before (acts key (writes item value)) there =
    deed_known (may_share rows peer) name
    (moment_of (steps_in rows (own_tables rows) before)) key
    (deed_of (held_in rows (own_tables rows) before key.peer) (writes item value))
    (λ deed is same. part_may rows peer before key.peer
    (deed_part rows peer name before key (writes item value) deed there is same))
move_known rows peer name before (acts key (defines set members)) there = tt
move_known rows peer name before (acts key (deletes set)) there = tt
move_known rows peer name before (acts key (calls call)) there = tt
move_known rows peer name before (updates point value) there = tt
move_known rows peer name before (tags device tag) there =
    tag_known (may_share rows peer) tag (bytes_eq (device_of rows device).name name)
move_known rows peer name before (ticks now) there = tt
move_known rows peer name before (asks asker slot) there = tt
move_known rows peer name before (chooses chooser variant) there = tt
move_known rows peer name before takes_orders there = tt
move_known rows peer name before stops there = tt

all_known : (rows : CentreRows) (peer : ℕ) (name : List ℕ) (moves : List Move)
    → is_selectable (own_tables rows peer) name ≡ true
    → AreByKnown (may_share rows peer) (kept_moves rows peer name moves)
all_known rows peer name [] there = tt
all_known rows peer name (move ∷ before) there =
    one_more (may_share rows peer)
    (option_and_then (keeps (has_part rows peer before)) (move_behind rows name before move))
    (kept_moves rows peer name before)
    (kept_known (may_share rows peer) (has_part rows peer before)
    (move_behind rows name before move)
    (move_known rows peer name before move there))
    (all_known rows peer name before there)

-- a peer sees the holder of a device of its tables that isn't direct as all moves have it
pub hold-seen : (rows : CentreRows) (moves : List Move) (peer : ℕ) (name : List ℕ)
    (point : ControlPoint) → AreOrderly moves → IsCentre rows
    → is_selectable (own_tables rows peer) name ≡ true
    → hold_of point (moves_seen (own_tables rows peer)
    (view_by rows (own_tables rows) peer moves) name)
    ≡ option_map (renumbered_hold (peer_number rows peer))
    (hold_of point (device_moves name (steps_in rows (own_tables rows) moves)))
hold-seen rows moves peer name point orderly lawful there =
    ap (hold_of point) (moves-shown rows peer name moves there)
    ∙ hold_shown (may_share rows peer) (peer_number rows peer)
    (numbers_differ rows peer name lawful (has_named (own_tables rows peer) name there)) point
    (kept_moves rows peer name moves) (all_known rows peer name moves there)
    ∙ ap (λ (s : DeviceState). option_map (renumbered_hold (peer_number rows peer)) s.hold)
    (kept_state rows peer name point moves there orderly)
