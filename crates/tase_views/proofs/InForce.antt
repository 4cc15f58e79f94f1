-- A view has the peer's table in force and the moment as all moves have them.
use Rattle.std.proofs.Common.{◌≡◌, ℕ, ◌==◌, Bool, true, false, if◌then◌else◌, List, [], ◌∷◌}
use Rattle.std.proofs.Common.{Option, Some, None, is_some, refl, sym, ap, ◌∙◌}
use Rattle.std.specs.Prelude.{filter_map, option_and_then, option_map}
use Rattle.std.specs.List.{cons_option, list_any}
use Rattle.bilateral.specs.Rows.{CentreRows, table_of, point_of, device_of}
use Rattle.sbo_device.specs.declared.key.Key.{Key}
use Rattle.tase_views.specs.Moves.{Act, opens, takes, closes, reads, writes, defines, deletes}
use Rattle.tase_views.specs.Moves.{calls}
use Rattle.tase_views.specs.Moves.{Move, acts, updates, tags, ticks, asks, chooses, takes_orders}
use Rattle.tase_views.specs.Moves.{stops}
use Rattle.tase_views.specs.OwnTables.{OwnDevice, OwnTable, OwnTables, Owns, table_in}
use Rattle.tase_views.specs.OwnTables.{is_selectable, is_point_of, device_named}
use Rattle.tase_views.specs.Force.{TableMove, chosen, force_of, table_move}
use Rattle.tase_views.specs.Devices.{Deed, deed_of, DeviceStep, step_of_deed, moment_of}
use Rattle.tase_views.specs.View.{Seen, own, other_acted, other_closed, updated, tagged, asked}
use Rattle.tase_views.specs.View.{chose}
use Rattle.tase_views.specs.View.{ticked, stopped, View, shows_act, deed_seen, other_seen, held_in}
use Rattle.tase_views.specs.View.{seen_by}
use Rattle.tase_views.specs.View.{view_by, steps_in, table_seen, held, steps_seen}
use Rattle.tase_views.specs.View.{moment_in}

-- the table in force

filter_map-cons : {A B : Type 0} (f : A → Option B) (o : Option A) (xs : List A)
    → filter_map f (cons_option o xs) ≡ cons_option (option_and_then f o) (filter_map f xs)
filter_map-cons f None xs = refl
filter_map-cons f (Some x) xs = refl

unseen_if : (b : Bool) (seen : Seen) → table_seen seen ≡ None
    → option_and_then table_seen (if b then Some seen else None) ≡ None
unseen_if true seen e = e
unseen_if false seen e = refl

deed_table : (tables : OwnTables) (key : List ℕ) (ordinal : ℕ) (deed : Option Deed)
    → option_and_then table_seen (option_and_then (deed_seen tables key ordinal) deed) ≡ None
deed_table tables key ordinal None = refl
deed_table tables key ordinal (Some deed) = unseen_if _ _ refl

other_table : (tables : OwnTables) (key : List ℕ) (table : OwnTable) (ordinal : ℕ) (act : Act)
    → option_and_then table_seen (other_seen tables key table ordinal act) ≡ None
other_table tables key table ordinal closes = unseen_if _ _ refl
other_table tables key table ordinal opens = refl
other_table tables key table ordinal takes = refl
other_table tables key table ordinal (reads name) =
    deed_table tables key ordinal (deed_of table (reads name))
other_table tables key table ordinal (writes name value) =
    deed_table tables key ordinal (deed_of table (writes name value))
other_table tables key table ordinal (defines set members) = refl
other_table tables key table ordinal (deletes set) = refl
other_table tables key table ordinal (calls call) = refl

-- what an act is to the table in force, where it is the peer's own or not
act_table : (b : Bool) (ordinal : ℕ) (act : Act) (other : Option Seen) (peer : ℕ) (key : Key)
    → (key.peer == peer) ≡ b → option_and_then table_seen other ≡ None
    → option_and_then table_seen (if b then Some (own ordinal act) else other)
    ≡ table_move peer (acts key act)
act_table true ordinal opens other peer key e none = rw e refl
act_table true ordinal closes other peer key e none = rw e refl
act_table true ordinal takes other peer key e none = refl
act_table true ordinal (reads name) other peer key e none = refl
act_table true ordinal (writes name value) other peer key e none = refl
act_table true ordinal (defines set members) other peer key e none = refl
act_table true ordinal (deletes set) other peer key e none = refl
act_table true ordinal (calls call) other peer key e none = refl
act_table false ordinal opens other peer key e none = rw e none
act_table false ordinal closes other peer key e none = rw e none
act_table false ordinal takes other peer key e none = none
act_table false ordinal (reads name) other peer key e none = none
act_table false ordinal (writes name value) other peer key e none = none
act_table false ordinal (defines set members) other peer key e none = none
act_table false ordinal (deletes set) other peer key e none = none
act_table false ordinal (calls call) other peer key e none = none

chosen_if : (b : Bool) (variant : ℕ)
    → option_and_then table_seen (if b then Some (chose variant) else None)
    ≡ (if b then Some (chosen variant) else None)
chosen_if true variant = refl
chosen_if false variant = refl

move_table : (rows : CentreRows) (owns : Owns) (peer : ℕ) (before : List Move) (move : Move)
    → option_and_then table_seen (seen_by rows owns peer before move) ≡ table_move peer move
move_table rows owns peer before (acts key act) =
    act_table (key.peer == peer) key.ordinal act _ peer key refl
    (other_table (owns peer) (table_of rows key.peer).key
    (held_in rows owns before key.peer) key.ordinal act)
move_table rows owns peer before (updates point value) = unseen_if _ _ refl
move_table rows owns peer before (tags device tag) = unseen_if _ _ refl
move_table rows owns peer before (ticks now) = refl
move_table rows owns peer before (asks asker slot) = unseen_if _ _ refl
move_table rows owns peer before (chooses chooser variant) = chosen_if (chooser == peer) variant
move_table rows owns peer before takes_orders = refl
move_table rows owns peer before stops = refl

table_moves-seen : (rows : CentreRows) (owns : Owns) (peer : ℕ) (moves : List Move)
    → filter_map table_seen (view_by rows owns peer moves) ≡ filter_map (table_move peer) moves
table_moves-seen rows owns peer [] = refl
table_moves-seen rows owns peer (move ∷ before) =
    filter_map-cons table_seen (seen_by rows owns peer before move) (view_by rows owns peer before)
    ∙ ap (λ (o : Option TableMove). cons_option o (filter_map table_seen
    (view_by rows owns peer before))) (move_table rows owns peer before move)
    ∙ ap (λ (l : List TableMove). cons_option (table_move peer move) l)
    (table_moves-seen rows owns peer before)

-- the view has the table in force that all moves have
pub held-seen : (rows : CentreRows) (owns : Owns) (peer : ℕ) (moves : List Move)
    → held (owns peer) (view_by rows owns peer moves) ≡ held_in rows owns moves peer
held-seen rows owns peer moves =
    ap (λ (l : List TableMove). table_in (owns peer) (force_of l))
    (table_moves-seen rows owns peer moves)

-- the moment

-- the moment of all moves
abbrev moment_all : List Move → ℕ
moment_all [] = 0
moment_all (ticks now ∷ moves) = now
moment_all (_ ∷ moves) = moment_all moves

moment_if : (b : Bool) (seen : Seen) (view : View) → moment_in (seen ∷ view) ≡ moment_in view
    → moment_in (cons_option (if b then Some seen else None) view) ≡ moment_in view
moment_if true seen view e = e
moment_if false seen view e = refl

moment_deed : (tables : OwnTables) (key : List ℕ) (ordinal : ℕ) (deed : Option Deed) (view : View)
    → moment_in (cons_option (option_and_then (deed_seen tables key ordinal) deed) view)
    ≡ moment_in view
moment_deed tables key ordinal None view = refl
moment_deed tables key ordinal (Some deed) view =
    moment_if (shows_act tables deed.device.row.name deed.act)
    (other_acted key ordinal deed.device.row.name deed.act) view refl

moment_other : (tables : OwnTables) (key : List ℕ) (table : OwnTable) (ordinal : ℕ) (act : Act)
    (view : View)
    → moment_in (cons_option (other_seen tables key table ordinal act) view) ≡ moment_in view
moment_other tables key table ordinal closes view =
    moment_if (list_any (λ (d : OwnDevice). is_selectable tables d.row.name) table.devices)
    (other_closed key ordinal) view refl
moment_other tables key table ordinal opens view = refl
moment_other tables key table ordinal takes view = refl
moment_other tables key table ordinal (reads name) view =
    moment_deed tables key ordinal (deed_of table (reads name)) view
moment_other tables key table ordinal (writes name value) view =
    moment_deed tables key ordinal (deed_of table (writes name value)) view
moment_other tables key table ordinal (defines set members) view = refl
moment_other tables key table ordinal (deletes set) view = refl
moment_other tables key table ordinal (calls call) view = refl

moment_act : (b : Bool) (ordinal : ℕ) (act : Act) (other : Option Seen) (view : View)
    → moment_in (cons_option other view) ≡ moment_in view
    → moment_in (cons_option (if b then Some (own ordinal act) else other) view) ≡ moment_in view
moment_act true ordinal act other view e = refl
moment_act false ordinal act other view e = e

pub moment-seen : (rows : CentreRows) (owns : Owns) (peer : ℕ) (moves : List Move)
    → moment_in (view_by rows owns peer moves) ≡ moment_all moves
moment-seen rows owns peer [] = refl
moment-seen rows owns peer (acts key act ∷ before) =
    moment_act (key.peer == peer) key.ordinal act _ (view_by rows owns peer before)
    (moment_other (owns peer) (table_of rows key.peer).key
    (held_in rows owns before key.peer) key.ordinal act (view_by rows owns peer before))
    ∙ moment-seen rows owns peer before
moment-seen rows owns peer (updates point value ∷ before) =
    moment_if (is_point_of rows peer point) (updated (point_of rows point).name value)
    (view_by rows owns peer before) refl ∙ moment-seen rows owns peer before
moment-seen rows owns peer (tags device tag ∷ before) =
    moment_if (is_some (device_named (owns peer) (device_of rows device).name))
    (tagged (device_of rows device).name tag) (view_by rows owns peer before) refl
    ∙ moment-seen rows owns peer before
moment-seen rows owns peer (ticks now ∷ before) = refl
moment-seen rows owns peer (asks asker slot ∷ before) =
    moment_if (asker == peer) (asked slot) (view_by rows owns peer before) refl
    ∙ moment-seen rows owns peer before
moment-seen rows owns peer (chooses chooser variant ∷ before) =
    moment_if (chooser == peer) (chose variant) (view_by rows owns peer before) refl
    ∙ moment-seen rows owns peer before
moment-seen rows owns peer (takes_orders ∷ before) = moment-seen rows owns peer before
moment-seen rows owns peer (stops ∷ before) =
    moment-seen rows owns peer before

-- steps go by the same ticks
deed_moment : (key : Key) (deed : Option Deed) (steps : List DeviceStep)
    → moment_of (cons_option (option_map (step_of_deed key) deed) steps) ≡ moment_of steps
deed_moment key None steps = refl
deed_moment key (Some deed) steps = refl

pub steps_seen-moment : (tables : OwnTables) (view : View)
    → moment_of (steps_seen tables view) ≡ moment_in view
steps_seen-moment tables [] = refl
steps_seen-moment tables (own ordinal closes ∷ view) = steps_seen-moment tables view
steps_seen-moment tables (own ordinal opens ∷ view) = steps_seen-moment tables view
steps_seen-moment tables (own ordinal takes ∷ view) = steps_seen-moment tables view
steps_seen-moment tables (own ordinal (reads name) ∷ view) =
    deed_moment _ (deed_of (held tables view) (reads name)) (steps_seen tables view)
    ∙ steps_seen-moment tables view
steps_seen-moment tables (own ordinal (writes name value) ∷ view) =
    deed_moment _ (deed_of (held tables view) (writes name value)) (steps_seen tables view)
    ∙ steps_seen-moment tables view
steps_seen-moment tables (own ordinal (defines set members) ∷ view) = steps_seen-moment tables view
steps_seen-moment tables (own ordinal (deletes set) ∷ view) = steps_seen-moment tables view
steps_seen-moment tables (own ordinal (calls call) ∷ view) = steps_seen-moment tables view
steps_seen-moment tables (other_acted key ordinal device act ∷ view) = steps_seen-moment tables view
steps_seen-moment tables (other_closed key ordinal ∷ view) = steps_seen-moment tables view
steps_seen-moment tables (updated name value ∷ view) = steps_seen-moment tables view
steps_seen-moment tables (tagged device tag ∷ view) = steps_seen-moment tables view
steps_seen-moment tables (asked s ∷ view) = steps_seen-moment tables view
steps_seen-moment tables (chose variant ∷ view) = steps_seen-moment tables view
steps_seen-moment tables (ticked now ∷ view) = refl
steps_seen-moment tables (stopped ∷ view) = steps_seen-moment tables view

pub steps_in-moment : (rows : CentreRows) (owns : Owns) (moves : List Move)
    → moment_of (steps_in rows owns moves) ≡ moment_all moves
steps_in-moment rows owns [] = refl
steps_in-moment rows owns (acts key closes ∷ before) = steps_in-moment rows owns before
steps_in-moment rows owns (acts key opens ∷ before) = steps_in-moment rows owns before
steps_in-moment rows owns (acts key takes ∷ before) = steps_in-moment rows owns before
steps_in-moment rows owns (acts key (reads name) ∷ before) =
    deed_moment _ (deed_of (held_in rows owns before key.peer) (reads name))
    (steps_in rows owns before)
    ∙ steps_in-moment rows owns before
steps_in-moment rows owns (acts key (writes name value) ∷ before) =
    deed_moment _ (deed_of (held_in rows owns before key.peer) (writes name value))
    (steps_in rows owns before)
    ∙ steps_in-moment rows owns before
steps_in-moment rows owns (acts key (defines set members) ∷ before) =
    steps_in-moment rows owns before
steps_in-moment rows owns (acts key (deletes set) ∷ before) = steps_in-moment rows owns before
steps_in-moment rows owns (acts key (calls call) ∷ before) = steps_in-moment rows owns before
steps_in-moment rows owns (updates point value ∷ before) = steps_in-moment rows owns before
steps_in-moment rows owns (tags device tag ∷ before) = steps_in-moment rows owns before
steps_in-moment rows owns (ticks now ∷ before) = refl
steps_in-moment rows owns (asks asker slot ∷ before) = steps_in-moment rows owns before
steps_in-moment rows owns (chooses chooser variant ∷ before) = steps_in-moment rows owns before
steps_in-moment rows owns (takes_orders ∷ before) = steps_in-moment rows owns before
steps_in-moment rows owns (stops ∷ before) = steps_in-moment rows owns before

-- the steps in the view stand at the moment of all steps
pub moment-alike : (rows : CentreRows) (owns : Owns) (peer : ℕ) (moves : List Move)
    → moment_of (steps_seen (owns peer) (view_by rows owns peer moves))
    ≡ moment_of (steps_in rows owns moves)
moment-alike rows owns peer moves =
    steps_seen-moment (owns peer) (view_by rows owns peer moves)
    ∙ moment-seen rows owns peer moves ∙ sym (steps_in-moment rows owns moves)
