-- The moment of a history's steps is that of its last tick.
use Rattle.std.proofs.Common.{◌≡◌, List, [], ◌∷◌, ◌++◌, map, Option, Some, None, refl, ap, ◌∙◌}
use Rattle.std.specs.Prelude.{option_map}
use Rattle.std.specs.List.{cons_option}
use Rattle.bilateral.specs.Rows.{CentreRows}
use Rattle.sbo_device.specs.declared.key.Key.{Key}
use Rattle.tase_views.specs.Moves.{Act, opens, takes, closes, reads, writes, defines, deletes}
use Rattle.tase_views.specs.Moves.{calls, Move, acts, updates, tags, ticks, asks, chooses}
use Rattle.tase_views.specs.Moves.{takes_orders, stops, EventSort, opening, requesting, taking}
use Rattle.tase_views.specs.Moves.{closing, taking_orders, feeding, sort_of, acts_of_call}
use Rattle.tase_views.specs.Moves.{moves_by, moves_of}
use Rattle.tase_views.specs.History.{Past, key_at, moment_by, last_tick}
use Rattle.tase_views.specs.OwnTables.{own_tables}
use Rattle.tase_views.specs.Devices.{Deed, deed_of, DeviceStep, step_of_deed, moment_of}
use Rattle.tase_views.specs.View.{moves_in, held_in, steps_in}

deed_moment : (key : Key) (deed : Option Deed) (steps : List DeviceStep)
    → moment_of (cons_option (option_map (step_of_deed key) deed) steps) ≡ moment_of steps
deed_moment key None steps = refl
deed_moment key (Some deed) steps = refl

act_moment : (rows : CentreRows) (key : Key) (act : Act) (before : List Move)
    → moment_of (steps_in rows (own_tables rows) (acts key act ∷ before))
    ≡ moment_of (steps_in rows (own_tables rows) before)
act_moment rows key opens before = refl
act_moment rows key takes before = refl
act_moment rows key closes before = refl
act_moment rows key (reads name) before =
    deed_moment key (deed_of (held_in rows (own_tables rows) before key.peer) (reads name))
    (steps_in rows (own_tables rows) before)
act_moment rows key (writes name value) before =
    deed_moment key (deed_of (held_in rows (own_tables rows) before key.peer) (writes name value))
    (steps_in rows (own_tables rows) before)
act_moment rows key (defines set members) before = refl
act_moment rows key (deletes set) before = refl
act_moment rows key (calls call) before = refl

-- acts leave it
pub acts_moment : (rows : CentreRows) (key : Key) (these : List Act) (before : List Move)
    → moment_of (steps_in rows (own_tables rows) (map (acts key) these ++ before))
    ≡ moment_of (steps_in rows (own_tables rows) before)
acts_moment rows key [] before = refl
acts_moment rows key (act ∷ these) before =
    act_moment rows key act (map (acts key) these ++ before) ∙ acts_moment rows key these before

seat_moment : (rows : CentreRows) (key : Option Key) (these : List Act) (before : List Move)
    → moment_of (steps_in rows (own_tables rows) (moves_by key these ++ before))
    ≡ moment_of (steps_in rows (own_tables rows) before)
seat_moment rows None these before = refl
seat_moment rows (Some key) these before = acts_moment rows key these before

sort_moment : (rows : CentreRows) (sort : EventSort) (key : Option Key) (before : List Move)
    → moment_of (steps_in rows (own_tables rows) (moves_of sort key ++ before))
    ≡ moment_by sort (moment_of (steps_in rows (own_tables rows) before))
sort_moment rows (opening peer) key before = seat_moment rows key (opens ∷ []) before
sort_moment rows (requesting call) key before = seat_moment rows key (acts_of_call call) before
sort_moment rows taking key before = seat_moment rows key (takes ∷ []) before
sort_moment rows closing key before = seat_moment rows key (closes ∷ []) before
sort_moment rows taking_orders key before = refl
sort_moment rows (feeding (acts by act)) key before = act_moment rows by act before
sort_moment rows (feeding (updates point value)) key before = refl
sort_moment rows (feeding (tags device tag)) key before = refl
sort_moment rows (feeding (ticks now)) key before = refl
sort_moment rows (feeding (asks peer slot)) key before = refl
sort_moment rows (feeding (chooses peer variant)) key before = refl
sort_moment rows (feeding takes_orders) key before = refl
sort_moment rows (feeding stops) key before = refl

pub moment_is : (rows : CentreRows) (past : Past)
    → moment_of (steps_in rows (own_tables rows) (moves_in past)) ≡ last_tick past
moment_is rows [] = refl
moment_is rows (entry ∷ past) =
    sort_moment rows (sort_of entry.event) (key_at entry.event past entry.who) (moves_in past)
    ∙ ap (moment_by (sort_of entry.event)) (moment_is rows past)
