-- The moment that a peer sees is that of the history's last tick.
use Rattle.std.proofs.Common.{◌≡◌, ℕ, List, [], ◌∷◌, ◌++◌, map, Option, Some, None, refl, sym, ap}
use Rattle.std.proofs.Common.{◌∙◌}
use Rattle.std.specs.Prelude.{option_map}
use Rattle.std.specs.List.{cons_option}
use Rattle.bilateral.specs.Rows.{CentreRows}
use Rattle.sbo_device.specs.declared.key.Key.{Key}
use Rattle.tase_views.specs.Moves.{Act, opens, takes, closes, reads, writes, defines, deletes}
use Rattle.tase_views.specs.Moves.{calls, EventSort, sort_of, opening, requesting, taking, closing}
use Rattle.tase_views.specs.Moves.{taking_orders, feeding, Move, acts, updates, tags, ticks, asks}
use Rattle.tase_views.specs.Moves.{chooses, takes_orders, stops, moves_of, acts_of_call}
use Rattle.tase_views.specs.OwnTables.{own_tables}
use Rattle.tase_views.specs.Devices.{Deed, deed_of, DeviceStep, step_of_deed, moment_of}
use Rattle.tase_views.specs.History.{Past, association_in, key_by, last_tick, moment_by}
use Rattle.tase_views.specs.View.{moves_in, view_of, steps_in, held_in, moment_in}
use Rattle.tase_views.proofs.InForce.{steps_seen-moment, moment-alike}
use Rattle.tase_resume.proofs.QuietActs.{IsCentres, fed}

deed_moment : (key : Key) (deed : Option Deed) (steps : List DeviceStep)
    → moment_of (cons_option (option_map (step_of_deed key) deed) steps) ≡ moment_of steps
deed_moment key None steps = refl
deed_moment key (Some deed) steps = refl

module _ (rows : CentreRows) where
  abbrev moment_at : List Move → ℕ
  moment_at moves = moment_of (steps_in rows (own_tables rows) moves)

  act_moment : (key : Key) (act : Act) (before : List Move)
      → moment_at (acts key act ∷ before) ≡ moment_at before
  act_moment key closes before = refl
  act_moment key opens before = refl
  act_moment key takes before = refl
  act_moment key (reads name) before =
      deed_moment key (deed_of (held_in rows (own_tables rows) before key.peer) (reads name))
      (steps_in rows (own_tables rows) before)
  act_moment key (writes name value) before =
      deed_moment key (deed_of (held_in rows (own_tables rows) before key.peer) (writes name value))
      (steps_in rows (own_tables rows) before)
  act_moment key (defines set members) before = refl
  act_moment key (deletes set) before = refl
  act_moment key (calls call) before = refl

  acts_moment : (key : Key) (these : List Act) (before : List Move)
      → moment_at (map (acts key) these ++ before) ≡ moment_at before
  acts_moment key [] before = refl
  acts_moment key (act ∷ these) before =
      act_moment key act (map (acts key) these ++ before) ∙ acts_moment key these before

  sort_moment : (sort : EventSort) (key : Option Key) (before : List Move) → IsCentres sort
      → moment_at (moves_of sort key ++ before) ≡ moment_by sort (moment_at before)
  sort_moment (opening peer) None before centres = refl
  sort_moment (opening peer) (Some key) before centres = refl
  sort_moment (requesting call) None before centres = refl
  sort_moment (requesting call) (Some key) before centres =
      acts_moment key (acts_of_call call) before
  sort_moment taking None before centres = refl
  sort_moment taking (Some key) before centres = refl
  sort_moment closing None before centres = refl
  sort_moment closing (Some key) before centres = refl
  sort_moment taking_orders key before centres = refl
  sort_moment (feeding (acts by act)) key before centres = absurd centres
  sort_moment (feeding (updates point value)) key before centres = refl
  sort_moment (feeding (tags device tag)) key before centres = refl
  sort_moment (feeding (ticks now)) key before centres = refl
  sort_moment (feeding (asks peer slot)) key before centres = refl
  sort_moment (feeding (chooses peer variant)) key before centres = refl
  sort_moment (feeding takes_orders) key before centres = refl
  sort_moment (feeding stops) key before centres = refl

  tick_moment : (past : Past) → moment_at (moves_in past) ≡ last_tick past
  tick_moment [] = refl
  tick_moment (entry ∷ past) =
      sort_moment (sort_of entry.event)
      (key_by (sort_of entry.event) past (association_in past entry.who)) (moves_in past)
      (fed entry.event)
      ∙ ap (moment_by (sort_of entry.event)) (tick_moment past)

  pub moment_is : (peer : ℕ) (past : Past) → moment_in (view_of rows peer past) ≡ last_tick past
  moment_is peer past =
      sym (steps_seen-moment (own_tables rows peer) (view_of rows peer past))
      ∙ moment-alike rows (own_tables rows) peer (moves_in past)
      ∙ tick_moment past
