-- A base has the chosen tables, the values, the tags and the moment of its history.
use Rattle.std.proofs.Common.{◌≡◌, ◌==◌, ℕ, Bool, true, false, not, if◌then◌else◌, List, []}
use Rattle.std.proofs.Common.{◌∷◌, ◌++◌, map, Option, Some, None, refl, sym, ap, ◌∙◌}
use Rattle.std.specs.Prelude.{filter_map, option_map}
use Rattle.std.proofs.lemmas.Bool.{false≢true}
use Rattle.std.specs.List.{cons_option}
use Rattle.bilateral.specs.Rows.{CentreRows, device_of}
use Rattle.sbo_device.specs.declared.key.Key.{Key}
use Rattle.sbo_device.specs.States.{tag_of}
use Rattle.point_db.specs.Updates.{Updates, values_given}
use Rattle.tase_views.specs.Moves.{Act, opens, takes, closes, reads, writes, defines, deletes}
use Rattle.tase_views.specs.Moves.{calls, EventSort, sort_of, opening, requesting, taking, closing}
use Rattle.tase_views.specs.Moves.{taking_orders, feeding, Move, acts, updates, tags, ticks, asks}
use Rattle.tase_views.specs.Moves.{chooses, takes_orders, stops, moves_of, acts_of_call}
use Rattle.tase_views.specs.OwnTables.{OwnTable, own_tables, table_in}
use Rattle.tase_views.specs.Force.{TableMove, last_chosen, force_of, table_move}
use Rattle.tase_views.specs.Devices.{deed_of, device_moves, DeviceStep, step_of_deed}
use Rattle.tase_views.specs.History.{Past, association_in, key_by, opens_in, last_tick, is_stop}
use Rattle.tase_views.specs.History.{is_stopping}
use Rattle.tase_views.specs.View.{moves_in, held_in, step_in, steps_in}
use Rattle.tase_views.specs.Given.{update_by, updates_of}
use Rattle.tase_resume.specs.Bases.{close_of, open_seats, without_stops, settled_past}
use Rattle.tase_resume.proofs.Calm.{stop_is, calm_opens, calm_association, calm_tick}
use Rattle.tase_resume.proofs.Settled.{closed_behind, settled_is}
use Rattle.tase_resume.proofs.WarmKnown.{chosen_past, values_past, tag_past, closed_chosen}

-- the moment and the values

closed_tick : (seats : List ℕ) (past : Past) → last_tick (closed_behind seats past) ≡ last_tick past
closed_tick [] past = refl
closed_tick (who ∷ seats) past = closed_tick seats (close_of who ∷ past)

pub settled_tick : (past : Past) → last_tick (settled_past past) ≡ last_tick past
settled_tick past =
    ap last_tick (settled_is past) ∙ closed_tick (open_seats past) (without_stops past)
    ∙ calm_tick past

closed_updates : (seats : List ℕ) (past : Past)
    → updates_of (closed_behind seats past) ≡ updates_of past
closed_updates [] past = refl
closed_updates (who ∷ seats) past = closed_updates seats (close_of who ∷ past)

calm_updates : (past : Past) → updates_of (without_stops past) ≡ updates_of past
calm_updates [] = refl
calm_updates (entry ∷ past) = by (is_stop entry.event) refl (calm_updates past)
  where
    by : (b : Bool) → is_stop entry.event ≡ b
        → updates_of (without_stops past) ≡ updates_of past
        → updates_of (if not b then entry ∷ without_stops past else without_stops past)
        ≡ cons_option (update_by (sort_of entry.event)) (updates_of past)
    by true e rest =
        rest ∙ ap (λ (s : EventSort). cons_option (update_by s) (updates_of past))
        (sym (stop_is (sort_of entry.event) e))
    by false e rest =
        ap (λ (u : Updates). cons_option (update_by (sort_of entry.event)) u) rest

pub settled_values : (past : Past) (point : ℕ)
    → values_past point (settled_past past) ≡ values_past point past
settled_values past point =
    ap (λ (u : Updates). values_given u point)
    (ap updates_of (settled_is past) ∙ closed_updates (open_seats past) (without_stops past)
    ∙ calm_updates past)

-- moves without the stop

abbrev going_moves : List Move → List Move
going_moves [] = []
going_moves (stops ∷ moves) = going_moves moves
going_moves (move ∷ moves) = move ∷ going_moves moves

going_acts : (key : Key) (these : List Act) (moves : List Move)
    → going_moves (map (acts key) these ++ moves) ≡ map (acts key) these ++ going_moves moves
going_acts key [] moves = refl
going_acts key (act ∷ these) moves =
    ap (λ (l : List Move). acts key act ∷ l) (going_acts key these moves)

key_calm : (sort : EventSort) (one other : Past) (before after : Option Key)
    → ((peer : ℕ) → opens_in one peer ≡ opens_in other peer) → before ≡ after
    → key_by sort one before ≡ key_by sort other after
key_calm (opening peer) one other before after same e =
    ap (λ n. let key : Key = record { peer = peer; ordinal = n } in Some key) (same peer)
key_calm (requesting call) one other before after same e = e
key_calm taking one other before after same e = e
key_calm closing one other before after same e = e
key_calm taking_orders one other before after same e = e
key_calm (feeding move) one other before after same e = e

going_sort : (sort : EventSort) (key : Option Key) (moves : List Move)
    → (sort ≡ feeding stops → ⊥)
    → going_moves (moves_of sort key ++ moves) ≡ moves_of sort key ++ going_moves moves
going_sort (opening peer) None moves isnt = refl
going_sort (opening peer) (Some key) moves isnt = refl
going_sort (requesting call) None moves isnt = refl
going_sort (requesting call) (Some key) moves isnt = going_acts key (acts_of_call call) moves
going_sort taking None moves isnt = refl
going_sort taking (Some key) moves isnt = refl
going_sort closing None moves isnt = refl
going_sort closing (Some key) moves isnt = refl
going_sort taking_orders key moves isnt = refl
going_sort (feeding (acts by act)) key moves isnt = refl
going_sort (feeding (updates point value)) key moves isnt = refl
going_sort (feeding (tags device tag)) key moves isnt = refl
going_sort (feeding (ticks now)) key moves isnt = refl
going_sort (feeding (asks peer slot)) key moves isnt = refl
going_sort (feeding (chooses peer variant)) key moves isnt = refl
going_sort (feeding takes_orders) key moves isnt = refl
going_sort (feeding stops) key moves isnt = absurd (isnt refl)

calm_moves : (past : Past) → moves_in (without_stops past) ≡ going_moves (moves_in past)
calm_moves [] = refl
calm_moves (entry ∷ past) = by (is_stop entry.event) refl (calm_moves past)
  where
    by : (b : Bool) → is_stop entry.event ≡ b
        → moves_in (without_stops past) ≡ going_moves (moves_in past)
        → moves_in (if not b then entry ∷ without_stops past else without_stops past)
        ≡ going_moves (moves_of (sort_of entry.event)
        (key_by (sort_of entry.event) past (association_in past entry.who)) ++ moves_in past)
    by true e rest =
        rest ∙ ap (λ (s : EventSort). going_moves (moves_of s
        (key_by s past (association_in past entry.who)) ++ moves_in past))
        (sym (stop_is (sort_of entry.event) e))
    by false e rest =
        ap (λ (k : Option Key). moves_of (sort_of entry.event) k ++ moves_in (without_stops past))
        (key_calm (sort_of entry.event) (without_stops past) past
        (association_in (without_stops past) entry.who) (association_in past entry.who)
        (calm_opens past) (calm_association past entry.who))
        ∙ ap (λ (l : List Move). moves_of (sort_of entry.event)
        (key_by (sort_of entry.event) past (association_in past entry.who)) ++ l) rest
        ∙ sym (going_sort (sort_of entry.event)
        (key_by (sort_of entry.event) past (association_in past entry.who)) (moves_in past)
        (λ same. false≢true (sym e ∙ ap is_stopping same)))

going_tables : (peer : ℕ) (moves : List Move)
    → filter_map (table_move peer) (going_moves moves) ≡ filter_map (table_move peer) moves
going_tables peer [] = refl
going_tables peer (acts key act ∷ moves) =
    ap (λ (l : List TableMove). cons_option (table_move peer (acts key act)) l)
    (going_tables peer moves)
going_tables peer (updates point value ∷ moves) = going_tables peer moves
going_tables peer (tags device tag ∷ moves) = going_tables peer moves
going_tables peer (ticks now ∷ moves) = going_tables peer moves
going_tables peer (asks asker slot ∷ moves) = going_tables peer moves
going_tables peer (chooses chooser variant ∷ moves) =
    ap (λ (l : List TableMove). cons_option (table_move peer (chooses chooser variant)) l)
    (going_tables peer moves)
going_tables peer (takes_orders ∷ moves) = going_tables peer moves
going_tables peer (stops ∷ moves) = going_tables peer moves

-- the chosen table

closed_choice : (peer : ℕ) (seats : List ℕ) (past : Past)
    → chosen_past peer (closed_behind seats past) ≡ chosen_past peer past
closed_choice peer [] past = refl
closed_choice peer (who ∷ seats) past =
    closed_choice peer seats (close_of who ∷ past) ∙ by (association_in past who)
  where
    by : (k : Option Key)
        → last_chosen (filter_map (table_move peer) (moves_of closing k ++ moves_in past))
        ≡ chosen_past peer past
    by None = refl
    by (Some key) =
        closed_chosen (key.peer == peer) (filter_map (table_move peer) (moves_in past))

pub settled_choice : (past : Past) (peer : ℕ)
    → chosen_past peer (settled_past past) ≡ chosen_past peer past
settled_choice past peer =
    ap (chosen_past peer) (settled_is past)
    ∙ closed_choice peer (open_seats past) (without_stops past)
    ∙ ap (λ (l : List Move). last_chosen (filter_map (table_move peer) l)) (calm_moves past)
    ∙ ap last_chosen (going_tables peer (moves_in past))

-- tags

module _ (rows : CentreRows) where
  held_going : (moves : List Move) (peer : ℕ)
      → held_in rows (own_tables rows) (going_moves moves) peer
      ≡ held_in rows (own_tables rows) moves peer
  held_going moves peer =
      ap (λ (l : List TableMove). table_in (own_tables rows peer) (force_of l))
      (going_tables peer moves)

  act_going : (key : Key) (act : Act) (moves : List Move)
      → step_in rows (own_tables rows) (going_moves moves) (acts key act)
      ≡ step_in rows (own_tables rows) moves (acts key act)
  act_going key closes moves = refl
  act_going key opens moves = refl
  act_going key takes moves = refl
  act_going key (reads name) moves =
      ap (λ (t : OwnTable). option_map (step_of_deed key) (deed_of t (reads name)))
      (held_going moves key.peer)
  act_going key (writes name value) moves =
      ap (λ (t : OwnTable). option_map (step_of_deed key) (deed_of t (writes name value)))
      (held_going moves key.peer)
  act_going key (defines set members) moves = refl
  act_going key (deletes set) moves = refl
  act_going key (calls call) moves = refl

  steps_going : (moves : List Move)
      → steps_in rows (own_tables rows) (going_moves moves)
      ≡ steps_in rows (own_tables rows) moves
  steps_going [] = refl
  steps_going (acts key act ∷ moves) =
      ap (λ (o : Option DeviceStep).
      cons_option o (steps_in rows (own_tables rows) (going_moves moves)))
      (act_going key act moves)
      ∙ ap (λ (l : List DeviceStep).
      cons_option (step_in rows (own_tables rows) moves (acts key act)) l) (steps_going moves)
  steps_going (updates point value ∷ moves) = steps_going moves
  steps_going (tags device tag ∷ moves) =
      ap (λ (l : List DeviceStep).
      cons_option (step_in rows (own_tables rows) moves (tags device tag)) l) (steps_going moves)
  steps_going (ticks now ∷ moves) =
      ap (λ (l : List DeviceStep).
      cons_option (step_in rows (own_tables rows) moves (ticks now)) l) (steps_going moves)
  steps_going (asks asker slot ∷ moves) = steps_going moves
  steps_going (chooses chooser variant ∷ moves) = steps_going moves
  steps_going (takes_orders ∷ moves) = steps_going moves
  steps_going (stops ∷ moves) = steps_going moves

  closed_tag : (device : ℕ) (seats : List ℕ) (past : Past)
      → tag_past rows device (closed_behind seats past) ≡ tag_past rows device past
  closed_tag device [] past = refl
  closed_tag device (who ∷ seats) past =
      closed_tag device seats (close_of who ∷ past) ∙ by (association_in past who)
    where
      by : (k : Option Key)
          → tag_of (device_moves (device_of rows device).name
          (steps_in rows (own_tables rows) (moves_of closing k ++ moves_in past)))
          ≡ tag_past rows device past
      by None = refl
      by (Some key) = refl

  pub settled_tag : (past : Past) (device : ℕ)
      → tag_past rows device (settled_past past) ≡ tag_past rows device past
  settled_tag past device =
      let name = (device_of rows device).name in
      ap (tag_past rows device) (settled_is past)
      ∙ closed_tag device (open_seats past) (without_stops past)
      ∙ ap (λ (l : List Move). tag_of (device_moves name (steps_in rows (own_tables rows) l)))
      (calm_moves past)
      ∙ ap (λ (l : List DeviceStep). tag_of (device_moves name l)) (steps_going (moves_in past))
