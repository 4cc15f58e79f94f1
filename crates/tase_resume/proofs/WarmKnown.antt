-- What a lived history has chosen, given and ticked last is there, and within its limits.
use Rattle.std.proofs.Common.{◌≡◌, ◌==◌, ℕ, ◌≤◌, Bool, true, false, if◌then◌else◌, List, []}
use Rattle.std.proofs.Common.{◌∷◌, ◌++◌, length, Option, Some, None, refl, sym, ap, subst, inl, inr}
use Rattle.std.proofs.Common.{◌⊎◌, arith}
use Rattle.std.specs.Prelude.{filter_map, nat_le, nat_lt}
use Rattle.std.specs.List.{cons_option}
use Rattle.std.proofs.lemmas.Bool.{eqb-true, and_parts, ltb-true}
use Rattle.std.proofs.lemmas.Option.{same_Some, none-some}
use Rattle.tase_points.specs.Sample.{Sample}
use Rattle.point_db.specs.Updates.{Updates, values_given, newest_of}
use Rattle.bilateral.specs.Rows.{CentreRows, device_of}
use Rattle.sbo_device.specs.declared.key.Key.{Key}
use Rattle.sbo_device.specs.declared.device.TheConstants.{MOMENT_LIMIT}
use Rattle.sbo_device.specs.Moves.{Tag}
use Rattle.sbo_device.specs.States.{tag_of}
use Rattle.tase_views.specs.declared.event.Entry.{Entry}
use Rattle.tase_views.specs.declared.fault.StepFault.TheVariants.{ClockRange, Backward}
use Rattle.tase_views.specs.Moves.{EventSort, sort_of, opening, requesting, taking, closing}
use Rattle.tase_views.specs.Moves.{taking_orders, feeding, acts, updates, tags, ticks, asks}
use Rattle.tase_views.specs.Moves.{chooses, takes_orders, stops, moves_of, acts_of_call}
use Rattle.tase_views.specs.Force.{TableMove, opened, closed, chosen, last_chosen, table_move}
use Rattle.tase_views.specs.OwnTables.{own_tables}
use Rattle.tase_views.specs.Devices.{device_moves}
use Rattle.tase_views.specs.History.{Past, association_in, key_by, last_tick, moment_by}
use Rattle.tase_views.specs.View.{moves_in, steps_in}
use Rattle.tase_views.specs.Outcomes.{has_table, is_known, is_named_there, stop_refusal}
use Rattle.tase_views.specs.Outcomes.{own_refusal, clock_refusal, clock_refusal_by}
use Rattle.tase_views.specs.Lived.{IsLived}
use Rattle.tase_views.specs.Given.{update_by, updates_of}
use Rattle.tase_resume.proofs.QuietActs.{IsCentres, fed, call_quiet, quiet_tables}
use Rattle.tase_resume.proofs.Calm.{three_none}
use Rattle.tase_resume.proofs.KeysAlike.{name_allows}

-- of a history the table of a peer that was chosen last, the values of a point, the tag of a device

abbrev pub chosen_past : ℕ → Past → ℕ
chosen_past peer past = last_chosen (filter_map (table_move peer) (moves_in past))

abbrev pub values_past : ℕ → Past → List Sample
values_past point past = values_given (updates_of past) point

abbrev pub tag_past : CentreRows → ℕ → Past → Tag
tag_past rows device past =
    tag_of (device_moves (device_of rows device).name
    (steps_in rows (own_tables rows) (moves_in past)))

-- opens and closes choose nothing
pub opened_chosen : (b : Bool) (moves : List TableMove)
    → last_chosen (cons_option (if b then Some opened else None) moves) ≡ last_chosen moves
opened_chosen true moves = refl
opened_chosen false moves = refl

pub closed_chosen : (b : Bool) (moves : List TableMove)
    → last_chosen (cons_option (if b then Some closed else None) moves) ≡ last_chosen moves
closed_chosen true moves = refl
closed_chosen false moves = refl

-- the first table, or one that the peer has
abbrev pub IsThere : CentreRows → ℕ → ℕ → Type 0
IsThere rows peer variant = (variant ≡ 0) ⊎ (has_table rows peer variant ≡ true)

chosen_sort : (rows : CentreRows) (peer : ℕ) (past : Past) (sort : EventSort) (key : Option Key)
    → IsCentres sort → is_named_there rows sort ≡ true → IsThere rows peer (chosen_past peer past)
    → IsThere rows peer
    (last_chosen (filter_map (table_move peer) (moves_of sort key ++ moves_in past)))
chosen_sort rows peer past (opening opener) None centres named there = there
chosen_sort rows peer past (opening opener) (Some key) centres named there =
    subst (IsThere rows peer) (sym (opened_chosen (key.peer == peer)
    (filter_map (table_move peer) (moves_in past)))) there
chosen_sort rows peer past (requesting call) None centres named there = there
chosen_sort rows peer past (requesting call) (Some key) centres named there =
    subst (IsThere rows peer) (sym (ap last_chosen
    (quiet_tables peer key (acts_of_call call) (moves_in past) (call_quiet call)))) there
chosen_sort rows peer past taking None centres named there = there
chosen_sort rows peer past taking (Some key) centres named there = there
chosen_sort rows peer past closing None centres named there = there
chosen_sort rows peer past closing (Some key) centres named there =
    subst (IsThere rows peer) (sym (closed_chosen (key.peer == peer)
    (filter_map (table_move peer) (moves_in past)))) there
chosen_sort rows peer past taking_orders key centres named there = there
chosen_sort rows peer past (feeding (acts by act)) key centres named there = absurd centres
chosen_sort rows peer past (feeding (updates point value)) key centres named there = there
chosen_sort rows peer past (feeding (tags device tag)) key centres named there = there
chosen_sort rows peer past (feeding (ticks now)) key centres named there = there
chosen_sort rows peer past (feeding (asks asker slot)) key centres named there = there
chosen_sort rows peer past (feeding (chooses chooser variant)) key centres named there =
    by (chooser == peer) refl
  where
    by : (b : Bool) → (chooser == peer) ≡ b
        → IsThere rows peer (last_chosen
        (cons_option (if b then Some (chosen variant) else None)
        (filter_map (table_move peer) (moves_in past))))
    by true e =
        inr (subst (λ p. has_table rows p variant ≡ true) (eqb-true chooser peer e) named)
    by false e = there
chosen_sort rows peer past (feeding takes_orders) key centres named there = there
chosen_sort rows peer past (feeding stops) key centres named there = there

pub chosen_there : (rows : CentreRows) (past : Past) (peer : ℕ) → IsLived rows past
    → IsThere rows peer (chosen_past peer past)
chosen_there rows [] peer lived = inl refl
chosen_there rows (entry ∷ past) peer lived =
    chosen_sort rows peer past (sort_of entry.event)
    (key_by (sort_of entry.event) past (association_in past entry.who)) (fed entry.event)
    (name_allows rows entry past lived) (chosen_there rows past peer lived.1)

-- no table of a peer that isn't there
pub chosen_nowhere : (rows : CentreRows) (past : Past) (peer : ℕ) → IsLived rows past
    → length rows.tables ≤ peer → chosen_past peer past ≡ 0
chosen_nowhere rows past peer lived past_all = by (chosen_there rows past peer lived)
  where
    by : IsThere rows peer (chosen_past peer past) → chosen_past peer past ≡ 0
    by (inl none) = none
    by (inr there) =
        let below = ltb-true peer (length rows.tables)
        (and_parts (nat_lt peer (length rows.tables)) _ there).0 in
        absurd (omega (arith, below, past_all))

-- the value that a point was given last is of its kind

given_sort : (rows : CentreRows) (point : ℕ) (before : Updates) (sort : EventSort) (value : Sample)
    → is_named_there rows sort ≡ true
    → (newest_of (values_given before point) ≡ Some value → is_known rows point value ≡ true)
    → newest_of (values_given (cons_option (update_by sort) before) point) ≡ Some value
    → is_known rows point value ≡ true
given_sort rows point before (feeding (updates given sample)) value named known is =
    by (given == point) refl is
  where
    by : (b : Bool) → (given == point) ≡ b
        → newest_of (cons_option (if b then Some sample else None) (values_given before point))
        ≡ Some value
        → is_known rows point value ≡ true
    by true e f =
        subst (λ p. is_known rows p value ≡ true) (eqb-true given point e)
        (subst (λ (s : Sample). is_known rows given s ≡ true) (same_Some sample value f) named)
    by false e f = known f
given_sort rows point before (opening peer) value named known is = known is
given_sort rows point before (requesting call) value named known is = known is
given_sort rows point before taking value named known is = known is
given_sort rows point before closing value named known is = known is
given_sort rows point before taking_orders value named known is = known is
given_sort rows point before (feeding (acts key act)) value named known is = known is
given_sort rows point before (feeding (tags device tag)) value named known is = known is
given_sort rows point before (feeding (ticks now)) value named known is = known is
given_sort rows point before (feeding (asks peer slot)) value named known is = known is
given_sort rows point before (feeding (chooses peer variant)) value named known is = known is
given_sort rows point before (feeding takes_orders) value named known is = known is
given_sort rows point before (feeding stops) value named known is = known is

updates-entry : (entry : Entry) (past : Past)
    → updates_of (entry ∷ past)
    ≡ cons_option (update_by (sort_of entry.event)) (updates_of past)
updates-entry entry past = refl

pub given_known : (rows : CentreRows) (past : Past) (point : ℕ) (value : Sample)
    → IsLived rows past → newest_of (values_past point past) ≡ Some value
    → is_known rows point value ≡ true
given_known rows [] point value lived is = absurd (none-some value is)
given_known rows (entry ∷ past) point value lived is =
    given_sort rows point (updates_of past) (sort_of entry.event) value
    (name_allows rows entry past lived) (given_known rows past point value lived.1) is

-- no values of a point that isn't there
pub given_nowhere : (rows : CentreRows) (past : Past) (point : ℕ) → IsLived rows past
    → length rows.points ≤ point → values_past point past ≡ []
given_nowhere rows past point lived past_all = by (values_past point past) refl
  where
    by : (l : List Sample) → values_past point past ≡ l → values_past point past ≡ []
    by [] e = e
    by (value ∷ l) e =
        let known = given_known rows past point value lived (ap newest_of e) in
        let below = ltb-true point (length rows.points)
        (and_parts (nat_lt point (length rows.points)) _ known).0 in
        absurd (omega (arith, below, past_all))

-- the moment is within the limit

tick_sort : (last : ℕ) (sort : EventSort) → clock_refusal_by last sort ≡ None
    → nat_le MOMENT_LIMIT last ≡ false → nat_le MOMENT_LIMIT (moment_by sort last) ≡ false
tick_sort last (feeding (ticks now)) none before = by (nat_le MOMENT_LIMIT now) none
  where
    by : (b : Bool)
        → (if b then Some ClockRange
        else (if nat_le now last then Some (Backward last) else None)) ≡ None
        → b ≡ false
    by true e = absurd (none-some ClockRange (sym e))
    by false e = refl
tick_sort last (opening peer) none before = before
tick_sort last (requesting call) none before = before
tick_sort last taking none before = before
tick_sort last closing none before = before
tick_sort last taking_orders none before = before
tick_sort last (feeding (acts key act)) none before = before
tick_sort last (feeding (updates point value)) none before = before
tick_sort last (feeding (tags device tag)) none before = before
tick_sort last (feeding (asks peer slot)) none before = before
tick_sort last (feeding (chooses peer variant)) none before = before
tick_sort last (feeding takes_orders) none before = before
tick_sort last (feeding stops) none before = before

pub tick_within : (rows : CentreRows) (past : Past) → IsLived rows past
    → nat_le MOMENT_LIMIT (last_tick past) ≡ false
tick_within rows [] lived = refl
tick_within rows (entry ∷ past) lived =
    tick_sort (last_tick past) (sort_of entry.event)
    (three_none (stop_refusal past entry.event) (own_refusal rows past entry.who entry.event)
    (clock_refusal past entry.event) lived.0).2
    (tick_within rows past lived.1)
