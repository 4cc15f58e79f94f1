-- The reports of transfer sets and of selections that ran out (IEC 60870-6-503, DS transfer set
-- report and device timeout; the name of a time-out is this project's profile).
use Rattle.std.specs.Prelude.{ℕ, ◌+◌, ◌/◌, ◌==◌, ◌&&◌, ◌||◌, not, if◌then◌else◌, Bool, true, false}
use Rattle.std.specs.Prelude.{pos, List, [], ◌∷◌, ◌++◌, map, filter_map, flat_map}
use Rattle.std.specs.Prelude.{take, drop, slice_get, Option, Some, None, codes}
use Rattle.std.specs.List.{range_with_len, list_any}
use Rattle.std.specs.Option.{option_map_or, unwrap_or}
use Rattle.point_data.specs.Shown.{shown_as}
use Rattle.mms_data.specs.Datum.{Datum, integer, bits}
use Rattle.mms_data.specs.ObjectName.{ObjectName}
use Rattle.mms_data.specs.declared.outcome.Outcome.{Outcome}
use Rattle.mms_data.specs.declared.outcome.Outcome.TheVariants.{Good, Fail}
use Rattle.sbo_device.specs.declared.hold.Hold.{Hold}
use Rattle.sbo_device.specs.States.{same_key, hold_ended}
use Rattle.transfer_sets.specs.declared.noted.Noted.{Noted}
use Rattle.transfer_sets.specs.SlotState.{SlotState, tells_all}
use Rattle.transfer_sets.specs.Due.{AreDue, conditions_due, noted_limit}
use Rattle.tase_views.specs.declared.reply.ReportKind.{ReportKind}
use Rattle.tase_views.specs.declared.reply.ReportKind.TheVariants.{Set, Variables}
use Rattle.tase_views.specs.declared.reply.TheConstants.{OBJECT_NON_EXISTENT}
use Rattle.tase_views.specs.OwnTables.{OwnDevice, OwnTable, OwnTables, domain_name, control_of}
use Rattle.tase_views.specs.Objects.{Object, ReportVariable, set_name, time_stamp}
use Rattle.tase_views.specs.Objects.{conditions_detected, event_code, indication_point}
use Rattle.tase_views.specs.Objects.{report_variable, object_named}
use Rattle.tase_views.specs.Moves.{takes}
use Rattle.tase_views.specs.View.{Seen, own, asked, ticked, View, held, moment_in, own_key}
use Rattle.tase_views.specs.View.{moves_seen}
use Rattle.tase_views.specs.Answers.{outcome_of_point, slot_name}
use Rattle.tase_views.specs.Slots.{owns, members_told, state_by, only_changes, makes_report}
use Rattle.tase_views.specs.Slots.{asked_conditions, sets_in, slot_moves}

-- a variable with its outcome
pub record Told : Type 0 where
  pub name : ObjectName
  pub outcome : Outcome

abbrev pub report_of_all : List Told → ReportKind
report_of_all told =
    Variables (map (λ (t : Told). t.name) told) (map (λ (t : Told). t.outcome) told)

-- what a report variable tells: the transfer set's name; the moment in whole seconds; the
-- conditions as five bits; no event's code
abbrev pub variable_told : OwnTable → ℕ → ℕ → ℕ → ReportVariable → Datum
variable_told table s now conditions set_name = slot_name table s
variable_told table s now conditions time_stamp = integer (pos (now / 1000))
variable_told table s now conditions conditions_detected =
    bits (record { count = 5; octets = conditions ∷ [] })
variable_told table s now conditions event_code = integer (pos 0)

-- what a report tells of a member of its data set: a report variable, or a point as it stands
abbrev pub member_told : OwnTable → View → ℕ → ℕ → ℕ → Option Object → Outcome
member_told table view s now conditions (Some (report_variable v)) =
    Good (variable_told table s now conditions v)
member_told table view s now conditions (Some (indication_point p)) = outcome_of_point view p
member_told table view s now conditions _ = Fail OBJECT_NON_EXISTENT

-- what it tells of a member as its point stood just after a change
abbrev pub noted_told : Noted → Option Object → Outcome
noted_told noted (Some (indication_point p)) = Good (shown_as noted.value noted.cov p.layout)
noted_told noted _ = Fail OBJECT_NON_EXISTENT

abbrev pub is_variable : Option Object → Bool
is_variable (Some (report_variable v)) = true
is_variable _ = false

-- the members at places that have a property of the place and the object
abbrev pub members_where :
    OwnTable → ℕ → (ℕ → Option Object → Bool) → List ObjectName → List ObjectName
members_where table place is [] = []
members_where table place is (member ∷ members) =
    if is place (object_named table member)
    then member ∷ members_where table (place + 1) is members
    else members_where table (place + 1) is members

-- parts of so many items each, of which the last may be shorter; as many parts as there are items
-- are the most
abbrev pub parts_within : {A : Type 0} → ℕ → List A → List A → List (List A)
parts_within size [] items = []
parts_within size (_ ∷ most) [] = []
parts_within size (_ ∷ most) (item ∷ items) =
    take size (item ∷ items) ∷ parts_within size most (drop size (item ∷ items))

abbrev pub parts_of : {A : Type 0} → ℕ → List A → List (List A)
parts_of size items = parts_within size items items

module _ (table : OwnTable) (view : View) (s now conditions : ℕ) where
  -- members with what is told of them
  abbrev pub told_of : List ObjectName → List Told
  told_of members =
      map (λ m. record {
        name = m;
        outcome = member_told table view s now conditions (object_named table m);
      }) members

  -- the report of the whole data set
  abbrev pub whole_report : SlotState → List ObjectName → ReportKind
  whole_report state members =
      Set (domain_name table state.wish.set_name)
      (map (λ (t : Told). t.outcome) (told_of members))

  -- the report of the report variables and the members that changed, in the set's order
  abbrev pub changed_report : SlotState → List ObjectName → ReportKind
  changed_report state members =
      report_of_all (told_of (members_where table 0
      (λ place object. is_variable object
      || list_any (λ (n : Noted). n.member == place) state.noted) members))

  -- the reports of all changes, in order: each begins with the report variables
  abbrev pub noted_of : List ObjectName → Noted → Told
  noted_of members noted =
      let name = unwrap_or (slice_get members noted.member) (domain_name table []) in
      record { name = name; outcome = noted_told noted (object_named table name) }

  abbrev pub change_reports : SlotState → List ObjectName → List ReportKind
  change_reports state members =
      let variables = told_of (members_where table 0 (λ place. is_variable) members) in
      map (λ part. report_of_all (variables ++ map (noted_of members) part))
      (parts_of noted_limit state.noted)

  -- the reports that conditions make of a transfer set at a moment: where its wish has changes
  -- reported and the conditions are none but interval and change, of the changes; else one of the
  -- whole data set
  abbrev pub slot_reports : SlotState → List ObjectName → List ReportKind
  slot_reports state members =
      if not (makes_report state conditions) then []
      else if not (state.wish.rbe && only_changes conditions) then whole_report state members ∷ []
      else if tells_all state.wish then change_reports state members
      else changed_report state members ∷ []

module _ (tables : OwnTables) where
  -- a transfer set as its due conditions see it
  abbrev pub slot_state : View → ℕ → SlotState
  slot_state view s =
      state_by (held tables view) (sets_in tables view) (slot_moves tables view s)

  -- Some conditions, as their sum, are those of a transfer set that are due at a tick to a moment:
  -- for a period some whole multiple of it after the base stands after the last tick and not after
  -- this.
  abbrev pub AreDueAt : View → ℕ → ℕ → ℕ → Type 0
  AreDueAt view s to conditions = AreDue (slot_state view s) (moment_in view) to conditions

  -- the one number that these are, as it computes
  abbrev pub due_conditions : View → ℕ → ℕ → ℕ
  due_conditions view s to = conditions_due (slot_state view s) (moment_in view) to

  -- the report of a selection of this association that a tick ends: the device's time-out with the
  -- number that answered the select
  abbrev pub timeout_report : View → ℕ → ℕ → OwnDevice → Option ReportKind
  timeout_report view ordinal now d =
      let ended = hold_ended (control_of d) (moves_seen tables view d.row.name) now in
      let name = domain_name (held tables view) (d.row.name ++ codes "_TIMEOUT") in
      let mine = own_key ordinal in
      if option_map_or (λ (hold : Hold). same_key hold.key mine) ended false
      then Some (Variables (name ∷ []) (Good (integer d.row.checkback) ∷ [])) else None

  -- the reports that conditions make of a transfer set, where this association owns it
  abbrev pub own_reports : View → ℕ → ℕ → (ℕ → ℕ) → ℕ → List ReportKind
  own_reports view ordinal now conditions s =
      let table = held tables view in
      let moves = slot_moves tables view s in
      if owns ordinal moves
      then slot_reports table view s now (conditions s) (slot_state view s)
      (members_told table (sets_in tables view) moves)
      else []

  -- the reports that a move makes for an association: a tick those of its selections that end, in
  -- the table's order, then those of its transfer sets that are due; a request of the operator
  -- those of its transfer set
  abbrev pub reports_by : View → ℕ → Seen → List ReportKind
  reports_by view ordinal (ticked now) =
      let table = held tables view in
      filter_map (timeout_report view ordinal now) table.devices
      ++ flat_map (own_reports view ordinal now (λ s. due_conditions view s now))
      (range_with_len 0 table.slots)
  reports_by view ordinal (asked s) =
      own_reports view ordinal (moment_in view) (λ s. asked_conditions (slot_state view s)) s
  reports_by view ordinal _ = []

  -- the reports made for an association, the oldest first
  abbrev pub reports_made : View → ℕ → List ReportKind
  reports_made [] ordinal = []
  reports_made (move ∷ view) ordinal =
      reports_made view ordinal ++ reports_by view ordinal move

  -- those made since its last take
  abbrev pub reports_pending : View → ℕ → List ReportKind
  reports_pending [] ordinal = []
  reports_pending (own other takes ∷ view) ordinal =
      if other == ordinal then [] else reports_pending view ordinal
  reports_pending (move ∷ view) ordinal =
      reports_pending view ordinal ++ reports_by view ordinal move
