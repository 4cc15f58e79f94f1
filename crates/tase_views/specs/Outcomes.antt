-- When a node may answer an event so: each refusal exactly where its cause holds, and the right
-- answer elsewhere.
use Rattle.std.specs.Prelude.{◌≡◌, ℕ, ◌+◌, Bool, true, false, not, ◌&&◌, ◌||◌, nat_lt, nat_le}
use Rattle.std.specs.Prelude.{if◌then◌else◌, List, [], ◌∷◌, length, Option, Some, None, option_map}
use Rattle.std.specs.Prelude.{is_some, Result, Ok, Err}
use Rattle.std.specs.List.{list_any}
use Rattle.tase_points.specs.Same.{same_kind}
use Rattle.tase_points.specs.Points.{kind_of}
use Rattle.tase_points.specs.Sample.{Sample}
use Rattle.bilateral.specs.declared.rows.Table.{Table}
use Rattle.bilateral.specs.Rows.{CentreRows, point_of, variants_of}
use Rattle.sbo_device.specs.declared.device.TheConstants.{MOMENT_LIMIT}
use Rattle.sbo_device.specs.declared.key.Key.{Key}
use Rattle.tase_views.specs.declared.event.EventKind.{EventKind}
use Rattle.tase_views.specs.declared.reply.Answer.{Answer}
use Rattle.tase_views.specs.declared.reply.Answer.TheVariants.{Opened, Reply, Reports, Closed}
use Rattle.tase_views.specs.declared.reply.Answer.TheVariants.{Orders, Noted}
use Rattle.tase_views.specs.declared.fault.StepFault.{StepFault}
use Rattle.tase_views.specs.declared.fault.StepFault.TheVariants.{Memory, Stopped, HistoryFull}
use Rattle.tase_views.specs.declared.fault.StepFault.TheVariants.{NoAssociation, Already}
use Rattle.tase_views.specs.declared.fault.StepFault.TheVariants.{UnknownName, ClockRange, Backward}
use Rattle.tase_views.specs.Setup.{Setup}
use Rattle.tase_views.specs.History.{Past, association_in, key_at, is_stop, stop_in}
use Rattle.tase_views.specs.History.{last_tick}
use Rattle.tase_views.specs.Weights.{weight, weight_of}
use Rattle.tase_views.specs.Moves.{EventSort, sort_of, opening, requesting, taking, closing}
use Rattle.tase_views.specs.Moves.{taking_orders, feeding, updates, tags, ticks, asks, chooses}
use Rattle.tase_views.specs.OwnTables.{OwnTables, own_tables}
use Rattle.tase_views.specs.View.{View, moves_in, view_of}
use Rattle.tase_views.specs.Answers.{reply_to}
use Rattle.tase_views.specs.Reports.{reports_pending}
use Rattle.tase_views.specs.Orders.{orders_left}

-- a point of the centre, and a value of its kind
abbrev pub is_known : CentreRows → ℕ → Sample → Bool
is_known rows point value =
    nat_lt point (length rows.points) && same_kind (kind_of value.body) (point_of rows point).kind

-- whether a peer of the centre has a table with this number
abbrev pub has_table : CentreRows → ℕ → ℕ → Bool
has_table rows peer variant =
    nat_lt peer (length rows.tables) && nat_lt variant (length (variants_of rows peer))

-- whether one of a peer's tables has a transfer set with this number
abbrev pub has_slot : CentreRows → ℕ → ℕ → Bool
has_slot rows peer slot =
    nat_lt peer (length rows.tables)
    && list_any (λ (table : Table). nat_lt slot table.slots) (variants_of rows peer)

abbrev pub is_closing : EventSort → Bool
is_closing closing = true
is_closing _ = false

abbrev pub is_close : EventKind → Bool
is_close event = is_closing (sort_of event)

-- whether an event is taken whatever the history weighs, and without memory: a close and a stop
abbrev pub is_ending : EventKind → Bool
is_ending event = is_close event || is_stop event

-- after a stop, which stands at this place, only closes are taken
abbrev pub stop_refusal : Past → EventKind → Option StepFault
stop_refusal past event =
    if is_close event then None else option_map (λ place. Stopped place) (stop_in past)

-- an open wants a seat without an association; a request, a take and a close want one with it
abbrev pub seat_refusal_by : Option Key → EventSort → Option StepFault
seat_refusal_by found (opening peer) = if is_some found then Some Already else None
seat_refusal_by found (requesting call) = if is_some found then None else Some NoAssociation
seat_refusal_by found taking = if is_some found then None else Some NoAssociation
seat_refusal_by found closing = if is_some found then None else Some NoAssociation
seat_refusal_by found _ = None

abbrev pub seat_refusal : Option Key → EventKind → Option StepFault
seat_refusal found event = seat_refusal_by found (sort_of event)

-- what an event names is there: of an open the peer, of an update the point, and its value is of
-- the point's kind, of a tagging the device, of a choice the peer and its table, of a request of
-- the operator the peer and a transfer set of one of its tables
abbrev pub is_named_there : CentreRows → EventSort → Bool
is_named_there rows (opening peer) = nat_lt peer (length rows.tables)
is_named_there rows (feeding (updates point value)) = is_known rows point value
is_named_there rows (feeding (tags device tag)) = nat_lt device (length rows.devices)
is_named_there rows (feeding (chooses peer variant)) = has_table rows peer variant
is_named_there rows (feeding (asks peer slot)) = has_slot rows peer slot
is_named_there rows _ = true

abbrev pub name_refusal : CentreRows → EventKind → Option StepFault
name_refusal rows event =
    if is_named_there rows (sort_of event) then None else Some UnknownName

-- the first refusal, if there is one
abbrev pub first_refusal : List (Option StepFault) → Option StepFault
first_refusal [] = None
first_refusal (Some fault ∷ refusals) = Some fault
first_refusal (None ∷ refusals) = first_refusal refusals

-- why an event is refused for what its seat has done and what it names, if it is
abbrev pub own_refusal : CentreRows → Past → ℕ → EventKind → Option StepFault
own_refusal rows past who event = first_refusal
    (seat_refusal (association_in past who) event ∷ name_refusal rows event ∷ [])

-- a tick is to a moment below the limit, and above that of the last one
abbrev pub clock_refusal_by : ℕ → EventSort → Option StepFault
clock_refusal_by last (feeding (ticks now)) =
    if nat_le MOMENT_LIMIT now then Some ClockRange
    else (if nat_le now last then Some (Backward last) else None)
clock_refusal_by last _ = None

abbrev pub clock_refusal : Past → EventKind → Option StepFault
clock_refusal past event = clock_refusal_by (last_tick past) (sort_of event)

-- with the event the history may not weigh more than the limit
abbrev pub weight_refusal : Setup → Past → EventKind → Option StepFault
weight_refusal setup past event =
    if not (is_ending event) && nat_lt setup.limit (weight_of past + weight event)
    then Some (HistoryFull (weight_of past + weight event) setup.limit) else None

-- why an event of a seat is refused after this past, if it is
abbrev pub refusal_of : Setup → Past → ℕ → EventKind → Option StepFault
refusal_of setup past who event =
    first_refusal (stop_refusal past event ∷ seat_refusal (association_in past who) event
    ∷ name_refusal setup.centre event ∷ clock_refusal past event
    ∷ weight_refusal setup past event ∷ [])

-- the answer to an event of a peer's association, from its own tables and its view alone
abbrev pub answer_to : OwnTables → View → Key → EventSort → Answer
answer_to tables view key (opening peer) = Opened key
answer_to tables view key (requesting call) = Reply (reply_to tables view key.ordinal call)
answer_to tables view key taking = Reports (reports_pending tables view key.ordinal)
answer_to tables view key closing = Closed
answer_to tables view key _ = Noted

-- The answer to an event of this sort of this association, if it is of one. Whoever takes orders,
-- the plant is given those that are left.
abbrev pub answer_at : CentreRows → Past → EventSort → Option Key → Answer
answer_at rows past taking_orders found =
    Orders (orders_left rows (own_tables rows) (moves_in past))
answer_at rows past sort None = Noted
answer_at rows past sort (Some key) =
    answer_to (own_tables rows key.peer) (view_of rows key.peer past) key sort

abbrev pub answer_by : CentreRows → Past → EventKind → Option Key → Answer
answer_by rows past event found = answer_at rows past (sort_of event) found

-- the answer to an event of a seat that isn't refused
abbrev pub answer_of : Setup → Past → ℕ → EventKind → Answer
answer_of setup past who event = answer_by setup.centre past event (key_at event past who)

abbrev pub IsAnswer : Setup → Past → ℕ → EventKind → Answer → Type 0
IsAnswer setup past who event answer = answer ≡ answer_of setup past who event

-- a refusal that isn't for want of memory is the event's own; a close and a stop take no memory
abbrev pub IsRefusal : EventKind → Option StepFault → StepFault → Type 0
IsRefusal event refusal Memory = is_ending event ≡ false
IsRefusal event refusal (Stopped place) = refusal ≡ Some (Stopped place)
IsRefusal event refusal (HistoryFull weight limit) = refusal ≡ Some (HistoryFull weight limit)
IsRefusal event refusal NoAssociation = refusal ≡ Some NoAssociation
IsRefusal event refusal Already = refusal ≡ Some Already
IsRefusal event refusal UnknownName = refusal ≡ Some UnknownName
IsRefusal event refusal ClockRange = refusal ≡ Some ClockRange
IsRefusal event refusal (Backward last) = refusal ≡ Some (Backward last)

-- the right outcome of an event of a seat after this past
abbrev pub IsRightOutcome : Setup → Past → ℕ → EventKind → Result Answer StepFault → Type 0
IsRightOutcome setup past who event (Ok answer) =
    (refusal_of setup past who event ≡ None) × IsAnswer setup past who event answer
IsRightOutcome setup past who event (Err fault) =
    IsRefusal event (refusal_of setup past who event) fault
