-- Transfer sets in a peer's view, and the data sets beside them (IEC 60870-6-503, DS transfer set
-- objects).
use Rattle.std.specs.Prelude.{ℕ, ◌+◌, ◌==◌, nat_eq, not, ◌&&◌, ◌||◌, if◌then◌else◌, Bool, false}
use Rattle.std.specs.Prelude.{true, List, [], ◌∷◌, find, Option, Some, None, is_some, is_none}
use Rattle.std.specs.Prelude.{bytes_eq, Result, Ok, Err}
use Rattle.std.specs.List.{range_with_len, list_any}
use Rattle.std.specs.Option.{option_map_or, option_eq, unwrap_or}
use Rattle.tase_points.specs.Sample.{Sample}
use Rattle.tase_points.specs.Values.{is_change}
use Rattle.point_db.specs.Updates.{last_of}
use Rattle.mms_data.specs.Datum.{Datum}
use Rattle.mms_data.specs.ObjectName.{ObjectName}
use Rattle.transfer_sets.specs.declared.wish.Wish.{Wish}
use Rattle.transfer_sets.specs.declared.wish.WishFault.{WishFault}
use Rattle.transfer_sets.specs.declared.wish.WishFault.TheVariants.{Form, Range}
use Rattle.transfer_sets.specs.declared.wish.TheConstants.{INTEGRITY, OPERATOR}
use Rattle.transfer_sets.specs.Wishes.{has, may_enable}
use Rattle.transfer_sets.specs.Components.{wish_in, boolean_part}
use Rattle.transfer_sets.specs.SlotState.{SlotState, with_status}
use Rattle.transfer_sets.specs.SlotMoves.{SlotMove, handed_out, wishes, changes}
use Rattle.transfer_sets.specs.SlotMoves.{reports, owner_in, last_wish, Places, slot_in}
use Rattle.transfer_sets.specs.Due.{conditions_due}
use Rattle.tase_views.specs.OwnTables.{OwnPoint, OwnTable, OwnTables}
use Rattle.tase_views.specs.Objects.{Object, next_transfer_set, indication_point, transfer_set}
use Rattle.tase_views.specs.Objects.{transfer_set_status, object_named}
use Rattle.tase_views.specs.Moves.{reads, writes, closes}
use Rattle.tase_views.specs.View.{own, updated, asked, ticked, View, held, keeps_force, moment_in}
use Rattle.tase_views.specs.Values.{values_in, change_count_of}
use Rattle.tase_views.specs.Sets.{Sets, set_behind, members_among}

-- reasons of an access (ISO 9506-2, DataAccessError: type-inconsistent, object-value-invalid)
abbrev pub type_inconsistent : ℕ
type_inconsistent = 7

abbrev pub value_invalid : ℕ
value_invalid = 11

-- what befell each transfer set since it was handed out, by its number
abbrev pub Slots : Type 0
Slots = ℕ → List SlotMove

-- whether an association owns a transfer set
abbrev pub owns : ℕ → List SlotMove → Bool
owns ordinal moves = option_eq nat_eq (owner_in moves) (Some ordinal)

-- the transfer set that an object is, or is the status of
abbrev pub slot_of : Option Object → Option ℕ
slot_of (Some (transfer_set s)) = Some s
slot_of (Some (transfer_set_status s)) = Some s
slot_of _ = None

abbrev pub is_next_slot : Option Object → Bool
is_next_slot (Some next_transfer_set) = true
is_next_slot _ = false

-- the wish that a write to a transfer set or its status asks for: one of its own, or the one that
-- stands with another status; or why the value is none
abbrev pub wish_asked : Wish → Option Object → Datum → Result Wish WishFault
wish_asked wish (Some (transfer_set_status s)) value =
    option_map_or (λ b. Ok (with_status b wish)) (boolean_part value) (Err Form)
wish_asked wish _ value = wish_in value

-- whether conditions are none but interval and change
abbrev pub only_changes : ℕ → Bool
only_changes conditions = not (has conditions INTEGRITY) && not (has conditions OPERATOR)

-- whether conditions make a report: not where the wish has only changes told, and no member changed
abbrev pub makes_report : SlotState → ℕ → Bool
makes_report s conditions =
    not (conditions == 0) && not (s.wish.rbe && only_changes conditions && is_none s.first)

-- the condition by which a request of the operator makes a report, if the wish has it
abbrev pub asked_conditions : SlotState → ℕ
asked_conditions s = if s.wish.status && has s.wish.conditions OPERATOR then OPERATOR else 0

-- one move more of a transfer set: a wish that was taken, reports that conditions make
abbrev pub with_wish : ℕ → Result Wish ℕ → List SlotMove → List SlotMove
with_wish now (Ok wish) moves = wishes wish now ∷ moves
with_wish now (Err reason) moves = moves

abbrev pub with_report :
    (List SlotMove → SlotState) → (SlotState → ℕ) → List SlotMove → List SlotMove
with_report state conditions moves =
    if makes_report (state moves) (conditions (state moves)) then reports ∷ moves else moves

-- whether an object is the point with this name
abbrev pub is_point : List ℕ → Option Object → Bool
is_point name (Some (indication_point p)) = bytes_eq p.name name
is_point name _ = false

-- the places, from a number on, of what has a property
abbrev pub places_from : ℕ → (ObjectName → Bool) → List ObjectName → List ℕ
places_from place is [] = []
places_from place is (member ∷ members) =
    if is member then place ∷ places_from (place + 1) is members
    else places_from (place + 1) is members

-- the change of a point of a table that an update is (this project's profile): the first is
-- compared with no value known
abbrev pub changes_point : OwnTable → View → List ℕ → Sample → Bool
changes_point table view name value =
    list_any
    (λ (p : OwnPoint). bytes_eq p.name name
    && is_change (last_of p.kind (values_in view name)) value) table.points

-- the count of changes of the point with this name that is shown
abbrev pub count_shown : OwnTable → View → List ℕ → ℕ
count_shown table view name =
    option_map_or (λ (p : OwnPoint). change_count_of p.kind (values_in view name))
    (find (λ (p : OwnPoint). bytes_eq p.name name) table.points) 0

-- the lowest transfer set of a table without an owner
abbrev pub lowest_free : OwnTable → Slots → Option ℕ
lowest_free table slots =
    find (λ s. is_none (owner_in (slots s))) (range_with_len 0 table.slots)

-- the members of the data set of the domain that a wish names, if it is there
abbrev pub wished_members : OwnTable → Sets → Wish → Option (List ObjectName)
wished_members table sets wish =
    if bytes_eq wish.set_domain table.domain then sets wish.set_name else None

-- the members of the data set that a transfer set wishes
abbrev pub members_told : OwnTable → Sets → List SlotMove → List ObjectName
members_told table sets moves = unwrap_or (wished_members table sets (last_wish moves).0) []

-- the places of those that name a point
abbrev pub places_told : OwnTable → List ObjectName → Places
places_told table members name =
    places_from 0 (λ member. is_point name (object_named table member)) members

-- a transfer set as its due conditions see it
abbrev pub state_by : OwnTable → Sets → List SlotMove → SlotState
state_by table sets moves = slot_in (places_told table (members_told table sets moves)) moves

-- a wish is taken, with status true where it may be enabled and its data set is there; or why not
abbrev pub taken : OwnTable → Sets → Result Wish WishFault → Result Wish ℕ
taken table sets (Err Form) = Err type_inconsistent
taken table sets (Err Range) = Err value_invalid
taken table sets (Ok wish) =
    if not wish.status || may_enable wish && is_some (wished_members table sets wish) then Ok wish
    else Err value_invalid

-- the wish of a transfer set behind a write to it or to its status, or why it isn't written
abbrev pub wish_written : OwnTable → Sets → List SlotMove → Option Object → Datum → Result Wish ℕ
wish_written table sets moves object value =
    taken table sets (wish_asked (last_wish moves).0 object value)

-- whether an enabled transfer set wishes a data set of the domain
abbrev pub is_wished : OwnTable → Slots → List ℕ → Bool
is_wished table slots name =
    list_any
    (λ s. let wish = (last_wish (slots s)).0 in
    wish.status && bytes_eq wish.set_domain table.domain && bytes_eq wish.set_name name)
    (range_with_len 0 table.slots)

module _ (tables : OwnTables) where
  abbrev mutual
    -- the members of the data set with a name: those of its last definition that had no error,
    -- unless it was deleted since, while no enabled transfer set wished it, or another table came
    -- into force since
    pub sets_in : View → Sets
    sets_in [] name = None
    sets_in (own ordinal act ∷ view) name =
        let table = held tables view in
        if keeps_force (own ordinal act) view
        then set_behind table (is_wished table (slot_moves view)) (sets_in view) view act name
        else None
    sets_in (move ∷ view) name = if keeps_force move view then sets_in view name else None

    -- what befell a transfer set since it was handed out, unless its owner was closed: its owner's
    -- writes that were taken, the changes of points, its reports
    pub slot_moves : View → Slots
    slot_moves [] s = []
    slot_moves (own ordinal closes ∷ view) s =
        if owns ordinal (slot_moves view s) then [] else slot_moves view s
    slot_moves (own ordinal (reads name) ∷ view) s =
        let table = held tables view in
        if is_next_slot (object_named table name)
        && option_eq nat_eq (lowest_free table (slot_moves view)) (Some s)
        then handed_out ordinal ∷ [] else slot_moves view s
    slot_moves (own ordinal (writes name value) ∷ view) s =
        let moves = slot_moves view s in
        let table = held tables view in
        if owns ordinal moves && option_eq nat_eq (slot_of (object_named table name)) (Some s)
        then with_wish (moment_in view)
        (wish_written table (sets_in view) moves (object_named table name) value) moves
        else moves
    slot_moves (updated name value ∷ view) s =
        let table = held tables view in
        if changes_point table view name value
        then changes
        (record {
          point = name;
          moment = moment_in view;
          value = value;
          count = count_shown table (updated name value ∷ view) name;
        }) ∷ slot_moves view s
        else slot_moves view s
    slot_moves (asked other ∷ view) s =
        with_report (state_by (held tables view) (sets_in view))
        (λ state. if other == s then asked_conditions state else 0) (slot_moves view s)
    slot_moves (ticked now ∷ view) s =
        with_report (state_by (held tables view) (sets_in view))
        (λ state. conditions_due state (moment_in view) now) (slot_moves view s)
    slot_moves (_ ∷ view) s = slot_moves view s

  -- the members of the data set that a name of the peer is that of
  abbrev pub members_of : View → ObjectName → Option (List ObjectName)
  members_of view set = members_among (held tables view) (sets_in view) set
