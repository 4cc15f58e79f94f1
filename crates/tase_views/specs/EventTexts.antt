-- The texts of calls and events, which weigh a history.
use Rattle.std.specs.Prelude.{ℕ, if◌then◌else◌, Bool, List, [], ◌∷◌, ◌++◌, flat_map, Option, Some}
use Rattle.std.specs.Prelude.{None, codes, decimal}
use Rattle.std.specs.Fmt.{signed_decimal}
use Rattle.plain_text.specs.Octets.{hex_text}
use Rattle.plain_text.specs.Escaped.{escaped_text}
use Rattle.tase_points.specs.declared.body.Body.{Body}
use Rattle.tase_points.specs.declared.body.Body.TheVariants.{State, Discrete, Real}
use Rattle.tase_points.specs.Sample.{Sample}
use Rattle.mms_data.specs.Datum.{Datum}
use Rattle.mms_data.specs.ObjectName.{ObjectName}
use Rattle.sbo_device.specs.Moves.{Tag}
use Rattle.mms_data.specs.Text.Texts.{data_text, scope_text, name_text}
use Rattle.tase_views.specs.declared.call.CallKind.{CallKind}
use Rattle.tase_views.specs.declared.call.CallKind.TheVariants.{Identify, Read, ReadSet, Write}
use Rattle.tase_views.specs.declared.call.CallKind.TheVariants.{WriteSet, NameList, TypeOf, Define}
use Rattle.tase_views.specs.declared.call.CallKind.TheVariants.{MembersOf, Delete, DeleteScope, Odd}
use Rattle.tase_views.specs.declared.event.EventKind.{EventKind}
use Rattle.tase_views.specs.declared.event.EventKind.TheVariants.{Open, Request, Take, Close}
use Rattle.tase_views.specs.declared.event.EventKind.TheVariants.{Update, Table, Tick, Ask}
use Rattle.tase_views.specs.declared.event.EventKind.TheVariants.{TakeOrders, Stop}
use Rattle.tase_views.specs.declared.event.EventKind.TheVariants as events

-- a name after a space
abbrev pub next_name : ObjectName → List ℕ
next_name name = 32 ∷ name_text name

-- a value after a space
abbrev pub next_value : Datum → List ℕ
next_value value = 32 ∷ data_text value

-- each name with the value at its place, after a space
abbrev pub assigned_text : List ObjectName → List Datum → List ℕ
assigned_text [] values = []
assigned_text (name ∷ names) [] = []
assigned_text (name ∷ names) (value ∷ values) =
    next_name name ++ 61 ∷ data_text value ++ assigned_text names values

-- the name after which a list of names goes on, after a space
abbrev pub after_text : Option (List ℕ) → List ℕ
after_text None = []
after_text (Some after) = 32 ∷ escaped_text after

-- the first word of a read; with a plus the reply is to repeat the names
abbrev pub read_verb : Bool → List ℕ
read_verb echo = if echo then codes "read+" else codes "read"

-- the same of a read of a data set
abbrev pub read_set_verb : Bool → List ℕ
read_set_verb echo = if echo then codes "readset+" else codes "readset"

-- `identify`, `read NAME ..`, `read+ NAME ..`, `readset NAME`, `readset+ NAME`,
-- `write NAME=DATA ..`, `writeset NAME DATA ..`, `names CLASS SCOPE`, `names CLASS SCOPE AFTER`,
-- `type NAME`, `define NAME MEMBER ..`, `members NAME`, `delete NAME ..`, `deletescope SCOPE` or
-- `odd KIND CODE`
abbrev pub call_text : CallKind → List ℕ
call_text Identify = codes "identify"
call_text (Read names echo) = read_verb echo ++ flat_map next_name names
call_text (ReadSet set echo) = read_set_verb echo ++ next_name set
call_text (Write names values) = codes "write" ++ assigned_text names values
call_text (WriteSet set values) =
    codes "writeset" ++ next_name set ++ flat_map next_value values
call_text (NameList class scope after) =
    codes "names " ++ signed_decimal class ++ 32 ∷ scope_text scope ++ after_text after
call_text (TypeOf name) = codes "type" ++ next_name name
call_text (Define set members) =
    codes "define" ++ next_name set ++ flat_map next_name members
call_text (MembersOf set) = codes "members" ++ next_name set
call_text (Delete sets) = codes "delete" ++ flat_map next_name sets
call_text (DeleteScope scope) = codes "deletescope " ++ signed_decimal scope
call_text (Odd kind code) = codes "odd " ++ decimal kind ++ 32 ∷ decimal code

-- `s` and a state, `d` and a discrete value, `r` and the eight digits of a real one
abbrev pub body_text : Body → List ℕ
body_text (State s) = codes "s" ++ decimal s
body_text (Discrete d) = codes "d" ++ signed_decimal d
body_text (Real r) = codes "r" ++ hex_text r

-- `BODY FLAGS SECONDS MILLIS`
abbrev pub value_text : Sample → List ℕ
value_text value =
    body_text value.body ++ 32 ∷ hex_text (value.flags ∷ []) ++ 32 ∷ decimal value.seconds
    ++ 32 ∷ decimal value.millis

-- `TAG vREASON`
abbrev pub tag_text : Tag → List ℕ
tag_text tag = decimal tag.tag ++ codes " v" ++ escaped_text tag.reason

-- `open PEER`, `call CALL`, `take`, `close`, `update POINT VALUE`, `table PEER VARIANT`,
-- `tag DEVICE TAG vREASON`, `tick NOW`, `ask PEER SLOT`, `orders` or `stop`; peers, points, tables,
-- devices and transfer sets by their numbers from 0
abbrev pub event_text : EventKind → List ℕ
event_text (Open peer) = codes "open " ++ decimal peer
event_text (Request call) = codes "call " ++ call_text call
event_text Take = codes "take"
event_text Close = codes "close"
event_text (Update point value) = codes "update " ++ decimal point ++ 32 ∷ value_text value
event_text (Table peer variant) = codes "table " ++ decimal peer ++ 32 ∷ decimal variant
event_text (events.Tag device tag) = codes "tag " ++ decimal device ++ 32 ∷ tag_text tag
event_text (Tick now) = codes "tick " ++ decimal now
event_text (Ask peer slot) = codes "ask " ++ decimal peer ++ 32 ∷ decimal slot
event_text TakeOrders = codes "orders"
event_text Stop = codes "stop"
