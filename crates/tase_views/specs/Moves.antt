-- What may happen to a node, as moves: those of associations, of points and devices, of the clock,
-- of the operator.
use Rattle.std.specs.Prelude.{ℕ, List, [], ◌∷◌, map, reverse, Option, Some, None}
use Rattle.tase_points.specs.Sample.{Sample}
use Rattle.mms_data.specs.Datum.{Datum}
use Rattle.mms_data.specs.ObjectName.{ObjectName}
use Rattle.sbo_device.specs.declared.key.Key.{Key}
use Rattle.sbo_device.specs.Moves.{Tag}
use Rattle.tase_views.specs.declared.call.CallKind.{CallKind}
use Rattle.tase_views.specs.declared.call.CallKind.TheVariants.{Identify, Read, ReadSet, Write}
use Rattle.tase_views.specs.declared.call.CallKind.TheVariants.{WriteSet, NameList, TypeOf, Define}
use Rattle.tase_views.specs.declared.call.CallKind.TheVariants.{MembersOf, Delete, DeleteScope, Odd}
use Rattle.tase_views.specs.declared.event.EventKind.{EventKind}
use Rattle.tase_views.specs.declared.event.EventKind.TheVariants.{Open, Request, Take, Close}
use Rattle.tase_views.specs.declared.event.EventKind.TheVariants.{Update, Table, Tick, Ask}
use Rattle.tase_views.specs.declared.event.EventKind.TheVariants.{TakeOrders, Stop}
use Rattle.tase_views.specs.declared.event.EventKind.TheVariants as events

-- what an association does: it is opened, takes reports, is closed, reads or writes a variable,
-- defines or deletes a data set, or makes another call
pub data Act : Type 0 where
  opens : Act
  takes : Act
  closes : Act
  reads : ObjectName → Act
  writes : ObjectName → Datum → Act
  defines : ObjectName → List ObjectName → Act
  deletes : ObjectName → Act
  calls : CallKind → Act

-- A move of the node: an act of an association; a new value of a point and a tag of a device, by
-- their numbers; a tick of the clock to a moment, in milliseconds since 1970; the operator asks for
-- a report of a peer's transfer set, or chooses another table of a peer; the plant takes orders;
-- the stop.
pub data Move : Type 0 where
  acts : Key → Act → Move
  updates : ℕ → Sample → Move
  tags : ℕ → Tag → Move
  ticks : ℕ → Move
  asks : ℕ → ℕ → Move
  chooses : ℕ → ℕ → Move
  takes_orders : Move
  stops : Move

-- What an event is: a peer opens an association; an association asks something, takes its reports,
-- is closed; the plant takes its orders; or another move of the centre's own comes. All that goes
-- by cases on events goes by these.
pub data EventSort : Type 0 where
  opening : ℕ → EventSort
  requesting : CallKind → EventSort
  taking : EventSort
  closing : EventSort
  taking_orders : EventSort
  feeding : Move → EventSort

abbrev pub sort_of : EventKind → EventSort
sort_of (Open peer) = opening peer
sort_of (Request call) = requesting call
sort_of Take = taking
sort_of Close = closing
sort_of (Update point value) = feeding (updates point value)
sort_of (Table peer variant) = feeding (chooses peer variant)
sort_of (events.Tag device tag) = feeding (tags device tag)
sort_of (Tick now) = feeding (ticks now)
sort_of (Ask peer slot) = feeding (asks peer slot)
sort_of TakeOrders = taking_orders
sort_of Stop = feeding stops

-- the writes of names, each with the value at its place
abbrev pub writes_of : List ObjectName → List Datum → List Act
writes_of [] values = []
writes_of (name ∷ names) [] = []
writes_of (name ∷ names) (value ∷ values) = writes name value ∷ writes_of names values

-- the acts of a call, the newest first: one for each variable of a read or a write, one for each
-- name of a deletion, and one for every other call
abbrev pub acts_of_call : CallKind → List Act
acts_of_call Identify = calls Identify ∷ []
acts_of_call (Read names echo) = reverse (map reads names)
acts_of_call (ReadSet set echo) = calls (ReadSet set echo) ∷ []
acts_of_call (Write names values) = reverse (writes_of names values)
acts_of_call (WriteSet set values) = calls (WriteSet set values) ∷ []
acts_of_call (NameList class scope after) = calls (NameList class scope after) ∷ []
acts_of_call (TypeOf name) = calls (TypeOf name) ∷ []
acts_of_call (Define set members) = defines set members ∷ []
acts_of_call (MembersOf set) = calls (MembersOf set) ∷ []
acts_of_call (Delete sets) = reverse (map deletes sets)
acts_of_call (DeleteScope scope) = calls (DeleteScope scope) ∷ []
acts_of_call (Odd kind code) = calls (Odd kind code) ∷ []

-- acts of an association; a seat without one does nothing
abbrev pub moves_by : Option Key → List Act → List Move
moves_by None acts_of = []
moves_by (Some key) acts_of = map (acts key) acts_of

-- the moves of an event of this association, the newest first
abbrev pub moves_of : EventSort → Option Key → List Move
moves_of (opening peer) key = moves_by key (opens ∷ [])
moves_of (requesting call) key = moves_by key (acts_of_call call)
moves_of taking key = moves_by key (takes ∷ [])
moves_of closing key = moves_by key (closes ∷ [])
moves_of taking_orders key = takes_orders ∷ []
moves_of (feeding move) key = move ∷ []
