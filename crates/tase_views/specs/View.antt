-- The moves of a history, and what a peer sees of them.
use Rattle.std.specs.Prelude.{ℕ, ◌+◌, ◌*◌, ◌==◌, if◌then◌else◌, Bool, List, [], ◌∷◌, ◌++◌}
use Rattle.std.specs.Prelude.{filter_map, Option, Some, None, option_map, option_and_then, is_some}
use Rattle.std.specs.List.{list_any, cons_option}
use Rattle.tase_points.specs.Sample.{Sample}
use Rattle.bilateral.specs.Rows.{CentreRows, table_of, point_of, device_of}
use Rattle.sbo_device.specs.declared.key.Key.{Key}
use Rattle.sbo_device.specs.Moves.{Tag, DeviceAct, tagging, DeviceMove}
use Rattle.tase_views.specs.Moves.{Act, opens, closes, Move, acts, updates, tags, ticks, asks}
use Rattle.tase_views.specs.Moves.{chooses, takes_orders, stops, sort_of, moves_of}
use Rattle.tase_views.specs.History.{Past, key_at}
use Rattle.tase_views.specs.OwnTables.{OwnDevice, OwnTable, OwnTables, Owns, own_tables, table_in}
use Rattle.tase_views.specs.OwnTables.{is_point_of, device_named, is_selectable}
use Rattle.tase_views.specs.Force.{TableMove, opened, closed, chosen, force_of, force_in}
use Rattle.tase_views.specs.Devices.{Deed, deed_of, DeviceStep, acted, ended, marked, passed}
use Rattle.tase_views.specs.Devices.{step_of_deed, device_moves}

-- the moves of a history, the newest first
abbrev pub moves_in : Past → List Move
moves_in [] = []
moves_in (entry ∷ past) =
    moves_of (sort_of entry.event) (key_at entry.event past entry.who) ++ moves_in past

-- A move as a peer sees it: an act of its own association with this ordinal; by an association of
-- another peer, by its key and ordinal, an act on a device, by its name, and its close; a new value
-- of a point and a tag of a device, by their names; the operator asks for a report of a transfer
-- set of its own, or chooses another of its tables; a tick; the stop.
pub data Seen : Type 0 where
  own : ℕ → Act → Seen
  other_acted : List ℕ → ℕ → List ℕ → DeviceAct → Seen
  other_closed : List ℕ → ℕ → Seen
  updated : List ℕ → Sample → Seen
  tagged : List ℕ → Tag → Seen
  asked : ℕ → Seen
  chose : ℕ → Seen
  ticked : ℕ → Seen
  stopped : Seen

-- what a peer sees of a history, the newest first
abbrev pub View : Type 0
View = List Seen

-- which acts of others a peer is shown: selects and operates of devices of its tables that aren't
-- direct, taggings of all devices of its tables
abbrev pub shows_act : OwnTables → List ℕ → DeviceAct → Bool
shows_act tables name (tagging tag) = is_some (device_named tables name)
shows_act tables name _ = is_selectable tables name

abbrev pub deed_seen : OwnTables → List ℕ → ℕ → Deed → Option Seen
deed_seen tables key ordinal deed =
    if shows_act tables deed.device.row.name deed.act
    then Some (other_acted key ordinal deed.device.row.name deed.act) else None

-- what a peer sees of an act of an association of another with this key and this table in force; a
-- close where that table has a device of the peer's own tables that isn't direct
abbrev pub other_seen : OwnTables → List ℕ → OwnTable → ℕ → Act → Option Seen
other_seen tables key table ordinal closes =
    if list_any (λ (d : OwnDevice). is_selectable tables d.row.name) table.devices
    then Some (other_closed key ordinal) else None
other_seen tables key table ordinal act =
    option_and_then (deed_seen tables key ordinal) (deed_of table act)

module _ (rows : CentreRows) (owns : Owns) where
  -- the table of a peer that is in force behind these moves
  abbrev pub held_in : List Move → ℕ → OwnTable
  held_in before peer = table_in (owns peer) (force_in before peer)

  -- what a peer sees of a move behind these moves
  abbrev pub seen_by : ℕ → List Move → Move → Option Seen
  seen_by peer before (acts key act) =
      if key.peer == peer then Some (own key.ordinal act)
      else other_seen (owns peer) (table_of rows key.peer).key (held_in before key.peer)
      key.ordinal act
  seen_by peer before (updates point value) =
      if is_point_of rows peer point then Some (updated (point_of rows point).name value) else None
  seen_by peer before (tags device tag) =
      if is_some (device_named (owns peer) (device_of rows device).name)
      then Some (tagged (device_of rows device).name tag) else None
  seen_by peer before (ticks now) = Some (ticked now)
  seen_by peer before (asks asker slot) = if asker == peer then Some (asked slot) else None
  seen_by peer before (chooses chooser variant) =
      if chooser == peer then Some (chose variant) else None
  seen_by peer before takes_orders = None
  seen_by peer before stops = Some stopped

  -- what a peer sees of moves, the newest first
  abbrev pub view_by : ℕ → List Move → View
  view_by peer [] = []
  view_by peer (move ∷ before) = cons_option (seen_by peer before move) (view_by peer before)

  -- what a move behind these moves is to devices
  abbrev pub step_in : List Move → Move → Option DeviceStep
  step_in before (acts key closes) = Some (ended key)
  step_in before (acts key act) =
      option_map (step_of_deed key) (deed_of (held_in before key.peer) act)
  step_in before (tags device tag) = Some (marked (device_of rows device).name tag)
  step_in before (ticks now) = Some (passed now)
  step_in before _ = None

  abbrev pub steps_in : List Move → List DeviceStep
  steps_in [] = []
  steps_in (move ∷ before) = cons_option (step_in before move) (steps_in before)

-- what a peer sees of a history
abbrev pub view_of : CentreRows → ℕ → Past → View
view_of rows peer past = view_by rows (own_tables rows) peer (moves_in past)

-- what a peer sees of moves, the newest first, behind others
abbrev pub seen_in : CentreRows → Owns → ℕ → List Move → List Move → View
seen_in rows owns peer before [] = []
seen_in rows owns peer before (move ∷ moves) =
    cons_option (seen_by rows owns peer (moves ++ before) move)
    (seen_in rows owns peer before moves)

-- what a seen move bears on the peer's table in force
abbrev pub table_seen : Seen → Option TableMove
table_seen (own ordinal opens) = Some opened
table_seen (own ordinal closes) = Some closed
table_seen (chose variant) = Some (chosen variant)
table_seen _ = None

-- the number of the table in force, and the table
abbrev pub force : View → ℕ
force view = force_of (filter_map table_seen view)

abbrev pub held : OwnTables → View → OwnTable
held tables view = table_in tables (force view)

-- whether the same table is in force behind one seen move more
abbrev pub keeps_force : Seen → View → Bool
keeps_force move view = force (move ∷ view) == force view

-- a peer's key as a number, so that associations of different peers differ by it; no key has 0
abbrev pub key_number : List ℕ → ℕ
key_number [] = 0
key_number (octet ∷ octets) = 1 + octet + 256 * key_number octets

-- an association of the peer itself in its view, and one of another
abbrev pub own_key : ℕ → Key
own_key ordinal = record { peer = 0; ordinal = ordinal }

abbrev pub other_key : List ℕ → ℕ → Key
other_key key ordinal = record { peer = key_number key; ordinal = ordinal }

-- the number by which a peer's view tells the associations of another one, or its own
abbrev pub peer_number : CentreRows → ℕ → ℕ → ℕ
peer_number rows peer other = if other == peer then 0 else key_number (table_of rows other).key

module _ (tables : OwnTables) where
  -- what a seen move behind this view is to devices
  abbrev pub step_seen : View → Seen → Option DeviceStep
  step_seen view (own ordinal closes) = Some (ended (own_key ordinal))
  step_seen view (own ordinal act) =
      option_map (step_of_deed (own_key ordinal)) (deed_of (held tables view) act)
  step_seen view (other_acted key ordinal device act) =
      Some (acted (other_key key ordinal) device act)
  step_seen view (other_closed key ordinal) = Some (ended (other_key key ordinal))
  step_seen view (tagged device tag) = Some (marked device tag)
  step_seen view (ticked now) = Some (passed now)
  step_seen view _ = None

  abbrev pub steps_seen : View → List DeviceStep
  steps_seen [] = []
  steps_seen (move ∷ view) = cons_option (step_seen view move) (steps_seen view)

  -- the moves of the device with this name in a view
  abbrev pub moves_seen : View → List ℕ → List DeviceMove
  moves_seen view name = device_moves name (steps_seen view)

-- the moment in a view: that of the last tick, at first 0
abbrev pub moment_in : View → ℕ
moment_in [] = 0
moment_in (ticked now ∷ view) = now
moment_in (_ ∷ view) = moment_in view
