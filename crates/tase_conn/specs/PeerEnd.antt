-- How the peer of a link ends a connection, by what the link gave alone.
use Rattle.std.specs.Prelude.{List, filter, slice_get, Option, Some, None, option_map}
use Rattle.std.specs.Prelude.{option_and_then}
use Rattle.bilateral.specs.Rows.{CentreRows}
use Rattle.stack_assoc.specs.declared.messages.fault.StackFault.{StackFault}
use Rattle.tase_conn.specs.Map.Inputs.{Item, text_given}
use Rattle.tase_conn.specs.Map.Readings.{reading_of}
use Rattle.tase_conn.specs.Map.Turns.{Turn, offers, offers_badly, asks, concludes, releases, aborts}
use Rattle.tase_conn.specs.Map.Turns.{breaks, ends, pauses, turns_of}
use Rattle.tase_conn.specs.Map.Asks.{is_last}
use Rattle.tase_conn.specs.declared.stage.ConnEnd.{ConnEnd}
use Rattle.tase_conn.specs.declared.stage.ConnEnd.TheVariants as conn_ends

-- the first turn behind which nothing follows
abbrev pub last_turn : CentreRows → List Turn → Option Turn
last_turn rows turns = slice_get (filter (is_last rows) turns) 0

-- how it ends a connection; `broken` is the rule that is broken
abbrev pub end_at : Option StackFault → Turn → Option ConnEnd
end_at broken (offers title) = Some conn_ends.Declined
end_at broken offers_badly = Some conn_ends.Declined
end_at broken releases = Some conn_ends.Finished
end_at broken aborts = Some conn_ends.PeerEnd
end_at broken ends = Some conn_ends.PeerEnd
end_at broken breaks = option_map conn_ends.Refused broken
end_at broken (asks invoke call) = None
end_at broken concludes = None
end_at broken pauses = None

-- how the peer ends a connection, whose link gave these items, if it does
abbrev pub peer_end : CentreRows → List Item → Option ConnEnd
peer_end rows items =
    option_and_then (end_at (reading_of (text_given items)).broken)
    (last_turn rows (turns_of items))
