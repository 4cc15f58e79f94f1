-- The end for which a connection stops its node.
use Rattle.std.specs.Prelude.{Bool, true, false}
use Rattle.tase_conn.specs.declared.stage.ConnEnd.{ConnEnd}
use Rattle.tase_conn.specs.declared.stage.ConnEnd.TheVariants as conn_ends

-- the history had no room
abbrev pub is_full_end : ConnEnd → Bool
is_full_end (conn_ends.Full weight limit) = true
is_full_end end = false
