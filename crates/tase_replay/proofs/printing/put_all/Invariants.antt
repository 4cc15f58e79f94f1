use Rattle.std.proofs.Common.{◌≡◌, ◌++◌, length}
use Rattle.plain_text.specs.Octets.{hex_text}
use Rattle.conn_service.specs.TaseConn.Talking.{pending_of}
use Rattle.conn_service.specs.TaseConn.Places.{KeepsPlace}
use Rattle.conn_service.specs.TaseConn.Taken.{SendsSome}
use Rattle.tase_replay.proofs.printing.put_all.Given as goal

abbrev pub invariant-loop-text : goal.invariant-loop-text
invariant-loop-text l = record {
  digits : l.text.items ++ hex_text (pending_of l.conn)
      ≡ l.fn.text.items ++ hex_text (pending_of l.fn.conn);
  stands : KeepsPlace l.fn.conn l.conn;
  same : SendsSome l.fn.conn l.conn;
}

abbrev pub decreases-loop-text : goal.decreases-loop-text
decreases-loop-text l = length (pending_of l.conn)
