use Rattle.std.proofs.Common.{ap, length, subst, []}
use Rattle.bilateral.specs.Rows.{CentreRows}
use Rattle.conn_service.specs.TaseConn.Places.{ConnStandsAt}
use Rattle.tase_replay.proofs.links.Seats.begin.Goals as goal

pub returns : goal.returns
returns c = record {
  conn = c.in_ok-conn.conn;
  conns = c.in_ok-push.ensures.items;
  place_is = ap length c.as_slice-place.ensures.value;
  used = c.in_ok-note_use.ensures;
  stands = subst (λ (rows : CentreRows). ConnStandsAt rows [] [] [] c.in_ok-conn.conn)
      c.in_ok-clone.ensures.cases c.in_ok-conn.ensures.start;
  resting = c.in_ok-conn.ensures.resting;
  running = c.in_ok-conn.ensures.running;
  silent = c.in_ok-conn.ensures.silent;
}
