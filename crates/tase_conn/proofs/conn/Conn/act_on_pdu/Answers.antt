use Rattle.std.proofs.Common.{refl}
use Rattle.tase_conn.proofs.Stepping.{passes_so, other_pdu}
use Rattle.tase_conn.proofs.conn.Conn.act_on_pdu.Goals as goal

pub returns-in_default : goal.returns-in_default
returns-in_default c = record {
  ok = λ rows items told turns s.
      passes_so rows items told turns c.args.pdu.now c.args.self.now c.requires.empty
      c.requires.idle (other_pdu c.args.pdu.now c.in_default.not-Request
      c.in_default.not-Conclude) s;
  more = refl;
  err = tt;
  stage = refl;
}
