use Rattle.tpkt_cotp.proofs.Wires.{wire_cut, wire_only}
use Rattle.tpkt_cotp.proofs.laws.one_cut.Goals as goal

pub returns-clause-cut : goal.returns-clause-cut
returns-clause-cut c = wire_cut

pub returns-clause-only : goal.returns-clause-only
returns-clause-only c = wire_only
