use Rattle.tpkt_cotp.specs.Written.{wire}
use Rattle.tpkt_cotp.proofs.Always.{written_said}
use Rattle.tpkt_cotp.proofs.Wires.{wire_cut}
use Rattle.tpkt_cotp.proofs.laws.written_is_said.Goals as goal

pub returns : goal.returns
returns c size at octets least some few =
    written_said size at octets (wire size octets) (wire_cut size octets least some) few
