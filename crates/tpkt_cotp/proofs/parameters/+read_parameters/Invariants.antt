use Rattle.std.proofs.Common.{length}
use Rattle.tpkt_cotp.proofs.parameters.+read_parameters.Given as goal

abbrev pub decreases-read_parameters : goal.decreases-read_parameters
decreases-read_parameters l = length l.octets.now
