use Rattle.tpkt_cotp.proofs.OneStream.{one_message}
use Rattle.tpkt_cotp.proofs.laws.no_message_begins_another.Goals as goal

pub returns : goal.returns
returns c = one_message
