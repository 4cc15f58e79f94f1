use Rattle.tase_conn.proofs.OfMap.RepliedLaws.{reply_again, number_again, pdu_again}
use Rattle.tase_conn.proofs.map.laws.replies_are_pdus.Goals as goal

pub returns-clause-reply : goal.returns-clause-reply
returns-clause-reply c invoke reply = reply_again invoke reply

pub returns-clause-number : goal.returns-clause-number
returns-clause-number c invoke reply = number_again invoke reply

pub returns-clause-pdu : goal.returns-clause-pdu
returns-clause-pdu c pdu invoke reply r n = pdu_again pdu invoke reply r n
