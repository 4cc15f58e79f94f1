use Rattle.tase_conn.proofs.OfMap.Sized.{concluded_few}
use Rattle.tase_verify.proofs.association.saying.Terms.say_conclude.Goals as goal

pub say_pdu-requires-clause-few : goal.say_pdu-requires-clause-few
say_pdu-requires-clause-few c = concluded_few
