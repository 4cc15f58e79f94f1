use Rattle.tase_conn.proofs.OfMap.Sized.{concluded_few}
use Rattle.tase_conn.proofs.conn.Conn.answer_conclude.Goals as goal

pub say-requires-clause-few : goal.say-requires-clause-few
say-requires-clause-few c = concluded_few
