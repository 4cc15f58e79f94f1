use Rattle.tase_conn.proofs.OfMap.InTurn.{asked_in_turn}
use Rattle.tase_conn.proofs.OfMap.Unrefused.{unrefused}
use Rattle.tase_conn.proofs.map.octet_laws.events_come_in_turn.Goals as goal

pub returns-clause-turn : goal.returns-clause-turn
returns-clause-turn c rows items i = asked_in_turn rows items i

pub returns-clause-unrefused : goal.returns-clause-unrefused
returns-clause-unrefused c rows past who event later t = unrefused rows past who event later t
