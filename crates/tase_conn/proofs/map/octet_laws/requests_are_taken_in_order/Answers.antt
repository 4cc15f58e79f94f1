use Rattle.std.proofs.Common.{ap}
use Rattle.tase_views.specs.OwnTables.{own_tables}
use Rattle.tase_conn.specs.Map.Readings.{reading_of}
use Rattle.tase_conn.specs.Map.Out.{talk_of, turns_behind}
use Rattle.tase_conn.proofs.OfMap.Passing.{made_apart, quiet_event, left_asked, none_sent, all_left}
use Rattle.tase_conn.proofs.map.octet_laws.requests_are_taken_in_order.Goals as goal

pub returns-clause-yet : goal.returns-clause-yet
returns-clause-yet c rows past key text ended y = (
  all_left rows (talk_of (reading_of text) ended).turns key past y,
  none_sent rows (own_tables rows key.peer) (talk_of (reading_of text) ended) key past y,
)

pub returns-clause-request : goal.returns-clause-request
returns-clause-request c rows past key who invoke call later text ended i e f =
    left_asked rows (talk_of (reading_of text) ended).turns key who invoke call later past i e f

pub returns-clause-quiet : goal.returns-clause-quiet
returns-clause-quiet c rows past key who event text ended q e =
    ap (λ m. turns_behind (talk_of (reading_of text) ended).turns m)
    (quiet_event rows key who event past q e)

pub returns-clause-other : goal.returns-clause-other
returns-clause-other c rows past key who event text ended apart =
    ap (λ m. turns_behind (talk_of (reading_of text) ended).turns m)
    (made_apart rows key who event past apart)
