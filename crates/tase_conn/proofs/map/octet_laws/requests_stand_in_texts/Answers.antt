use Rattle.tase_conn.proofs.OfMap.Growing.{in_yet, in_asked, in_quiet, in_other, in_more}
use Rattle.tase_conn.proofs.map.octet_laws.requests_stand_in_texts.Goals as goal

pub returns-clause-yet : goal.returns-clause-yet
returns-clause-yet c rows past key text title turns yet e =
    in_yet rows past key text title turns yet e

pub returns-clause-request : goal.returns-clause-request
returns-clause-request c rows past key who invoke call later text i e s left =
    in_asked rows past key who invoke call later text i e s left

pub returns-clause-quiet : goal.returns-clause-quiet
returns-clause-quiet c rows past key who event text q e s =
    in_quiet rows past key who event text q e s

pub returns-clause-other : goal.returns-clause-other
returns-clause-other c rows past key who event text apart s =
    in_other rows past key who event text apart s

pub returns-clause-more : goal.returns-clause-more
returns-clause-more c rows past key text more s = in_more rows past key text more s
