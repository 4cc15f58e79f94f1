use Rattle.tase_views.specs.OwnTables.{own_tables}
use Rattle.tase_conn.specs.Map.Readings.{reading_of}
use Rattle.tase_conn.specs.Map.Out.{talk_of}
use Rattle.tase_conn.proofs.OfMap.Adding.{noted_adds}
use Rattle.tase_conn.proofs.OfMap.Adding.{other_adds, open_adds, take_adds, close_adds, asked_adds}
use Rattle.tase_conn.proofs.map.octet_laws.each_entry_adds_its_octets.Goals as goal

pub returns-clause-other : goal.returns-clause-other
returns-clause-other c rows past key who event text ended apart =
    other_adds rows (own_tables rows key.peer) (talk_of (reading_of text) ended) key who event past
    apart

pub returns-clause-open : goal.returns-clause-open
returns-clause-open c rows past key who peer text ended e =
    open_adds rows (own_tables rows key.peer) (talk_of (reading_of text) ended) key who peer past e

pub returns-clause-request : goal.returns-clause-request
returns-clause-request c rows past key who invoke call later text ended i e f =
    asked_adds rows (own_tables rows key.peer) (talk_of (reading_of text) ended) key who past invoke
    call later i e f

pub returns-clause-take : goal.returns-clause-take
returns-clause-take c rows past key who text ended e =
    take_adds rows (own_tables rows key.peer) (talk_of (reading_of text) ended) key who past e

pub returns-clause-close : goal.returns-clause-close
returns-clause-close c rows past key who text ended e =
    close_adds rows (own_tables rows key.peer) (talk_of (reading_of text) ended) key who past e

pub returns-clause-noted : goal.returns-clause-noted
returns-clause-noted c rows past key who event text ended i =
    noted_adds rows (own_tables rows key.peer)
    (talk_of (reading_of text) ended) key who event past i
