use Rattle.tase_views.specs.OwnTables.{own_tables}
use Rattle.tase_conn.specs.Map.Readings.{reading_of}
use Rattle.tase_conn.specs.Map.Out.{talk_of}
use Rattle.tase_conn.proofs.OfMap.Closing.{spent_later, closed_spent, entries_kept, octets_kept}
use Rattle.tase_conn.proofs.map.octet_laws.closed_associations_stay.Goals as goal

pub returns-clause-entries : goal.returns-clause-entries
returns-clause-entries c past later key closed =
    entries_kept key later past (closed_spent key past closed)

pub returns-clause-seats : goal.returns-clause-seats
returns-clause-seats c past later key who closed =
    (spent_later key later past (closed_spent key past closed)).nowhere who

pub returns-clause-octets : goal.returns-clause-octets
returns-clause-octets c rows past later key text ended closed =
    octets_kept rows (own_tables rows key.peer) (talk_of (reading_of text) ended) key later past
    (closed_spent key past closed)
