use Rattle.tase_conn.proofs.OfMap.AskedOn.{asked_on}
use Rattle.tase_conn.proofs.OfMap.Uncut.{asked_the_same}
use Rattle.tase_conn.proofs.map.octet_laws.asking_goes_on.Goals as goal

pub returns-clause-more : goal.returns-clause-more
returns-clause-more c rows items more = asked_on rows items more

pub returns-clause-cuts : goal.returns-clause-cuts
returns-clause-cuts c rows here there i j text end =
    asked_the_same rows here there i j text end
