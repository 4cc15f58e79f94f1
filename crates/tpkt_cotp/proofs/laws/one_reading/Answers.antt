use Rattle.tpkt_cotp.proofs.OneStream.{says_once, stops_once, says_or_stops}
use Rattle.tpkt_cotp.proofs.Always.{always}
use Rattle.tpkt_cotp.proofs.laws.one_reading.Goals as goal

pub returns-clause-always : goal.returns-clause-always
returns-clause-always c = always

pub returns-clause-says : goal.returns-clause-says
returns-clause-says c = says_once

pub returns-clause-stops : goal.returns-clause-stops
returns-clause-stops c = stops_once

pub returns-clause-never_both : goal.returns-clause-never_both
returns-clause-never_both c = says_or_stops
