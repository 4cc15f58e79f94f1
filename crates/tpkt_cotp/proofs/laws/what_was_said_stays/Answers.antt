use Rattle.tpkt_cotp.proofs.Answering.{stops_more}
use Rattle.tpkt_cotp.proofs.Always.{said_stays, stopped_stays}
use Rattle.tpkt_cotp.proofs.laws.what_was_said_stays.Goals as goal

pub returns-clause-said : goal.returns-clause-said
returns-clause-said c = said_stays

pub returns-clause-stopped : goal.returns-clause-stopped
returns-clause-stopped c = stopped_stays

pub returns-clause-broken : goal.returns-clause-broken
returns-clause-broken c = stops_more
