use Rattle.tpkt_cotp.proofs.Streaming.{stream_found, stream_only, says_left, left_says}
use Rattle.tpkt_cotp.proofs.Streaming.{stops_stopped, stopped_stops}
use Rattle.tpkt_cotp.proofs.laws.one_stream.Goals as goal

pub returns-clause-found : goal.returns-clause-found
returns-clause-found c = stream_found

pub returns-clause-only : goal.returns-clause-only
returns-clause-only c = stream_only

pub returns-clause-says : goal.returns-clause-says
returns-clause-says c = says_left

pub returns-clause-left : goal.returns-clause-left
returns-clause-left c = left_says

pub returns-clause-stops : goal.returns-clause-stops
returns-clause-stops c = stops_stopped

pub returns-clause-stopped : goal.returns-clause-stopped
returns-clause-stopped c = stopped_stops
