use Rattle.tase_conn.proofs.OfMap.AskedLaws.{call_again, request_again}
use Rattle.tase_conn.proofs.map.laws.calls_are_requests.Goals as goal

pub returns-clause-call : goal.returns-clause-call
returns-clause-call c call o i = call_again call o i

pub returns-clause-request : goal.returns-clause-request
returns-clause-request c request o l = request_again request o l
