use Rattle.tpkt_cotp.proofs.WrittenTpdus.{request_spelled, confirm_spelled}
use Rattle.tpkt_cotp.proofs.laws.written_is_spelled.Goals as goal

pub returns-clause-request : goal.returns-clause-request
returns-clause-request c = request_spelled

pub returns-clause-confirm : goal.returns-clause-confirm
returns-clause-confirm c = confirm_spelled
