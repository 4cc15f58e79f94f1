use Rattle.mms_services.proofs.ShortWritten.{reject_pdu-sized}
use Rattle.mms_services.proofs.reject.reject_pdu_len.Goals as goal

pub returns-clause-value : goal.returns-clause-value
returns-clause-value c = reject_pdu-sized c.args.reject.now c.some_invoke_len.result
    c.some_invoke_len.ensures.value
