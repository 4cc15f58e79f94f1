use Rattle.asking_end.proofs.ShortRequests.{short_request}
use Rattle.asking_end.proofs.asker.request_pdu.Goals as goal

pub returns-clause-sayable : goal.returns-clause-sayable
returns-clause-sayable c =
    short_request c.args.number c.args.call.now c.in_ok-request.request c.requires.number
    c.requires.askable.short c.in_ok-request.ensures.exact c.in_ok-request.ensures.writable
