use Rattle.stack_assoc.specs.Wire.Tsdus.{connect_tsdu, accept_tsdu, refusal_tsdu, finish_tsdu}
use Rattle.stack_assoc.specs.Wire.Tsdus.{release_tsdu, abort_tsdu, data_tsdu}
use Rattle.stack_assoc.proofs.OfWire.Fits.{said_of, connect-fits, accept-fits, refusal-fits, finish-fits}
use Rattle.stack_assoc.proofs.OfWire.Fits.{release-fits, abort-fits, data-fits}
use Rattle.stack_assoc.proofs.wire.laws.what_is_written_is_said.Goals as goal

pub returns-clause-connect : goal.returns-clause-connect
returns-clause-connect c title titled = said_of (connect_tsdu title) (connect-fits title titled)

pub returns-clause-accept : goal.returns-clause-accept
returns-clause-accept c setup answer is spoken has =
    said_of (accept_tsdu setup answer) (accept-fits setup answer is spoken has)

pub returns-clause-refusal : goal.returns-clause-refusal
returns-clause-refusal c acse = said_of (refusal_tsdu acse) (refusal-fits acse)

pub returns-clause-finish : goal.returns-clause-finish
returns-clause-finish c acse = said_of (finish_tsdu acse) (finish-fits acse)

pub returns-clause-release : goal.returns-clause-release
returns-clause-release c acse = said_of (release_tsdu acse) (release-fits acse)

pub returns-clause-abort : goal.returns-clause-abort
returns-clause-abort c acse = said_of (abort_tsdu acse) (abort-fits acse)

pub returns-clause-pdu : goal.returns-clause-pdu
returns-clause-pdu c mms pdu bounded = said_of (data_tsdu mms pdu) (data-fits mms pdu bounded)
