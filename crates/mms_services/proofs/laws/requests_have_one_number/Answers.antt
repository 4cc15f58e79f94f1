use Rattle.mms_services.proofs.NumberedRead.{one_number}
use Rattle.mms_services.proofs.laws.requests_have_one_number.Goals as goal

pub returns : goal.returns
returns c = one_number
