use Rattle.std.proofs.Common.{◌∙◌, sym, ap}
use Rattle.mms_data.specs.OutcomeOctets.{outcome_len}
use Rattle.mms_data.proofs.OutcomeRead.{error-len}
use Rattle.mms_data.proofs.outcome.octets.outcome_len.Goals as goal

pub returns-in-Fail : goal.returns-in-Fail
returns-in-Fail c = error-len c.in-Fail.field-0 ∙ ap outcome_len (sym c.in-Fail.is)
