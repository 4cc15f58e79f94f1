use Rattle.std.proofs.Common.{ap}
use Rattle.mms_data.specs.Datum.{Datum}
use Rattle.mms_data.specs.declared.outcome.Outcome.TheVariants.{Good}
use Rattle.node_core.proofs.replies.reports.special_told.Goals as goal

pub returns-in_ok-slot_name-in-SetName-clause-value :
    goal.returns-in_ok-slot_name-in-SetName-clause-value
returns-in_ok-slot_name-in-SetName-clause-value c = λ table view domain.
    rw c.in-SetName.is (ap (λ (d : Datum). Good d)
    (c.in_ok-slot_name-in-SetName.ensures.value table domain))
