use Rattle.mms_data.specs.OutcomeOctets.{outcome_octets}
use Rattle.mms_services.specs.Access.Reads.{outcomes_octets}
use Rattle.ber_values.proofs.Pieces.{item-few}
use Rattle.mms_services.proofs.access.read.put_outcomes.Goals as goal

pub write_outcome-requires-clause-bounded : goal.write_outcome-requires-clause-bounded
unfolding outcomes_octets
write_outcome-requires-clause-bounded c =
    item-few outcome_octets c.args.outcomes.now c.loop-outcome.outcome-index c.outcome-item.result
    c.outcome-item.result c.loop-outcome-test.true c.outcome-item.is c.requires.bounded
