use Rattle.std.proofs.Common.{◌≤◌, ◌+◌, length}
use Rattle.ber_values.specs.Readers.{taken_from}
use Rattle.ber_values.specs.Stops.{settled}
use Rattle.ber_values.proofs.Settled.{settled_by, settled_gives, settled_holds, spelled_settled}
use Rattle.mms_data.specs.OutcomeOctets.{one_outcome, IsLawfulOutcome}
use Rattle.mms_data.proofs.OutcomeRead.{one_outcome_reads, outcome_lawful}
use Rattle.mms_data.proofs.outcome.octets.outcome_from.Goals as goal

pub returns-clause-exact : goal.returns-clause-exact
returns-clause-exact c =
    rw c.settle.ensures (settled_by one_outcome (taken_from c.args.at c.args.octets.now) c.args.at
    c.args.octets.now c.take_outcome.result one_outcome_reads c.take_outcome.ensures.exact)

pub returns-clause-lawful : goal.returns-clause-lawful
returns-clause-lawful c =
    let at = c.args.at in
    let octets = c.args.octets.now in
    let r = c.take_outcome.result in
    rw c.settle.ensures (spelled_settled (taken_from at octets) (λ t. IsLawfulOutcome t.value)
    (one_outcome.begins at octets) (one_outcome.fault at octets) (one_outcome.reading at octets) (settled r)
    (outcome_lawful at octets) (one_outcome_reads at octets)
    (settled_gives (taken_from at octets) r (one_outcome.reading at octets) c.take_outcome.ensures.exact))

pub returns-clause-within : goal.returns-clause-within
returns-clause-within c =
    rw c.settle.ensures (settled_holds
    (λ x. (c.args.at + 2 ≤ x.1) × (x.1 ≤ c.args.at + length c.args.octets.now))
    c.take_outcome.result c.take_outcome.ensures.within)
