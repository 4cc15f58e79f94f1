use Rattle.std.proofs.Common.{◌≤◌, ◌+◌, length}
use Rattle.ber_values.specs.Readers.{taken_from}
use Rattle.ber_values.specs.Stops.{settled}
use Rattle.ber_values.proofs.Settled.{settled_by, settled_gives, settled_holds, spelled_settled}
use Rattle.mms_data.specs.Lawful.{IsLawful}
use Rattle.mms_data.specs.DataOctets.{one_datum}
use Rattle.mms_data.proofs.DataRead.{one_datum_reads}
use Rattle.mms_data.proofs.DataLawful.{datum_lawful}
use Rattle.mms_data.proofs.data.octets.read_from.Goals as goal

pub returns-clause-exact : goal.returns-clause-exact
returns-clause-exact c =
    rw c.settle.ensures (settled_by one_datum (taken_from c.args.at c.args.octets.now) c.args.at
    c.args.octets.now c.take_data.result one_datum_reads c.take_data.ensures.exact)

pub returns-clause-lawful : goal.returns-clause-lawful
returns-clause-lawful c =
    let at = c.args.at in
    let octets = c.args.octets.now in
    let r = c.take_data.result in
    rw c.settle.ensures (spelled_settled (taken_from at octets) (λ t. IsLawful t.value)
    (one_datum.begins at octets) (one_datum.fault at octets) (one_datum.reading at octets) (settled r)
    (datum_lawful at octets) (one_datum_reads at octets)
    (settled_gives (taken_from at octets) r (one_datum.reading at octets) c.take_data.ensures.exact))

pub returns-clause-within : goal.returns-clause-within
returns-clause-within c =
    rw c.settle.ensures (settled_holds
    (λ x. (c.args.at + 2 ≤ x.1) × (x.1 ≤ c.args.at + length c.args.octets.now))
    c.take_data.result c.take_data.ensures.within)
