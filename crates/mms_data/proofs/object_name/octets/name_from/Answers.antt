use Rattle.std.proofs.Common.{◌≤◌, ◌+◌, length}
use Rattle.ber_values.specs.Readers.{taken_from}
use Rattle.ber_values.proofs.Settled.{settled_by, settled_holds}
use Rattle.mms_data.specs.ObjectName.{IsName}
use Rattle.mms_data.specs.NameOctets.{one_name}
use Rattle.mms_data.proofs.NameRead.{one_name_reads}
use Rattle.mms_data.proofs.object_name.octets.name_from.Goals as goal

pub returns-clause-exact : goal.returns-clause-exact
returns-clause-exact c =
    rw c.settle.ensures (settled_by one_name (taken_from c.args.at c.args.octets.now) c.args.at
    c.args.octets.now c.take_name.result one_name_reads c.take_name.ensures.exact)

pub returns-clause-named : goal.returns-clause-named
returns-clause-named c =
    rw c.settle.ensures (settled_holds (λ x. IsName x.0) c.take_name.result
    c.take_name.ensures.named)

pub returns-clause-within : goal.returns-clause-within
returns-clause-within c =
    rw c.settle.ensures (settled_holds
    (λ x. (c.args.at + 2 ≤ x.1) × (x.1 ≤ c.args.at + length c.args.octets.now))
    c.take_name.result c.take_name.ensures.within)
