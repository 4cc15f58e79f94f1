use Rattle.std.specs.List.{slice_range}
use Rattle.ber_values.specs.Readers.{taken_whole}
use Rattle.ber_values.proofs.Settled.{settled_by}
use Rattle.acse_assoc.specs.Apdus.{apdu}
use Rattle.acse_assoc.proofs.ApdusRead.{apdu_reads}
use Rattle.acse_assoc.proofs.apdu.read_apdu.Goals as goal

pub returns-clause-exact : goal.returns-clause-exact
returns-clause-exact c =
    let octets = slice_range c.args.bytes.now c.args.at c.args.end in
    rw c.settle.ensures (settled_by (apdu c.args.expected) (taken_whole c.args.at octets) c.args.at
    octets c.apdu_from.result (apdu_reads c.args.expected) c.apdu_from.ensures.exact)
