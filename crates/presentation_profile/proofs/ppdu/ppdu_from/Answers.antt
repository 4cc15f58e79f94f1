use Rattle.std.proofs.Common.{◌+◌, length}
use Rattle.ber_values.specs.Readers.{taken_whole}
use Rattle.ber_values.proofs.Settled.{settled_by, settled_holds}
use Rattle.ber_values.specs.Externals.{IsSpanWithin}
use Rattle.presentation_profile.specs.Ppdus.{ppdu, body_of}
use Rattle.presentation_profile.proofs.PpdusRead.{ppdu_reads}
use Rattle.presentation_profile.proofs.ppdu.ppdu_from.Goals as goal

pub returns-clause-exact : goal.returns-clause-exact
returns-clause-exact c =
    rw c.settle.ensures (settled_by (ppdu c.args.expected) (taken_whole c.args.at c.args.octets.now) c.args.at
    c.args.octets.now c.whole_ppdu.result (ppdu_reads c.args.expected) c.whole_ppdu.ensures.exact)

pub returns-clause-body : goal.returns-clause-body
returns-clause-body c =
    rw c.settle.ensures (settled_holds
    (λ p. IsSpanWithin c.args.at (c.args.at + length c.args.octets.now) (body_of p))
    c.whole_ppdu.result c.whole_ppdu.ensures.body)
