use Rattle.ber_values.proofs.Pieces.{listed-capped}
use Rattle.mms_services.specs.Access.Specifications.{spec_octets}
use Rattle.mms_services.specs.Access.Reads.{outcomes_octets}
use Rattle.mms_services.specs.Access.Reports.{report_octets}
use Rattle.mms_services.proofs.access.report.report_len.Goals as goal

pub returns : goal.returns
unfolding report_octets
returns c =
    listed-capped 160 outcomes_octets (spec_octets c.args.report.now.spec)
    c.as_slice.ensures c.spec_len.ensures c.outcomes_len-results.ensures
    c.part_len.ensures c.add_len.ensures
