use Rattle.std.proofs.Common.{◌∙◌}
use Rattle.ber_values.proofs.Capped.{capped-written}
use Rattle.mms_services.specs.Access.Reports.{report_octets, report_pdu_octets}
use Rattle.mms_services.proofs.access.report.report_pdu_len.Goals as goal

pub returns : goal.returns
unfolding report_pdu_octets
returns c =
    c.part_len.ensures
    ∙ capped-written 160 c.report_len.result (report_octets c.args.report.now) c.report_len.ensures
