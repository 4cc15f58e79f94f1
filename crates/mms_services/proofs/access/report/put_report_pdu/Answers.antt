use Rattle.std.proofs.Common.{arith}
use Rattle.mms_data.proofs.DataLengths.{container-written, few_contents}
use Rattle.mms_services.specs.Access.Reports.{report_octets, report_pdu_octets}
use Rattle.mms_services.proofs.access.report.put_report_pdu.Goals as goal

pub put_report-requires-clause-bounded : goal.put_report-requires-clause-bounded
unfolding report_pdu_octets
put_report-requires-clause-bounded c =
    let report = report_octets c.args.report.now in
    omega (arith, c.requires.bounded, few_contents 160 report)

pub returns-clause-ok : goal.returns-clause-ok
unfolding report_pdu_octets
returns-clause-ok c =
    let report = report_octets c.args.report.now in
    container-written 160 c.report_len.result c.args.out.now.items c.write_head.new.out.items
    c.put_report.new.out.items report c.report_len.ensures
    (omega (arith, c.requires.bounded, few_contents 160 report)) c.in_ok-write_head.ensures.ok
    c.in_ok-put_report.ensures.ok
