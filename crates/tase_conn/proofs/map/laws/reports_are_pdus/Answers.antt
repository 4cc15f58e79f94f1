use Rattle.tase_conn.proofs.OfMap.ReportedLaws.{report_again, pdu_reported}
use Rattle.tase_conn.proofs.map.laws.reports_are_pdus.Goals as goal

pub returns-clause-report : goal.returns-clause-report
returns-clause-report c report = report_again report

pub returns-clause-pdu : goal.returns-clause-pdu
returns-clause-pdu c pdu report e = pdu_reported pdu report e
