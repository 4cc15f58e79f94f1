-- Reports and PDUs are each other's.
use Rattle.std.proofs.Common.{◌≡◌, List, Option, Some, refl, sym, subst}
use Rattle.std.specs.Prelude.{IfSome}
use Rattle.mms_data.specs.declared.outcome.Outcome.{Outcome}
use Rattle.mms_services.specs.declared.access.spec.Spec.{Spec}
use Rattle.mms_services.specs.declared.access.spec.Spec.TheVariants as specs
use Rattle.mms_services.specs.Access.Reports as written
use Rattle.mms_services.specs.declared.pdu.MmsPdu.{MmsPdu}
use Rattle.mms_services.specs.declared.pdu.MmsPdu.TheVariants as pdus
use Rattle.mms_services.specs.Lawful.{IsLawfulPdu}
use Rattle.mms_services.specs.PduOctets.{IsWritablePdu}
use Rattle.tase_views.specs.declared.reply.ReportKind.{ReportKind}
use Rattle.tase_views.specs.declared.reply.ReportKind.TheVariants as reports
use Rattle.tase_views.specs.Replies.{IsReport}
use Rattle.tase_conn.specs.Map.Replied.{pdu_of_report, report_with, report_in}

-- ---- what types keep

report_writable : (report : ReportKind) → IsReport report → IsWritablePdu (pdu_of_report report)
report_writable (reports.Set set results) i = record { spec = tt; enough = tt; lawful = i }
report_writable (reports.Variables names results) i =
    record { spec = i.0; enough = i.1; lawful = i.2 }

-- the PDU of a report may be written
pub writable_report : (report : ReportKind) (pdu : MmsPdu) → IsReport report
    → pdu ≡ pdu_of_report report → IsWritablePdu pdu
writable_report report pdu i e = subst IsWritablePdu (sym e) (report_writable report i)

abbrev IsReportIfAny : Option ReportKind → Type 0
IsReportIfAny report = IfSome report IsReport

with_lawful : (results : List Outcome) (spec : Spec)
    → written.IsReport (record { spec = spec; results = results })
    → IsReport (report_with results spec)
with_lawful results (specs.Set name) l = l.lawful
with_lawful results (specs.List names) l = (l.spec, l.enough, l.lawful)

report_lawful : (pdu : MmsPdu) → IsLawfulPdu pdu → IsReportIfAny (report_in pdu)
report_lawful (pdus.Report r) l = with_lawful r.results r.spec l
report_lawful (pdus.Request invoke request) l = tt
report_lawful (pdus.Response invoke response) l = tt
report_lawful (pdus.Error e) l = tt
report_lawful (pdus.Reject r) l = tt
report_lawful (pdus.Initiate offer) l = tt
report_lawful (pdus.Initiated offer) l = tt
report_lawful pdus.InitiateError l = tt
report_lawful pdus.Conclude l = tt
report_lawful pdus.Concluded l = tt

-- the report of a lawful PDU keeps what reports keep
pub lawful_report : (pdu : MmsPdu) (report : ReportKind) → IsLawfulPdu pdu
    → Some report ≡ report_in pdu → IsReport report
lawful_report pdu report l e = subst IsReportIfAny (sym e) (report_lawful pdu l)

-- ---- there and back

pub report_again : (report : ReportKind) → report_in (pdu_of_report report) ≡ Some report
report_again (reports.Set set results) = refl
report_again (reports.Variables names results) = refl

-- what a report that was found is told by
abbrev WrittenAs : MmsPdu → Option ReportKind → Type 0
WrittenAs pdu report = IfSome report (λ r. pdu_of_report r ≡ pdu)

with_written : (results : List Outcome) (spec : Spec)
    → pdu_of_report (report_with results spec)
    ≡ pdus.Report (record { spec = spec; results = results })
with_written results (specs.Set name) = refl
with_written results (specs.List names) = refl

report_written : (pdu : MmsPdu) → WrittenAs pdu (report_in pdu)
report_written (pdus.Report r) = with_written r.results r.spec
report_written (pdus.Request invoke request) = tt
report_written (pdus.Response invoke response) = tt
report_written (pdus.Error e) = tt
report_written (pdus.Reject r) = tt
report_written (pdus.Initiate offer) = tt
report_written (pdus.Initiated offer) = tt
report_written pdus.InitiateError = tt
report_written pdus.Conclude = tt
report_written pdus.Concluded = tt

pub pdu_reported : (pdu : MmsPdu) (report : ReportKind) → report_in pdu ≡ Some report
    → pdu_of_report report ≡ pdu
pdu_reported pdu report e = subst (WrittenAs pdu) e (report_written pdu)
