use Rattle.std.proofs.Common.{◌≡◌, sym, ap, ◌∙◌, rules}
use Rattle.std.specs.Str.{bytes_eq}
use Rattle.plain_text.specs.Words.{words}
use Rattle.texts.specs.Reports.ReportTexts.{report_text}
use Rattle.texts.proofs.OfReports.ReportParts.{words-report, not_text_of}
use Rattle.texts.proofs.OfReports.SoFar.{not_read, some_same}
use Rattle.texts.proofs.reports.reading.read_report.Goals as goal

pub returns-in_default-clause-only : goal.returns-in_default-clause-only
returns-in_default-clause-only c report s =
    absurd (not_read c.in_default.is (c.in_ok-report.ensures.only report s.lawful s.textual
    (ap words s.spelled ∙ words-report report s.textual)))

pub returns-then-branch-clause-only : goal.returns-then-branch-clause-only
returns-then-branch-clause-only c report s =
    sym c.in-Some.is ∙ c.in_ok-report.ensures.only report s.lawful s.textual
    (ap words s.spelled ∙ words-report report s.textual)

pub returns-else-branch-clause-only : goal.returns-else-branch-clause-only
returns-else-branch-clause-only c report s =
    let text = c.args.text.now in
    let found = c.in_ok-report.ensures.only report s.lawful s.textual
    (ap words s.spelled ∙ words-report report s.textual) in
    let told : c.in_ok-is_text_of.field-0 ≡ bytes_eq (report_text c.in-Some.report) text =
    search rules in
    absurd (not_text_of text c.in-Some.report report c.in_ok-is_text_of.field-0 told
    c.if-branch.false (some_same (sym c.in-Some.is ∙ found)) s.spelled)
