-- The words of reports, and reports that a text spells.
use Rattle.std.specs.Prelude.{◌≡◌, ℕ, ◌<◌, ◌^◌, List, [], ◌∷◌, ◌++◌, map, codes}
use Rattle.std.specs.List.{All}
use Rattle.mms_data.specs.declared.outcome.Outcome.{Outcome}
use Rattle.mms_data.specs.declared.outcome.Outcome.TheVariants.{Good, Fail}
use Rattle.mms_data.specs.ObjectName.{ObjectName, IsName}
use Rattle.mms_data.specs.Text.Texts.{name_text, outcome_text}
use Rattle.mms_data.specs.Text.TextRead.{HasText}
use Rattle.tase_views.specs.declared.reply.ReportKind.{ReportKind}
use Rattle.tase_views.specs.declared.reply.ReportKind.TheVariants.{Set, Variables}
use Rattle.tase_views.specs.Replies.{IsReport}
use Rattle.texts.specs.declared.reports.reading.outcomes.Told.{Told}
use Rattle.texts.specs.Reports.ReportTexts.{report_text}

-- a name, and the outcome of its variable
abbrev pub told_word : Told → List ℕ
told_word told = name_text told.name ++ 61 ∷ outcome_text told.outcome

-- each name with the outcome at its place
abbrev pub told_of : List ObjectName → List Outcome → List Told
told_of [] outcomes = []
told_of (name ∷ names) [] = []
told_of (name ∷ names) (outcome ∷ outcomes) =
    record { name = name; outcome = outcome } ∷ told_of names outcomes

-- the words of the text of each report
abbrev pub report_words : ReportKind → List (List ℕ)
report_words (Set set results) = codes "set" ∷ name_text set ∷ map outcome_text results
report_words (Variables names results) = codes "vars" ∷ map told_word (told_of names results)

-- a datum that a text spells, or the number of a reason in an octet
abbrev pub HasOutcomeText : Outcome → Type 0
HasOutcomeText (Good d) = HasText d
HasOutcomeText (Fail reason) = reason < 2 ^ 8

-- a name of identifiers, and an outcome that a text spells
abbrev pub IsTold : Told → Type 0
IsTold told = IsName told.name × HasOutcomeText told.outcome

-- names are of identifiers, and outcomes are those that a text spells
abbrev pub HasReportText : ReportKind → Type 0
HasReportText (Set set results) = IsName set × All HasOutcomeText results
HasReportText (Variables names results) = All IsName names × All HasOutcomeText results

-- a text is that of a report
pub record SpellsReport (text : List ℕ) (report : ReportKind) : Type 0 where
  pub spelled : text ≡ report_text report
  pub lawful : IsReport report
  pub textual : HasReportText report
