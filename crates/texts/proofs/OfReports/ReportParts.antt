-- The words of a report's text are its words.
use Rattle.std.proofs.Common.{◌≡◌, ℕ, ◌<◌, Bool, true, false, List, [], ◌∷◌, ◌++◌, length, map}
use Rattle.std.proofs.Common.{flat_map, Some, codes, refl, sym, ap, ◌∙◌, arith}
use Rattle.std.specs.List.{All}
use Rattle.std.specs.Str.{bytes_eq}
use Rattle.std.proofs.lemmas.List.{length-append}
use Rattle.std.proofs.lemmas.List.Elements.{All-head, All-tail}
use Rattle.std.proofs.lemmas.Slice.Eq.{bytes_eq-Decides}
use Rattle.plain_text.specs.Words.{words}
use Rattle.mms_data.specs.declared.outcome.Outcome.{Outcome}
use Rattle.mms_data.specs.declared.outcome.Outcome.TheVariants.{Good, Fail}
use Rattle.mms_data.specs.Datum.{Datum, boolean}
use Rattle.mms_data.specs.ObjectName.{ObjectName, IsName}
use Rattle.mms_data.specs.Text.NameIn.{name_in}
use Rattle.mms_data.specs.Text.Texts.{name_text, data_text, outcome_text}
use Rattle.mms_data.proofs.OfText.ReadName.{name_in-name_text}
use Rattle.tase_views.specs.declared.reply.ReportKind.{ReportKind}
use Rattle.tase_views.specs.declared.reply.ReportKind.TheVariants.{Set, Variables}
use Rattle.tase_views.specs.EventTexts.{next_name}
use Rattle.texts.specs.declared.reports.reading.outcomes.Told.{Told}
use Rattle.texts.specs.Reports.ReportTexts.{next_outcome, told_text, report_text}
use Rattle.texts.specs.Reports.ReportWords.{told_word, told_of, report_words, HasOutcomeText, IsTold}
use Rattle.texts.specs.Reports.ReportWords.{HasReportText}
use Rattle.texts.proofs.OfReports.SoFar.{all_told}
use Rattle.texts.proofs.OfReports.Unspaced.{space, both_none, name_none, outcome_none, IsBare}
use Rattle.texts.proofs.OfReports.Unspaced.{AreBare, after_spaces, words-parted}

-- ---- a report's text is its words, a space before each but the first

outcomes-after : (outcomes : List Outcome)
    → flat_map next_outcome outcomes ≡ after_spaces (map outcome_text outcomes)
outcomes-after [] = refl
outcomes-after (outcome ∷ outcomes) =
    ap (λ t. next_outcome outcome ++ t) (outcomes-after outcomes)

told-after : (names : List ObjectName) (outcomes : List Outcome)
    → told_text names outcomes ≡ after_spaces (map told_word (told_of names outcomes))
told-after [] outcomes = refl
told-after (name ∷ names) [] = refl
told-after (name ∷ names) (outcome ∷ outcomes) =
    ap (λ t. next_name name ++ 61 ∷ outcome_text outcome ++ t) (told-after names outcomes)

-- ---- the words have octets, and no space among them

name_some : (name : ObjectName) → IsName name → 0 < length (name_text name)
name_some name h = by (name_text name) (name_in-name_text name h)
  where
    by : (octets : List ℕ) → name_in octets ≡ Some name → 0 < length octets
    by [] e = absurd cc
    by (octet ∷ octets) e = omega arith

name_bare : (name : ObjectName) → IsName name → IsBare (name_text name)
name_bare name h = record { some = name_some name h; unspaced = name_none 32 space name h }

data_some : (d : Datum) → 0 < length (data_text d)
data_some (boolean true) = omega arith
data_some (boolean false) = omega arith
data_some _ = omega arith

outcome_some : (outcome : Outcome) → 0 < length (outcome_text outcome)
outcome_some (Good d) = data_some d
outcome_some (Fail reason) = omega arith

outcome_bare : (outcome : Outcome) → HasOutcomeText outcome → IsBare (outcome_text outcome)
outcome_bare outcome h =
    record { some = outcome_some outcome; unspaced = outcome_none outcome h }

outcomes_bare : (outcomes : List Outcome) → All HasOutcomeText outcomes
    → AreBare (map outcome_text outcomes)
outcomes_bare [] h = tt
outcomes_bare (outcome ∷ outcomes) h = (
  outcome_bare outcome (All-head HasOutcomeText outcome outcomes h),
  outcomes_bare outcomes (All-tail HasOutcomeText outcome outcomes h),
)

word_bare : (told : Told) → IsTold told → IsBare (told_word told)
word_bare told h = record {
  some = rw (length-append (name_text told.name) (61 ∷ outcome_text told.outcome))
      (omega (arith, name_some told.name h.0));
  unspaced = both_none 32 (name_text told.name) (61 ∷ outcome_text told.outcome)
      (name_none 32 space told.name h.0) (outcome_none told.outcome h.1);
}

told_bare : (told : List Told) → All IsTold told → AreBare (map told_word told)
told_bare [] h = tt
told_bare (one ∷ told) h = (
  word_bare one (All-head IsTold one told h),
  told_bare told (All-tail IsTold one told h),
)

-- ---- so they are the words of the text

pub words-report : (report : ReportKind) → HasReportText report
    → words (report_text report) ≡ report_words report
words-report (Set set results) h =
    ap (λ t. words (codes "set" ++ next_name set ++ t)) (outcomes-after results)
    ∙ words-parted (codes "set") (name_text set ∷ map outcome_text results)
    (record { some = omega arith; unspaced = refl })
    (name_bare set h.0, outcomes_bare results h.1)
words-report (Variables names results) h =
    ap (λ t. words (codes "vars" ++ t)) (told-after names results)
    ∙ words-parted (codes "vars") (map told_word (told_of names results))
    (record { some = omega arith; unspaced = refl })
    (told_bare (told_of names results) (all_told names results h.0 h.1))

-- the text of a report is that of the report that it is
pub not_text_of : (text : List ℕ) (read report : ReportKind) (is : Bool)
    → is ≡ bytes_eq (report_text read) text → is ≡ false → read ≡ report
    → text ≡ report_text report → ⊥
not_text_of text read report is told other same spelled =
    let yes : bytes_eq (report_text read) text ≡ true =
    (bytes_eq-Decides (report_text read) text).1 (ap report_text same ∙ sym spelled) in
    let wrong : true ≡ false = sym yes ∙ sym told ∙ other in absurd cc
