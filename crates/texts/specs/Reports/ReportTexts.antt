-- The texts of reports.
use Rattle.std.specs.Prelude.{ℕ, List, [], ◌∷◌, ◌++◌, flat_map, codes}
use Rattle.mms_data.specs.declared.outcome.Outcome.{Outcome}
use Rattle.mms_data.specs.ObjectName.{ObjectName}
use Rattle.mms_data.specs.Text.Texts.{outcome_text}
use Rattle.tase_views.specs.declared.reply.ReportKind.{ReportKind}
use Rattle.tase_views.specs.declared.reply.ReportKind.TheVariants.{Set, Variables}
use Rattle.tase_views.specs.EventTexts.{next_name}

-- an outcome after a space
abbrev pub next_outcome : Outcome → List ℕ
next_outcome outcome = 32 ∷ outcome_text outcome

-- each name with the outcome at its place, after a space
abbrev pub told_text : List ObjectName → List Outcome → List ℕ
told_text [] outcomes = []
told_text (name ∷ names) [] = []
told_text (name ∷ names) (outcome ∷ outcomes) =
    next_name name ++ 61 ∷ outcome_text outcome ++ told_text names outcomes

-- `set NAME OUTCOME ..` or `vars NAME=OUTCOME ..`
abbrev pub report_text : ReportKind → List ℕ
report_text (Set set results) = codes "set" ++ next_name set ++ flat_map next_outcome results
report_text (Variables names results) = codes "vars" ++ told_text names results
