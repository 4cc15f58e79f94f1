-- The texts of names with their outcomes grow by one.
use Rattle.std.proofs.Common.{◌≡◌, ℕ, suc, zero, ◌+◌, ◌<◌, List, [], ◌∷◌, ◌++◌, length, take}
use Rattle.std.proofs.Common.{get_or}
use Rattle.std.proofs.Common.{ap, append_assoc, append-nil, arith, ◌∙◌, sym, add-one}
use Rattle.mms_data.specs.declared.outcome.Outcome.{Outcome}
use Rattle.mms_data.specs.ObjectName.{ObjectName}
use Rattle.mms_data.specs.Text.Texts.{outcome_text}
use Rattle.tase_views.specs.EventTexts.{next_name}
use Rattle.texts.specs.Reports.ReportTexts.{told_text}

grown : (names : List ObjectName) (outcomes : List Outcome) (i : ℕ)
    (name : ObjectName) (outcome : Outcome) → i < length names → i < length outcomes
    → told_text (take (suc i) names) (take (suc i) outcomes)
    ≡ told_text (take i names) (take i outcomes)
    ++ (next_name (get_or names i name) ++ 61 ∷ outcome_text (get_or outcomes i outcome))
grown [] outcomes i name outcome h k = absurd (omega arith)
grown (n ∷ ns) [] i name outcome h k = absurd (omega arith)
grown (n ∷ ns) (o ∷ os) zero name outcome h k = append-nil (next_name n ++ 61 ∷ outcome_text o)
grown (n ∷ ns) (o ∷ os) (suc i) name outcome h k =
    ap (λ t. next_name n ++ 61 ∷ outcome_text o ++ t)
    (grown ns os i name outcome (omega arith) (omega arith))
    ∙ sym (append_assoc (next_name n ++ 61 ∷ outcome_text o) (told_text (take i ns) (take i os))
    (next_name (get_or ns i name) ++ 61 ∷ outcome_text (get_or os i outcome)))

pub told_text-take : (names : List ObjectName) (outcomes : List Outcome) (i : ℕ)
    (name : ObjectName) (outcome : Outcome) → i < length names → i < length outcomes
    → told_text (take (i + 1) names) (take (i + 1) outcomes)
    ≡ told_text (take i names) (take i outcomes)
    ++ (next_name (get_or names i name) ++ 61 ∷ outcome_text (get_or outcomes i outcome))
told_text-take names outcomes i name outcome h k =
    rw add-one (grown names outcomes i name outcome h k)
