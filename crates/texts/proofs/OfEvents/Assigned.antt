-- The texts of names with their values grow by one.
use Rattle.std.proofs.Common.{◌≡◌, ℕ, suc, zero, ◌+◌, ◌<◌, List, [], ◌∷◌, ◌++◌, length, take}
use Rattle.std.proofs.Common.{get_or}
use Rattle.std.proofs.Common.{ap, append_assoc, append-nil, arith, ◌∙◌, sym, add-one}
use Rattle.mms_data.specs.Datum.{Datum}
use Rattle.mms_data.specs.ObjectName.{ObjectName}
use Rattle.mms_data.specs.Text.Texts.{data_text}
use Rattle.tase_views.specs.EventTexts.{next_name, assigned_text}

grown : (names : List ObjectName) (values : List Datum) (i : ℕ) (name : ObjectName) (value : Datum)
    → i < length names → i < length values
    → assigned_text (take (suc i) names) (take (suc i) values)
    ≡ assigned_text (take i names) (take i values)
    ++ (next_name (get_or names i name) ++ 61 ∷ data_text (get_or values i value))
grown [] values i name value h k = absurd (omega arith)
grown (n ∷ ns) [] i name value h k = absurd (omega arith)
grown (n ∷ ns) (v ∷ vs) zero name value h k = append-nil (next_name n ++ 61 ∷ data_text v)
grown (n ∷ ns) (v ∷ vs) (suc i) name value h k =
    ap (λ t. next_name n ++ 61 ∷ data_text v ++ t)
    (grown ns vs i name value (omega arith) (omega arith))
    ∙ sym (append_assoc (next_name n ++ 61 ∷ data_text v) (assigned_text (take i ns) (take i vs))
    (next_name (get_or ns i name) ++ 61 ∷ data_text (get_or vs i value)))

pub assigned_text-take : (names : List ObjectName) (values : List Datum) (i : ℕ)
    (name : ObjectName) (value : Datum) → i < length names → i < length values
    → assigned_text (take (i + 1) names) (take (i + 1) values)
    ≡ assigned_text (take i names) (take i values)
    ++ (next_name (get_or names i name) ++ 61 ∷ data_text (get_or values i value))
assigned_text-take names values i name value h k = rw add-one (grown names values i name value h k)
