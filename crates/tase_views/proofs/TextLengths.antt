-- Lengths of the texts of calls, name by name.
use Rattle.std.proofs.Common.{◌≡◌, ℕ, zero, suc, ◌+◌, ◌<◌, List, [], ◌∷◌, ◌++◌, length, take}
use Rattle.std.proofs.Common.{get_or, add-one, arith}
use Rattle.std.specs.List.{flat_map}
use Rattle.std.proofs.lemmas.List.{length-append}
use Rattle.mms_data.specs.Datum.{Datum}
use Rattle.mms_data.specs.ObjectName.{ObjectName}
use Rattle.mms_data.specs.Text.Texts.{name_text, data_text}
use Rattle.tase_views.specs.EventTexts.{next_name, next_value, assigned_text}

names_by_suc : (names : List ObjectName) (i : ℕ) (d : ObjectName) → i < length names
    → length (flat_map next_name (take (suc i) names))
    ≡ length (flat_map next_name (take i names)) + (1 + length (name_text (get_or names i d)))
names_by_suc [] i d within = absurd (omega (arith, within))
names_by_suc (name ∷ names) zero d within = omega (arith, length-append (next_name name) [])
names_by_suc (name ∷ names) (suc i) d within =
    omega (
      arith,
      names_by_suc names i d (omega (arith, within)),
      length-append (next_name name) (flat_map next_name (take (suc i) names)),
      length-append (next_name name) (flat_map next_name (take i names)),
    )

pub length-names : (names : List ObjectName) (i : ℕ) (d : ObjectName) → i < length names
    → length (flat_map next_name (take (i + 1) names))
    ≡ length (flat_map next_name (take i names)) + (1 + length (name_text (get_or names i d)))
length-names names i d within = rw (add-one i) (names_by_suc names i d within)

values_by_suc : (values : List Datum) (i : ℕ) (d : Datum) → i < length values
    → length (flat_map next_value (take (suc i) values))
    ≡ length (flat_map next_value (take i values)) + (1 + length (data_text (get_or values i d)))
values_by_suc [] i d within = absurd (omega (arith, within))
values_by_suc (value ∷ values) zero d within = omega (arith, length-append (next_value value) [])
values_by_suc (value ∷ values) (suc i) d within =
    omega (
      arith,
      values_by_suc values i d (omega (arith, within)),
      length-append (next_value value) (flat_map next_value (take (suc i) values)),
      length-append (next_value value) (flat_map next_value (take i values)),
    )

pub length-values : (values : List Datum) (i : ℕ) (d : Datum) → i < length values
    → length (flat_map next_value (take (i + 1) values))
    ≡ length (flat_map next_value (take i values)) + (1 + length (data_text (get_or values i d)))
length-values values i d within = rw (add-one i) (values_by_suc values i d within)

assigned_by_suc : (names : List ObjectName) (values : List Datum) (i : ℕ) (d : ObjectName)
    (v : Datum) → i < length names → i < length values
    → length (assigned_text (take (suc i) names) (take (suc i) values))
    ≡ length (assigned_text (take i names) (take i values))
    + (2 + length (name_text (get_or names i d)) + length (data_text (get_or values i v)))
assigned_by_suc [] values i d v within there = absurd (omega (arith, within))
assigned_by_suc (name ∷ names) [] i d v within there = absurd (omega (arith, there))
assigned_by_suc (name ∷ names) (value ∷ values) zero d v within there =
    omega (
      arith,
      length-append (next_name name ++ 61 ∷ data_text value) [],
      length-append (next_name name) (61 ∷ data_text value),
    )
assigned_by_suc (name ∷ names) (value ∷ values) (suc i) d v within there =
    omega (
      arith,
      assigned_by_suc names values i d v (omega (arith, within)) (omega (arith, there)),
      length-append (next_name name ++ 61 ∷ data_text value)
          (assigned_text (take (suc i) names) (take (suc i) values)),
      length-append (next_name name ++ 61 ∷ data_text value)
          (assigned_text (take i names) (take i values)),
    )

pub length-assigned : (names : List ObjectName) (values : List Datum) (i : ℕ) (d : ObjectName)
    (v : Datum) → i < length names → i < length values
    → length (assigned_text (take (i + 1) names) (take (i + 1) values))
    ≡ length (assigned_text (take i names) (take i values))
    + (2 + length (name_text (get_or names i d)) + length (data_text (get_or values i v)))
length-assigned names values i d v within there =
    rw (add-one i) (assigned_by_suc names values i d v within there)
