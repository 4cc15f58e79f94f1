-- A point with more changes is shown as data with more changes.
use Rattle.std.proofs.Common.{◌≡◌, ℕ, ◌+◌, ◌%◌, List, [], ◌∷◌, map, Option, Some, refl, sym, ap}
use Rattle.std.proofs.Common.{◌∙◌, ℤ}
use Rattle.tase_points.specs.Sample.{Sample}
use Rattle.tase_points.specs.declared.layout.Component.{Component}
use Rattle.tase_points.specs.declared.layout.Component.TheVariants.{Value, Time, Millis, Flags, Cov}
use Rattle.tase_points.specs.declared.layout.TheConstants.{COV_MODULUS}
use Rattle.mms_data.specs.Datum.{Datum, integer, structure, Data, datum, data_of}
use Rattle.mms_data.specs.declared.outcome.Outcome.TheVariants.{Good}
use Rattle.point_data.specs.Shown.{shown_component, shown_as}
use Rattle.point_db.specs.Updates.{last_of, changes_of}
use Rattle.tase_views.specs.OwnTables.{OwnPoint}
use Rattle.tase_views.specs.Objects.{Object, indication_point}
use Rattle.tase_views.specs.View.{View}
use Rattle.tase_views.specs.Values.{values_in, change_count_of}
use Rattle.tase_views.specs.Answers.{outcome_of_point}
use Rattle.tase_resume.specs.Recounted.{more_part, more_parts, with_more, Gap, object_recounted}
use Rattle.tase_resume.proofs.Like.{HasGap}
use Rattle.tase_resume.proofs.SlotsAlike.{sum_mod}

part_more : (v : Sample) (n more : ℕ) (component : Component)
    → shown_component v ((n + more) % COV_MODULUS) component
    ≡ more_part more component (shown_component v n component)
part_more v n more Value = refl
part_more v n more Time = refl
part_more v n more Millis = refl
part_more v n more Flags = refl
part_more v n more Cov = refl

parts_more : (v : Sample) (n more : ℕ) (components : List Component)
    → data_of (map (shown_component v ((n + more) % COV_MODULUS)) components)
    ≡ more_parts more components (data_of (map (shown_component v n) components))
parts_more v n more [] = refl
parts_more v n more (component ∷ components) =
    ap (λ (d : Datum).
    datum d (data_of (map (shown_component v ((n + more) % COV_MODULUS)) components)))
    (part_more v n more component)
    ∙ ap (λ (ds : Data). datum (more_part more component (shown_component v n component)) ds)
    (parts_more v n more components)

pub shown_more : (v : Sample) (n more : ℕ) (layout : List Component)
    → shown_as v ((n + more) % COV_MODULUS) layout ≡ with_more more layout (shown_as v n layout)
shown_more v n more [] = refl
shown_more v n more (component ∷ []) = part_more v n more component
shown_more v n more (component ∷ next ∷ components) =
    ap (λ (ds : Data). structure ds) (parts_more v n more (component ∷ next ∷ components))

-- an integer is no count
pub integer_same : (more : ℕ) (layout : List Component) (z : ℤ)
    → with_more more layout (integer z) ≡ integer z
integer_same more [] z = refl
integer_same more (Value ∷ []) z = refl
integer_same more (Time ∷ []) z = refl
integer_same more (Millis ∷ []) z = refl
integer_same more (Flags ∷ []) z = refl
integer_same more (Cov ∷ []) z = refl
integer_same more (component ∷ next ∷ components) z = refl

pub integer_recounted : (gap : Gap) (object : Option Object) (z : ℤ)
    → Good (integer z) ≡ object_recounted gap object (Good (integer z))
integer_recounted gap (Some (indication_point p)) z =
    ap (λ (d : Datum). Good d) (sym (integer_same (gap p.name) p.layout z))
integer_recounted gap _ z = refl

-- a point as it stands in two views, of which the first has more changes
pub outcome_more : (gap : Gap) (v w : View) (p : OwnPoint)
    → last_of p.kind (values_in v p.name) ≡ last_of p.kind (values_in w p.name)
    → HasGap gap v w p
    → outcome_of_point v p
    ≡ object_recounted gap (Some (indication_point p)) (outcome_of_point w p)
outcome_more gap v w p last has =
    ap (λ (d : Datum). Good d)
    (ap (λ (s : Sample). shown_as s (change_count_of p.kind (values_in v p.name)) p.layout) last
    ∙ ap (λ n. shown_as (last_of p.kind (values_in w p.name)) (n % COV_MODULUS) p.layout) has
    ∙ ap (λ n. shown_as (last_of p.kind (values_in w p.name)) n p.layout)
    (sum_mod (changes_of p.kind (values_in w p.name)) (gap p.name))
    ∙ shown_more (last_of p.kind (values_in w p.name))
    (change_count_of p.kind (values_in w p.name)) (gap p.name) p.layout)
