-- Where a value that is shown in a layout has its components.
use Rattle.std.proofs.Common.{◌≡◌, ℕ, zero, suc, List, [], ◌∷◌, Option, Some, None, map, option_map}
use Rattle.std.proofs.Common.{refl, sym, ap, ◌∙◌, length, ◌≢◌, arith, ◌+◌, ◌<◌, take, get_or, Bor}
use Rattle.std.proofs.Common.{IfSome, IfNone}
use Rattle.std.specs.List.{slice_get, Contains}
use Rattle.std.specs.Option.{option_copied}
use Rattle.std.proofs.lemmas.List.{map_more, take_more}
use Rattle.std.proofs.lemmas.Option.{slice_get-map, slice_get_within, get_or_from_slice_get}
use Rattle.mms_data.specs.Datum.{Datum, structure, data_of}
use Rattle.tase_points.specs.declared.layout.Component.{Component}
use Rattle.tase_points.specs.Sample.{Sample}
use Rattle.point_data.specs.Parts.{HasComponent, list_of, structure_members, member_in}
use Rattle.point_data.specs.Shown.{shown_as, shown_component}

-- data of a list are that list
pub list_of-data_of : (ds : List Datum) → list_of (data_of ds) ≡ ds
list_of-data_of [] = refl
list_of-data_of (d ∷ ds) = ap (λ more. d ∷ more) (list_of-data_of ds)

several : (v : Sample) (cov : ℕ) (layout : List Component) (value : Datum) (i : ℕ)
    (component : Component) → structure (data_of (map (shown_component v cov) layout)) ≡ value
    → slice_get layout i ≡ Some component
    → slice_get (structure_members value) i ≡ Some (shown_component v cov component)
several v cov layout value i component e g =
    ap (λ d. slice_get (structure_members d) i) (sym e)
    ∙ ap (λ ds. slice_get ds i) (list_of-data_of (map (shown_component v cov) layout))
    ∙ slice_get-map (shown_component v cov) layout i
    ∙ ap (option_map (shown_component v cov)) g

-- a component that a layout has stands at its place
pub member_in-shown : (v : Sample) (cov : ℕ) (layout : List Component) (value : Datum) (i : ℕ)
    (component : Component) → shown_as v cov layout ≡ value → slice_get layout i ≡ Some component
    → member_in layout value i ≡ Some (shown_component v cov component)
member_in-shown v cov [] value i component e g = several v cov [] value i component e g
member_in-shown v cov (only ∷ []) value zero component e g =
    let same : only ≡ component = cc in ap Some (sym e ∙ ap (shown_component v cov) same)
member_in-shown v cov (only ∷ []) value (suc i) component e g = cc
member_in-shown v cov (first ∷ next ∷ more) value i component e g =
    several v cov (first ∷ next ∷ more) value i component e g

-- what a layout has, it contains
pub Has-Contains : (layout : List Component) (component : Component) → HasComponent layout component
    → Contains layout component
Has-Contains layout component (i, e) =
    (i, slice_get_within layout i component e, get_or_from_slice_get layout i component component e)

-- one component stands bare
pub member_in-one : (layout : List Component) (value : Datum) (place : ℕ) → length layout ≡ 1
    → member_in layout value place ≡ Some value
member_in-one [] value place e = absurd (omega arith)
member_in-one (component ∷ []) value place e = refl
member_in-one (component ∷ next ∷ more) value place e = absurd (omega arith)

-- several are members of a structure
pub member_in-several : (layout : List Component) (value : Datum) (place : ℕ) → length layout ≢ 1
    → member_in layout value place ≡ slice_get (structure_members value) place
member_in-several [] value place ne = refl
member_in-several (component ∷ []) value place ne = absurd (ne refl)
member_in-several (component ∷ next ∷ more) value place ne = refl

-- what stands at the place of a component is what is shown of it
pub found : (o : Option (Bor Datum)) (layout : List Component) (value : Datum)
    (component : Component) (i : ℕ) → option_copied o ≡ member_in layout value i
    → slice_get layout i ≡ Some component
    → IfSome o
    (λ d. (v : Sample) (cov : ℕ) → shown_as v cov layout ≡ value
    → d.now ≡ shown_component v cov component)
found None layout value component i e g = tt
found (Some d) layout value component i e g =
    λ v cov shown. let m = member_in-shown v cov layout value i component shown g in cc

-- where nothing stands there, nothing is shown so
pub missed : (o : Option (Bor Datum)) (layout : List Component) (value : Datum)
    (component : Component) (i : ℕ) → option_copied o ≡ member_in layout value i
    → slice_get layout i ≡ Some component
    → IfNone o ((v : Sample) (cov : ℕ) → shown_as v cov layout ≡ value → ¬ HasComponent layout component)
missed None layout value component i e g =
    λ v cov shown h. let m = member_in-shown v cov layout value i component shown g in cc
missed (Some d) layout value component i e g = tt

-- one more component
pub components_more : (f : Component → Datum) (layout : List Component) (members : List Datum)
    (i : ℕ) (component : Component) (d : Datum) → i < length layout → slice_get members i ≡ Some d
    → f (get_or layout i component) ≡ d → map f (take i layout) ≡ take i members
    → map f (take (i + 1) layout) ≡ take (i + 1) members
components_more f layout members i component d h g e before =
    let here : get_or members i d ≡ d = get_or_from_slice_get members i d d g in
    let left = map_more f layout i component h in
    let right = take_more members i d (slice_get_within members i d g) in cc
