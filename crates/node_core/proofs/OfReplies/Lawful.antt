-- What a peer is shown is lawful data.
use Rattle.std.proofs.Common.{ℕ, ◌^◌, ◌<◌, ◌≤◌, Bool, true, false, List, [], ◌∷◌, map, length}
use Rattle.std.proofs.Common.{arith}
use Rattle.std.specs.Option.{IfSome}
use Rattle.tase_points.specs.declared.body.Body.{Body}
use Rattle.tase_points.specs.declared.body.Body.TheVariants.{State, Discrete, Real}
use Rattle.tase_points.specs.declared.layout.Component.{Component}
use Rattle.tase_points.specs.declared.layout.Component.TheVariants.{Value, Time, Millis, Flags, Cov}
use Rattle.tase_points.specs.Sample.{Sample}
use Rattle.mms_data.specs.Datum.{data_of, depth, deepest}
use Rattle.mms_data.specs.Lawful.{IsLawful, KeepsUnsigned, KeepUnsigned}
use Rattle.mms_data.specs.ObjectName.{ObjectName}
use Rattle.point_data.specs.Shown.{shown_body, shown_component, shown_as}
use Rattle.tase_views.specs.Replies.{IsReadSpec}
use Rattle.tase_views.specs.Answers.{echoed, echoed_set}

body_flat : (body : Body) (flags : ℕ) → (depth (shown_body body flags) ≤ 1)
    × KeepsUnsigned (shown_body body flags)
body_flat (State s) flags = (omega arith, tt)
body_flat (Discrete d) flags = (omega arith, tt)
body_flat (Real r) flags = (omega arith, tt)

component_flat : (v : Sample) (cov : ℕ) (component : Component) → cov < 2 ^ 63
    → (depth (shown_component v cov component) ≤ 1)
    × KeepsUnsigned (shown_component v cov component)
component_flat v cov Value small = body_flat v.body v.flags
component_flat v cov Time small = (omega arith, tt)
component_flat v cov Millis small = (omega arith, tt)
component_flat v cov Flags small = (omega arith, tt)
component_flat v cov Cov small = (omega arith, small)

components_flat : (v : Sample) (cov : ℕ) (layout : List Component) → cov < 2 ^ 63
    → (deepest (data_of (map (shown_component v cov) layout)) ≤ 1)
    × KeepUnsigned (data_of (map (shown_component v cov) layout))
components_flat v cov [] small = (omega arith, tt)
components_flat v cov (component ∷ layout) small =
    let here = component_flat v cov component small in
    let rest = components_flat v cov layout small in
    (omega (arith, here.0, rest.0), (here.1, rest.1))

pub shown_lawful : (v : Sample) (cov : ℕ) (layout : List Component) → cov < 2 ^ 63
    → IsLawful (shown_as v cov layout)
shown_lawful v cov [] small = record { shallow = omega arith; numbers = tt }
shown_lawful v cov (component ∷ []) small =
    let here = component_flat v cov component small in
    record { shallow = omega (arith, here.0); numbers = here.1 }
shown_lawful v cov (component ∷ next ∷ layout) small =
    let all = components_flat v cov (component ∷ next ∷ layout) small in
    record { shallow = omega (arith, all.0); numbers = all.1 }

-- what a read named
pub echoed_named : (echo : Bool) (names : List ObjectName) → 0 < length names
    → IfSome (echoed echo names) IsReadSpec
echoed_named true names some = some
echoed_named false names some = tt

pub echoed_set_named : (echo : Bool) (set : ObjectName) → IfSome (echoed_set echo set) IsReadSpec
echoed_set_named true set = tt
echoed_set_named false set = tt
