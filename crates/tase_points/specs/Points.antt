-- Kinds of points and their bodies.
use Rattle.std.specs.Prelude.{ℕ, pos, [], ◌∷◌}
use Rattle.tase_points.specs.declared.kind.Kind.{Kind}
use Rattle.tase_points.specs.declared.kind.Kind.TheVariants as kinds
use Rattle.tase_points.specs.declared.body.Body.{Body}
use Rattle.tase_points.specs.declared.body.Body.TheVariants.{State, Discrete, Real}

-- the kind of point that a body is of
abbrev pub kind_of : Body → Kind
kind_of (State s) = kinds.State
kind_of (Discrete d) = kinds.Discrete
kind_of (Real r) = kinds.Real

-- the number of a state; a body of another kind has none
abbrev pub state_of : Body → ℕ
state_of (State s) = s
state_of (Discrete d) = 0
state_of (Real r) = 0

-- the body before any update
abbrev pub zero_body : Kind → Body
zero_body kinds.State = State 0
zero_body kinds.Discrete = Discrete (pos 0)
zero_body kinds.Real = Real (0 ∷ 0 ∷ 0 ∷ 0 ∷ [])
