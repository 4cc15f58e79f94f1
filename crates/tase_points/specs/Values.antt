-- Which values points may have, what they have before any update, and what counts as a change.
use Rattle.std.specs.Prelude.{◌≤◌, Bool, false, not, ◌&&◌, ◌==◌, bytes_eq}
use Rattle.tase_points.specs.declared.kind.Kind.{Kind}
use Rattle.tase_points.specs.declared.body.Body.{Body}
use Rattle.tase_points.specs.declared.body.Body.TheVariants.{State, Discrete, Real}
use Rattle.tase_points.specs.declared.value.TheConstants.{STATE_LIMIT, FLAGS_LIMIT, SECONDS_LIMIT}
use Rattle.tase_points.specs.declared.value.TheConstants.{MILLIS_LIMIT, NOT_VALID}
use Rattle.tase_points.specs.Points.{state_of, zero_body}
use Rattle.tase_points.specs.Sample.{Sample}
use Rattle.std.specs.Ordering.{int_eq}

-- the ranges that every value keeps
pub record IsSample (v : Sample) : Type 0 where
  pub state : state_of v.body ≤ STATE_LIMIT
  pub flags : v.flags ≤ FLAGS_LIMIT
  pub seconds : v.seconds ≤ SECONDS_LIMIT
  pub millis : v.millis ≤ MILLIS_LIMIT

-- a point's value before any update: nothing, not valid, at no time
abbrev pub unknown_sample : Kind → Sample
unknown_sample kind = record { body = zero_body kind; flags = NOT_VALID; seconds = 0; millis = 0 }

-- the bodies are of one kind and equal
abbrev pub same_body : Body → Body → Bool
same_body (State a) (State b) = a == b
same_body (Discrete a) (Discrete b) = int_eq a b
same_body (Real a) (Real b) = bytes_eq a b
same_body _ _ = false

-- whether the second value is a change from the first: another body or other flags, whatever their
-- times
abbrev pub is_change : Sample → Sample → Bool
is_change old new = not (same_body old.body new.body && (old.flags == new.flags))
