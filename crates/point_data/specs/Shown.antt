-- How a point's value is shown as data of MMS.
use Rattle.std.specs.Prelude.{ℕ, ◌+◌, ◌*◌, pos, List, [], ◌∷◌, map}
use Rattle.tase_points.specs.declared.body.Body.{Body}
use Rattle.tase_points.specs.declared.body.Body.TheVariants.{State, Discrete, Real}
use Rattle.tase_points.specs.declared.layout.Component.{Component}
use Rattle.tase_points.specs.declared.layout.Component.TheVariants.{Value, Time, Millis, Flags, Cov}
use Rattle.tase_points.specs.Sample.{Sample}
use Rattle.mms_data.specs.Datum.{Datum, integer, unsigned, bits, real, structure, data_of}

-- one octet as a bit string
abbrev pub octet_bits : ℕ → Datum
octet_bits octet = bits (record { count = 8; octets = octet ∷ [] })

-- a body: a state in the two highest bits of an octet with the flags below it, an integer, or a
-- real value
abbrev pub shown_body : Body → ℕ → Datum
shown_body (State s) flags = octet_bits (s * 64 + flags)
shown_body (Discrete d) flags = integer d
shown_body (Real r) flags = real r

-- one component of a value that has changed so many times, modulo 65,536
abbrev pub shown_component : Sample → ℕ → Component → Datum
shown_component v cov Value = shown_body v.body v.flags
shown_component v cov Time = integer (pos v.seconds)
shown_component v cov Millis = integer (pos v.millis)
shown_component v cov Flags = octet_bits v.flags
shown_component v cov Cov = unsigned cov

-- a value in a layout: one component stands bare, several as a structure in the layout's order
abbrev pub shown_as : Sample → ℕ → List Component → Datum
shown_as v cov (component ∷ []) = shown_component v cov component
shown_as v cov components = structure (data_of (map (shown_component v cov) components))
