-- The type of a variable (ISO 9506-2, GetVariableAccessAttributes).
use Rattle.std.specs.Prelude.{ℕ, List, [], ◌∷◌, ◌++◌}
use Rattle.ber_values.specs.Grammars.{then_in, map_in}
use Rattle.ber_values.specs.Parts.{Contents, part_in, contents_as, all_in}
use Rattle.ber_values.specs.Leaves.{boolean}
use Rattle.ber_values.specs.Writing.{written}
use Rattle.mms_data.specs.ObjectName.{ObjectName, IsName}
use Rattle.mms_data.specs.NameOctets.{name_octets}
use Rattle.mms_data.specs.Types.TypeShape.{TypeShape, IsTypeShape}
use Rattle.mms_data.specs.Types.ShapeOctets.{passed_once, sole_shape}
use Rattle.mms_data.specs.Types.ShapeWritten.{shape_octets}
use Rattle.mms_services.specs.declared.access.type_of.TypeRequest.{TypeRequest}
use Rattle.mms_services.specs.declared.access.type_of.TypeResponse.{TypeResponse}
use Rattle.mms_services.specs.Access.Specifications.{sole_variable}

abbrev pub type_asked : ObjectName → TypeRequest
type_asked name = record { name = name }

-- a variable by its name
unfoldable pub type_request : Contents TypeRequest
type_request = contents_as type_asked sole_variable

abbrev pub type_told : TypeShape → TypeResponse
type_told shape = record { shape = shape }

-- whether the variable may be deleted, its address, which may be absent and isn't looked at, and
-- its type
unfoldable pub type_response : Contents TypeResponse
type_response = all_in
    (then_in (part_in 128 boolean) (λ deletable.
    then_in (passed_once 161) (λ address.
    map_in type_told (part_in 162 sole_shape))))

-- ---- written forms

unfoldable pub type_request_octets : TypeRequest → List ℕ
type_request_octets r = written 160 (name_octets r.name)

-- the variable may not be deleted
unfoldable pub undeletable_octets : List ℕ
undeletable_octets = written 128 (0 ∷ [])

unfoldable pub type_response_octets : TypeResponse → List ℕ
type_response_octets r = undeletable_octets ++ written 162 (shape_octets r.shape)

-- the type of a variable may be told
abbrev pub IsTyped : TypeResponse → Type 0
IsTyped r = IsTypeShape r.shape

-- what the type keeps of its name
abbrev pub IsNamedType : TypeRequest → Type 0
IsNamedType r = IsName r.name
