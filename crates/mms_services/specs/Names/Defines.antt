-- Defining a named variable list (ISO 9506-2, DefineNamedVariableList): its name and its members.
use Rattle.std.specs.Prelude.{ℕ, ◌≤◌, List, ◌++◌, length}
use Rattle.std.specs.List.{All}
use Rattle.ber_values.specs.Grammars.{then_in, map_in}
use Rattle.ber_values.specs.Parts.{Contents, part_in, all_in}
use Rattle.ber_values.specs.Writing.{written}
use Rattle.mms_data.specs.ObjectName.{ObjectName, IsName}
use Rattle.mms_data.specs.NameOctets.{one_name, name_octets}
use Rattle.mms_services.specs.declared.names.define.DefineRequest.{DefineRequest}
use Rattle.mms_services.specs.Access.Specifications.{variables, variables_octets}

abbrev pub define_of : ObjectName → List ObjectName → DefineRequest
define_of set members = record { set = set; members = members }

-- the name of the list, and the variables that are its members
unfoldable pub define_request : Contents DefineRequest
define_request = all_in
    (then_in one_name (λ set.
    map_in (define_of set) (part_in 160 variables)))

-- ---- written form

unfoldable pub define_request_octets : DefineRequest → List ℕ
define_request_octets r = name_octets r.set ++ written 160 (variables_octets r.members)

-- what is defined has members
abbrev pub IsDefine : DefineRequest → Type 0
IsDefine r = 1 ≤ length r.members

-- what the type of a request keeps of its names
abbrev pub IsNamedDefine : DefineRequest → Type 0
IsNamedDefine r = IsName r.set × All IsName r.members
