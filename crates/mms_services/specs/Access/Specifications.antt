-- Which variables are meant (ISO 9506-2, VariableAccessSpecification).
use Rattle.std.specs.Prelude.{ℕ, ◌≤◌, List, length, flat_map}
use Rattle.std.specs.List.{All}
use Rattle.ber_values.specs.Grammars.{Grammar}
use Rattle.ber_values.specs.Parts.{Contents, part_in, choose_in, contents_as, all_in}
use Rattle.ber_values.specs.Lists.{list_in}
use Rattle.ber_values.specs.Writing.{written}
use Rattle.mms_data.specs.ObjectName.{ObjectName, IsName}
use Rattle.mms_data.specs.NameOctets.{one_name, name_octets}
use Rattle.mms_services.specs.declared.access.spec.Spec.{Spec}
use Rattle.mms_services.specs.declared.access.spec.Spec.TheVariants as kinds

-- a name, alone
unfoldable pub sole_name : Contents ObjectName
sole_name = all_in one_name

-- a variable by its name, alone
unfoldable pub sole_variable : Contents ObjectName
sole_variable = all_in (part_in 160 sole_name)

unfoldable pub variable : Grammar ObjectName
variable = part_in 48 sole_variable

-- one or more variables
unfoldable pub variables : Contents (List ObjectName)
variables = list_in 1 variable

-- variables, or the name of a list of them
unfoldable pub specification : Grammar Spec
specification =
    choose_in 160 (contents_as kinds.List variables)
    (part_in 161 (contents_as kinds.Set sole_name))

-- a specification, alone
unfoldable pub sole_spec : Contents Spec
sole_spec = all_in specification

-- ---- written forms

unfoldable pub variable_octets : ObjectName → List ℕ
variable_octets name = written 48 (written 160 (name_octets name))

-- variables, one after another
unfoldable pub variables_octets : List ObjectName → List ℕ
variables_octets names = flat_map variable_octets names

unfoldable pub spec_octets : Spec → List ℕ
spec_octets (kinds.List names) = written 160 (variables_octets names)
spec_octets (kinds.Set name) = written 161 (name_octets name)

-- a list of variables has one or more
abbrev pub IsSpec : Spec → Type 0
IsSpec (kinds.List names) = 1 ≤ length names
IsSpec (kinds.Set name) = Unit {0}

-- what the type of a specification keeps of its names
abbrev pub IsNamedSpec : Spec → Type 0
IsNamedSpec (kinds.List names) = All IsName names
IsNamedSpec (kinds.Set name) = IsName name
