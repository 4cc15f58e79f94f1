-- Names as octets (ISO 9506-2, ObjectName), and their written form.
use Rattle.std.specs.Prelude.{ℕ, List, ◌++◌, length}
use Rattle.ber_values.specs.declared.visible_string.TheConstants.{VISIBLE_LIMIT}
use Rattle.ber_values.specs.Grammars.{Grammar, then_in, map_in}
use Rattle.ber_values.specs.Parts.{Contents, part_in, choose_in, contents_as, all_in}
use Rattle.ber_values.specs.Leaves.{visible_within}
use Rattle.ber_values.specs.Lengths.{capped}
use Rattle.ber_values.specs.Writing.{written}
use Rattle.mms_data.specs.declared.object_name.Scope.{Scope}
use Rattle.mms_data.specs.declared.object_name.Scope.TheVariants.{Vmd, Domain, Association}
use Rattle.mms_data.specs.ObjectName.{ObjectName}

-- an item or a domain
unfoldable pub identifier : Contents (List ℕ)
identifier = visible_within 1 VISIBLE_LIMIT

-- an item of the whole device
abbrev pub of_device : List ℕ → ObjectName
of_device item = record { scope = Vmd; item = item }

-- an item of a domain
abbrev pub of_domain : List ℕ → List ℕ → ObjectName
of_domain domain item = record { scope = Domain domain; item = item }

-- an item of one association
abbrev pub of_association : List ℕ → ObjectName
of_association item = record { scope = Association; item = item }

-- a domain and an item of it
unfoldable pub domain_name : Contents ObjectName
domain_name = all_in
    (then_in (part_in 26 identifier) (λ domain.
    map_in (of_domain domain) (part_in 26 identifier)))

-- a name
unfoldable pub one_name : Grammar ObjectName
one_name =
    choose_in 128 (contents_as of_device identifier)
    (choose_in 161 domain_name
    (part_in 130 (contents_as of_association identifier)))

-- the written form of an item in a scope
abbrev pub item_octets : Scope → List ℕ → List ℕ
item_octets Vmd item = written 128 item
item_octets (Domain domain) item = written 161 (written 26 domain ++ written 26 item)
item_octets Association item = written 130 item

-- the written form of a name
abbrev pub name_octets : ObjectName → List ℕ
name_octets name = item_octets name.scope name.item

-- how many octets are written, or the most that a length is said to be
abbrev pub name_len : ObjectName → ℕ
name_len name = capped (length (name_octets name))
