-- Lists of names of objects (ISO 9506-2, GetNameList-Request and GetNameList-Response).
use Rattle.std.specs.Prelude.{ℕ, ℤ, Bool, true, List, [], ◌++◌, length, flat_map, Option, Some}
use Rattle.std.specs.Prelude.{None, IfSome}
use Rattle.std.specs.List.{All}
use Rattle.ber_values.specs.Grammars.{Grammar, then_in, map_in}
use Rattle.ber_values.specs.Parts.{Contents, part_in, maybe_in, choose_in, contents_as, all_in}
use Rattle.ber_values.specs.Lists.{list_in}
use Rattle.ber_values.specs.Leaves.{integer, boolean, fixed}
use Rattle.mms_data.specs.NameOctets.{identifier}
use Rattle.mms_data.specs.declared.object_name.Scope.{Scope}
use Rattle.mms_data.specs.declared.object_name.Scope.TheVariants.{Vmd, Domain, Association}
use Rattle.ber_values.specs.Lengths.{capped}
use Rattle.ber_values.specs.Writing.{written, integer_octets, boolean_octets}
use Rattle.mms_data.specs.ObjectName.{IsIdentifier, IsScope}
use Rattle.mms_services.specs.declared.names.name_list.NameListRequest.{NameListRequest}
use Rattle.mms_services.specs.declared.names.name_list.NameListResponse.{NameListResponse}

-- a class of objects
unfoldable pub object_class : Contents ℤ
object_class = all_in (part_in 128 integer)

-- the whole device, a domain, or one association
unfoldable pub one_scope : Grammar Scope
one_scope =
    choose_in 128 (contents_as (λ u. Vmd) (fixed []))
    (choose_in 129 (contents_as Domain identifier)
    (part_in 130 (contents_as (λ u. Association) (fixed []))))

unfoldable pub object_scope : Contents Scope
object_scope = all_in one_scope

-- the name after which the list goes on, if there is one
unfoldable pub after_name : Grammar (Option (List ℕ))
after_name = maybe_in 130 identifier

abbrev pub request_of : ℤ → Scope → Option (List ℕ) → NameListRequest
request_of class scope after = record { class = class; scope = scope; after = after }

-- the class, the scope, and where the list goes on
unfoldable pub name_list_request : Contents NameListRequest
name_list_request = all_in
    (then_in (part_in 160 object_class) (λ class.
    then_in (part_in 161 object_scope) (λ scope.
    map_in (request_of class scope) after_name)))

-- one name
unfoldable pub listed_name : Grammar (List ℕ)
listed_name = part_in 26 identifier

-- more names follow where nothing is said of it
abbrev pub or_true : Option Bool → Bool
or_true None = true
or_true (Some more) = more

unfoldable pub more_names : Grammar Bool
more_names = map_in or_true (maybe_in 129 boolean)

abbrev pub response_of : List (List ℕ) → Bool → NameListResponse
response_of names more = record { names = names; more = more }

-- the names, and whether more of them follow
unfoldable pub name_list_response : Contents NameListResponse
name_list_response = all_in
    (then_in (part_in 160 (list_in 0 listed_name)) (λ names.
    map_in (response_of names) more_names))

-- ---- the written forms

unfoldable pub class_octets : ℤ → List ℕ
class_octets class = written 160 (written 128 (integer_octets class))

abbrev pub scope_octets : Scope → List ℕ
scope_octets Vmd = written 128 []
scope_octets (Domain domain) = written 129 domain
scope_octets Association = written 130 []

abbrev pub after_octets : Option (List ℕ) → List ℕ
after_octets None = []
after_octets (Some name) = written 130 name

unfoldable pub in_scope_octets : Scope → List ℕ
in_scope_octets scope = written 161 (scope_octets scope)

unfoldable pub name_list_request_octets : NameListRequest → List ℕ
name_list_request_octets r =
    class_octets r.class ++ (in_scope_octets r.scope ++ after_octets r.after)

-- a request that may be written: its names have one to 64 octets
pub record IsNamedRequest (r : NameListRequest) : Type 0 where
  pub scope : IsScope r.scope
  pub after : IfSome r.after IsIdentifier

unfoldable pub listed_octets : List ℕ → List ℕ
listed_octets name = written 26 name

unfoldable pub names_octets : List (List ℕ) → List ℕ
names_octets names = flat_map listed_octets names

unfoldable pub more_octets : Bool → List ℕ
more_octets more = written 129 (boolean_octets more)

unfoldable pub list_octets : List (List ℕ) → List ℕ
list_octets names = written 160 (names_octets names)

unfoldable pub name_list_response_octets : NameListResponse → List ℕ
name_list_response_octets r = list_octets r.names ++ more_octets r.more

-- a response that may be written: its names have one to 64 octets
abbrev pub IsNamedResponse : NameListResponse → Type 0
IsNamedResponse r = All IsIdentifier r.names

-- how many octets are written, or the most that a length is said to be
abbrev pub name_list_response_len : NameListResponse → ℕ
name_list_response_len r = capped (length (name_list_response_octets r))
