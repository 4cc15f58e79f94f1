-- The members of a named variable list (ISO 9506-2, GetNamedVariableListAttributes).
use Rattle.std.specs.Prelude.{ℕ, ◌≤◌, List, [], ◌∷◌, ◌++◌, length}
use Rattle.std.specs.List.{All}
use Rattle.ber_values.specs.Grammars.{then_in, map_in}
use Rattle.ber_values.specs.Parts.{Contents, part_in, contents_as, all_in}
use Rattle.ber_values.specs.Leaves.{fixed}
use Rattle.ber_values.specs.Writing.{written}
use Rattle.mms_data.specs.ObjectName.{ObjectName, IsName}
use Rattle.mms_data.specs.NameOctets.{name_octets}
use Rattle.mms_services.specs.declared.names.members.MembersRequest.{MembersRequest}
use Rattle.mms_services.specs.declared.names.members.MembersResponse.{MembersResponse}
use Rattle.mms_services.specs.Access.Specifications.{sole_name, variables, variables_octets}

abbrev pub members_of : ObjectName → MembersRequest
members_of set = record { set = set }

-- the name of the list
unfoldable pub members_request : Contents MembersRequest
members_request = contents_as members_of sole_name

abbrev pub members_listed : List ObjectName → MembersResponse
members_listed members = record { members = members }

-- that the list may be deleted, and the variables that are its members
unfoldable pub members_response : Contents MembersResponse
members_response = all_in
    (then_in (part_in 128 (fixed (255 ∷ []))) (λ u.
    map_in members_listed (part_in 161 variables)))

-- ---- written forms

unfoldable pub members_request_octets : MembersRequest → List ℕ
members_request_octets r = name_octets r.set

-- the list may be deleted
unfoldable pub deletable_octets : List ℕ
deletable_octets = written 128 (255 ∷ [])

unfoldable pub members_response_octets : MembersResponse → List ℕ
members_response_octets r = deletable_octets ++ written 161 (variables_octets r.members)

-- a list has members
abbrev pub IsMembers : MembersResponse → Type 0
IsMembers r = 1 ≤ length r.members

-- what the types keep of their names
abbrev pub IsNamedSet : MembersRequest → Type 0
IsNamedSet r = IsName r.set

abbrev pub IsNamedMembers : MembersResponse → Type 0
IsNamedMembers r = All IsName r.members
