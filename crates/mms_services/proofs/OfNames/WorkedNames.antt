-- Lists of names, computed.
use Rattle.std.proofs.Common.{◌≡◌, List, ℕ, [], ◌∷◌, pos, true, false, Some, None, Ok, Err, refl}
use Rattle.ber_values.specs.declared.head.Head.{Head}
use Rattle.ber_values.specs.Tags.{length_in}
use Rattle.ber_values.specs.Numbers.{integer_in}
use Rattle.ber_values.specs.Booleans.{boolean_in}
use Rattle.ber_values.specs.Grammars.{taken, gives, then_in, map_in, branch_in}
use Rattle.ber_values.specs.Parts.{sized_part_in, parted_in, part_in, choose_in, maybe_in, all_in}
use Rattle.ber_values.specs.Parts.{contents_as}
use Rattle.ber_values.specs.Lists.{more_in, list_in}
use Rattle.ber_values.specs.Leaves.{integer, boolean, fixed, text_in, visible_within}
use Rattle.ber_values.specs.Writing.{length_octets, integer_octets}
use Rattle.ber_values.specs.Faults.{fault_at}
use Rattle.ber_values.specs.declared.fault.Why.TheVariants as whys
use Rattle.mms_data.specs.NameOctets.{identifier}
use Rattle.mms_data.specs.declared.object_name.Scope.TheVariants.{Vmd, Domain}
use Rattle.mms_services.specs.Names.NameLists.{object_class, one_scope, object_scope, name_list_request}
use Rattle.mms_services.specs.Names.NameLists.{after_name, listed_name, more_names, name_list_response}
use Rattle.mms_services.specs.Names.NameLists.{class_octets, in_scope_octets, name_list_request_octets}
use Rattle.mms_services.specs.Names.NameLists.{listed_octets, names_octets, list_octets, more_octets}
use Rattle.mms_services.specs.Names.NameLists.{name_list_response_octets}
use Rattle.ber_values.specs.Heads.{extent_of, extent_within}
use Rattle.ber_values.specs.Extents.{definite}

-- the head of contents that stand at a place, after a tag and a length of one octet
at_place : ℕ → Head
at_place at = record {
  class = 2;
  constructed = true;
  number = 8;
  long_form = false;
  length_at = 1;
  body = at;
  end = at;
  next = at;
}

-- variables of the domain D after A
names_asked : List ℕ
names_asked = 160 ∷ 3 ∷ 128 ∷ 1 ∷ 0 ∷ 161 ∷ 3 ∷ 129 ∷ 1 ∷ 68 ∷ 130 ∷ 1 ∷ 65 ∷ []

names_asked_read : name_list_request.reading (at_place 7) names_asked ≡ Ok (record {
  class = pos 0;
  scope = Domain (68 ∷ []);
  after = Some (65 ∷ []);
})
unfolding at_place names_asked name_list_request after_name object_class object_scope one_scope
    identifier then_in map_in branch_in gives maybe_in choose_in part_in parted_in sized_part_in
    length_in all_in contents_as integer integer_in visible_within text_in fixed extent_of
    extent_within definite
names_asked_read = refl

-- A and B, and nothing said of more
names_given : List ℕ
names_given = 160 ∷ 6 ∷ 26 ∷ 1 ∷ 65 ∷ 26 ∷ 1 ∷ 66 ∷ []

names_given_read : name_list_response.reading (at_place 7) names_given
    ≡ Ok (record { names = (65 ∷ []) ∷ (66 ∷ []) ∷ []; more = true })
unfolding at_place names_given name_list_response more_names listed_name identifier then_in map_in
    branch_in gives maybe_in part_in parted_in sized_part_in length_in all_in list_in more_in
    visible_within text_in extent_of extent_within definite
names_given_read = refl

no_names_read : name_list_response.reading (at_place 7) (160 ∷ 0 ∷ 129 ∷ 1 ∷ 0 ∷ [])
    ≡ Ok (record { names = []; more = false })
unfolding at_place name_list_response more_names then_in map_in branch_in maybe_in part_in parted_in
    sized_part_in length_in all_in list_in more_in boolean boolean_in extent_of extent_within
    definite
no_names_read = refl

-- a scope of the whole device has no contents
scope_too_long : name_list_request.reading (at_place 2) (160 ∷ 3 ∷ 128 ∷ 1 ∷ 0 ∷ 161 ∷ 3 ∷ 128 ∷ 1 ∷ 0 ∷ []) ≡ Err (fault_at 10 whys.Length)
unfolding at_place name_list_request object_class object_scope one_scope then_in branch_in choose_in
    part_in parted_in sized_part_in length_in all_in contents_as integer integer_in fixed extent_of
    extent_within definite
scope_too_long = refl

-- a name has an octet at least
empty_name : name_list_response.reading (at_place 2) (160 ∷ 2 ∷ 26 ∷ 0 ∷ []) ≡ Err (fault_at 5 whys.Length)
unfolding at_place name_list_response listed_name identifier then_in part_in parted_in sized_part_in
    length_in all_in list_in more_in visible_within text_in extent_of extent_within branch_in
    definite
empty_name = refl

-- variables of the domain D after A, and domains of the device
names_of_domain : name_list_request_octets (record {
  class = pos 0;
  scope = Domain (68 ∷ []);
  after = Some (65 ∷ []);
}) ≡ 160 ∷ 3 ∷ 128 ∷ 1 ∷ 0 ∷ 161 ∷ 3 ∷ 129 ∷ 1 ∷ 68 ∷ 130 ∷ 1 ∷ 65 ∷ []
unfolding name_list_request_octets class_octets in_scope_octets integer_octets length_octets
names_of_domain = refl

names_of_device : name_list_request_octets (record {
  class = pos 9;
  scope = Vmd;
  after = None;
}) ≡ 160 ∷ 3 ∷ 128 ∷ 1 ∷ 9 ∷ 161 ∷ 2 ∷ 128 ∷ 0 ∷ []
unfolding name_list_request_octets class_octets in_scope_octets integer_octets length_octets
names_of_device = refl

-- A and B, and no more
names_written : name_list_response_octets (record {
  names = (65 ∷ []) ∷ (66 ∷ []) ∷ [];
  more = false;
}) ≡ 160 ∷ 6 ∷ 26 ∷ 1 ∷ 65 ∷ 26 ∷ 1 ∷ 66 ∷ 129 ∷ 1 ∷ 0 ∷ []
unfolding name_list_response_octets list_octets names_octets listed_octets more_octets length_octets
names_written = refl
