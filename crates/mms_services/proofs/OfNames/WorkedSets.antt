-- What services of named variable lists carry, computed.
use Rattle.std.proofs.Common.{◌≡◌, [], ◌∷◌, Ok, Err, pos, refl}
use Rattle.ber_values.specs.declared.fault.Why.TheVariants as whys
use Rattle.ber_values.specs.Faults.{fault_at}
use Rattle.ber_values.specs.Tags.{length_in}
use Rattle.ber_values.specs.Numbers.{integer_in, unsigned_in}
use Rattle.ber_values.specs.Grammars.{taken, gives, then_in, map_in, branch_in}
use Rattle.ber_values.specs.Parts.{sized_part_in, parted_in, part_in, choose_in, contents_as, all_in}
use Rattle.ber_values.specs.Lists.{more_in, list_in}
use Rattle.ber_values.specs.Leaves as leaves
use Rattle.mms_data.specs.NameOctets.{identifier, of_device, of_domain, of_association}
use Rattle.mms_data.specs.NameOctets.{domain_name, one_name}
use Rattle.mms_services.specs.Access.Specifications.{sole_name, sole_variable, variable, variables}
use Rattle.mms_services.specs.Names.Defines.{define_of, define_request}
use Rattle.mms_services.specs.Names.MemberLists.{members_listed, members_response}
use Rattle.mms_services.specs.Names.Deletes.{deletion_scope, free, set_names, delete_of, delete_request}
use Rattle.mms_services.specs.Names.Deletes.{deleted_of, delete_response}
use Rattle.ber_values.specs.Heads.{extent_of, extent_within}
use Rattle.ber_values.specs.Extents.{definite}

-- the list S of the domain D, with the member X of the device
defined_read : (part_in 171 define_request).reading 5
    (171 ∷ 17 ∷ 161 ∷ 6 ∷ 26 ∷ 1 ∷ 68 ∷ 26 ∷ 1 ∷ 83 ∷ 160 ∷ 7 ∷ 48 ∷ 5 ∷ 160 ∷ 3 ∷ 128 ∷ 1 ∷ 88 ∷ [])
    ≡ Ok (taken (define_of (of_domain (68 ∷ []) (83 ∷ [])) (of_device (88 ∷ []) ∷ [])) 24 [])
unfolding define_request variables variable sole_variable sole_name one_name domain_name identifier
    length_in gives then_in map_in branch_in sized_part_in parted_in part_in choose_in contents_as
    all_in more_in list_in leaves.visible_within leaves.text_in extent_of extent_within definite
defined_read = refl

-- a list must have members
empty_read : (part_in 171 define_request).reading 5
    (171 ∷ 10 ∷ 161 ∷ 6 ∷ 26 ∷ 1 ∷ 68 ∷ 26 ∷ 1 ∷ 83 ∷ 160 ∷ 0 ∷ []) ≡ Err (fault_at 17 whys.Short)
unfolding define_request variables variable sole_variable sole_name one_name domain_name identifier
    length_in gives then_in map_in branch_in sized_part_in parted_in part_in choose_in contents_as
    all_in more_in list_in leaves.visible_within leaves.text_in extent_of extent_within definite
empty_read = refl

-- the member X of the device, of a list that may be deleted
listed_read : (part_in 172 members_response).reading 5
    (172 ∷ 12 ∷ 128 ∷ 1 ∷ 255 ∷ 161 ∷ 7 ∷ 48 ∷ 5 ∷ 160 ∷ 3 ∷ 128 ∷ 1 ∷ 88 ∷ [])
    ≡ Ok (taken (members_listed (of_device (88 ∷ []) ∷ [])) 19 [])
unfolding members_response variables variable sole_variable sole_name one_name domain_name
    identifier length_in gives then_in map_in branch_in sized_part_in parted_in part_in choose_in
    contents_as all_in more_in list_in leaves.visible_within leaves.text_in leaves.fixed extent_of
    extent_within definite
listed_read = refl

-- that it may not is a broken rule
fixed_read : (part_in 172 members_response).reading 5
    (172 ∷ 12 ∷ 128 ∷ 1 ∷ 0 ∷ 161 ∷ 7 ∷ 48 ∷ 5 ∷ 160 ∷ 3 ∷ 128 ∷ 1 ∷ 88 ∷ []) ≡ Err (fault_at 9 whys.Value)
unfolding members_response variables variable sole_variable sole_name one_name domain_name
    identifier length_in gives then_in map_in branch_in sized_part_in parted_in part_in choose_in
    contents_as all_in more_in list_in leaves.visible_within leaves.text_in leaves.fixed extent_of
    extent_within definite
fixed_read = refl

-- the list S of the association, with no scope
delete_read : (part_in 173 delete_request).reading 5
    (173 ∷ 5 ∷ 161 ∷ 3 ∷ 130 ∷ 1 ∷ 83 ∷ [])
    ≡ Ok (taken (delete_of (pos 0) (of_association (83 ∷ []) ∷ [])) 12 [])
unfolding delete_request deletion_scope set_names one_name domain_name identifier length_in gives
    then_in map_in branch_in sized_part_in parted_in part_in choose_in contents_as all_in more_in
    list_in leaves.visible_within leaves.text_in leaves.integer extent_of extent_within definite
delete_read = refl

-- all lists: what follows isn't looked at
all_read : (part_in 173 delete_request).reading 5
    (173 ∷ 5 ∷ 128 ∷ 1 ∷ 3 ∷ 255 ∷ 255 ∷ []) ≡ Ok (taken (delete_of (pos 3) []) 12 [])
unfolding delete_request deletion_scope set_names free one_name domain_name identifier length_in
    integer_in gives then_in map_in branch_in sized_part_in parted_in part_in choose_in contents_as
    all_in more_in list_in leaves.visible_within leaves.text_in leaves.integer extent_of
    extent_within definite
all_read = refl

-- none named
none_read : (part_in 173 delete_request).reading 5
    (173 ∷ 5 ∷ 128 ∷ 1 ∷ 0 ∷ 161 ∷ 0 ∷ []) ≡ Err (fault_at 12 whys.Short)
unfolding delete_request deletion_scope set_names free one_name domain_name identifier length_in
    integer_in gives then_in map_in branch_in sized_part_in parted_in part_in choose_in contents_as
    all_in more_in list_in leaves.visible_within leaves.text_in leaves.integer extent_of
    extent_within definite
none_read = refl

-- two were meant, and one was deleted
deleted_read : (part_in 173 delete_response).reading 5
    (173 ∷ 6 ∷ 128 ∷ 1 ∷ 2 ∷ 129 ∷ 1 ∷ 1 ∷ []) ≡ Ok (taken (deleted_of 2 1) 13 [])
unfolding delete_response length_in unsigned_in then_in map_in sized_part_in parted_in part_in
    all_in leaves.unsigned extent_of extent_within branch_in definite
deleted_read = refl
