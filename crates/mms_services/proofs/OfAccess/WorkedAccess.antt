-- Services as control centres send them, computed.
use Rattle.std.proofs.Common.{◌≡◌, List, ℕ, [], ◌∷◌, Ok, Err, refl}
use Rattle.ber_values.specs.Tags.{length_in}
use Rattle.ber_values.specs.Grammars.{taken, then_in, map_in, branch_in}
use Rattle.ber_values.specs.Parts.{sized_part_in, parted_in, part_in, choose_in, contents_as, all_in}
use Rattle.ber_values.specs.Lists.{more_in, list_in}
use Rattle.ber_values.specs.Leaves.{text_in, visible_within}
use Rattle.ber_values.specs.Faults.{fault_at}
use Rattle.ber_values.specs.declared.fault.Why.TheVariants as whys
use Rattle.mms_data.specs.NameOctets.{identifier, domain_name, one_name, of_device, of_domain}
use Rattle.mms_services.specs.declared.access.spec.Spec.TheVariants as kinds
use Rattle.mms_services.specs.Access.Specifications.{sole_name, sole_variable, variable, variables}
use Rattle.mms_services.specs.Access.Specifications.{specification}
use Rattle.ber_values.specs.Heads.{extent_of, extent_within}
use Rattle.ber_values.specs.Extents.{definite}

-- the variables D/P and Q
two : List ℕ
two = 160 ∷ 19 ∷ 48 ∷ 10 ∷ 160 ∷ 8 ∷ 161 ∷ 6 ∷ 26 ∷ 1 ∷ 68 ∷ 26 ∷ 1 ∷ 80 ∷ 48 ∷ 5 ∷ 160 ∷ 3 ∷ 128 ∷ 1 ∷ 81 ∷ []

two_read : specification.reading 100 two
    ≡ Ok (taken (kinds.List (of_domain (68 ∷ []) (80 ∷ []) ∷ of_device (81 ∷ []) ∷ [])) 121 [])
unfolding two specification variables variable sole_variable sole_name one_name domain_name
    identifier visible_within text_in more_in list_in length_in then_in map_in branch_in
    sized_part_in parted_in part_in choose_in contents_as all_in extent_of extent_within definite
two_read = refl

-- no variables
none : List ℕ
none = 160 ∷ 0 ∷ []

none_read : specification.reading 100 none ≡ Err (fault_at 102 whys.Short)
unfolding none specification variables variable sole_variable sole_name one_name domain_name
    identifier visible_within text_in more_in list_in length_in then_in map_in branch_in
    sized_part_in parted_in part_in choose_in contents_as all_in extent_of extent_within definite
none_read = refl

-- a list by its name
set : List ℕ
set = 161 ∷ 3 ∷ 128 ∷ 1 ∷ 83 ∷ []

set_read : specification.reading 100 set ≡ Ok (taken (kinds.Set (of_device (83 ∷ []))) 105 [])
unfolding set specification variables variable sole_variable sole_name one_name domain_name
    identifier visible_within text_in more_in list_in length_in then_in map_in branch_in
    sized_part_in parted_in part_in choose_in contents_as all_in extent_of extent_within definite
set_read = refl
