-- What is asked and told of types of variables, computed.
use Rattle.std.proofs.Common.{◌≡◌, [], ◌∷◌, Ok, Err, refl}
use Rattle.ber_values.specs.declared.fault.Why.TheVariants as whys
use Rattle.ber_values.specs.Faults.{fault_at}
use Rattle.ber_values.specs.Tags.{length_in}
use Rattle.ber_values.specs.Numbers.{integer_in, unsigned_in}
use Rattle.ber_values.specs.Booleans.{boolean_in}
use Rattle.ber_values.specs.Grammars.{taken, gives, then_in, map_in, branch_in, refused}
use Rattle.ber_values.specs.Parts.{sized_part_in, parted_in, part_in, choose_in, maybe_in}
use Rattle.ber_values.specs.Parts.{contents_as, contents_where, all_in}
use Rattle.ber_values.specs.Lists.{more_in, list_in}
use Rattle.ber_values.specs.Leaves as leaves
use Rattle.ber_values.specs.Heads.{extent_of, extent_within}
use Rattle.ber_values.specs.Extents.{definite}
use Rattle.ber_values.specs.Writing.{length_octets, integer_octets}
use Rattle.mms_data.specs.NameOctets.{identifier, of_domain, domain_name, one_name}
use Rattle.mms_data.specs.Types.TypeShape.{TypeShape, bool_shape, bits_shape, int_shape}
use Rattle.mms_data.specs.Types.TypeShape.{uint_shape, real_shape, text_shape, structure_shape}
use Rattle.mms_data.specs.Types.TypeShape.{no_shapes, shapes}
use Rattle.mms_data.specs.Types.ShapeOctets.{shape_size, signed_size, real_parts, plain_shape}
use Rattle.mms_data.specs.Types.ShapeOctets.{passed_once, marked_in, component_in, shape_within}
use Rattle.mms_data.specs.Types.ShapeOctets.{one_shape, sole_shape}
use Rattle.mms_data.specs.Types.ShapeWritten.{real_parts_octets}
use Rattle.mms_services.specs.Access.Specifications.{sole_name, sole_variable}
use Rattle.mms_services.specs.Access.TypesOf.{type_asked, type_request, type_told, type_response}
use Rattle.mms_services.specs.Access.TypesOf.{type_request_octets, undeletable_octets}
use Rattle.mms_services.specs.Access.TypesOf.{type_response_octets}

-- ---- what is written

asked_written :
    type_request_octets (type_asked (of_domain (68 ∷ 79 ∷ 77 ∷ 65 ∷ []) (66 ∷ 85 ∷ 83 ∷ 49 ∷ [])))
    ≡ 160 ∷ 14 ∷ 161 ∷ 12 ∷ 26 ∷ 4 ∷ 68 ∷ 79 ∷ 77 ∷ 65 ∷ 26 ∷ 4 ∷ 66 ∷ 85 ∷ 83 ∷ 49 ∷ []
unfolding type_request_octets length_octets
asked_written = refl

bits_written : type_response_octets (type_told (bits_shape 8))
    ≡ 128 ∷ 1 ∷ 0 ∷ 162 ∷ 3 ∷ 132 ∷ 1 ∷ 8 ∷ []
unfolding type_response_octets undeletable_octets length_octets integer_octets
bits_written = refl

real_written : type_response_octets (type_told real_shape)
    ≡ 128 ∷ 1 ∷ 0 ∷ 162 ∷ 8 ∷ 167 ∷ 6 ∷ 2 ∷ 1 ∷ 32 ∷ 2 ∷ 1 ∷ 8 ∷ []
unfolding type_response_octets undeletable_octets real_parts_octets length_octets
real_written = refl

-- ---- what octets are read as

abbrev one_more : TypeShape → TypeShape
one_more s = structure_shape (shapes s no_shapes)

worked :
    -- the bus of the domain DOMA is asked for
    ((part_in 166 type_request).reading 5
    (166 ∷ 16 ∷ 160 ∷ 14 ∷ 161 ∷ 12 ∷ 26 ∷ 4 ∷ 68 ∷ 79 ∷ 77 ∷ 65 ∷ 26 ∷ 4 ∷ 66 ∷ 85 ∷ 83 ∷ 49 ∷
    [])
    ≡ Ok (taken (type_asked (of_domain (68 ∷ 79 ∷ 77 ∷ 65 ∷ []) (66 ∷ 85 ∷ 83 ∷ 49 ∷ []))) 23 [])) ×
    -- an address in the place of a name
    ((part_in 166 type_request).reading 5
    (166 ∷ 5 ∷ 161 ∷ 3 ∷ 128 ∷ 1 ∷ 65 ∷ [])
    ≡ Err (fault_at 7 whys.Tag)) ×
    -- no name
    ((part_in 166 type_request).reading 5
    (166 ∷ 0 ∷ [])
    ≡ Err (fault_at 7 whys.Short)) ×
    -- eight bits
    ((part_in 166 type_response).reading 5
    (166 ∷ 8 ∷ 128 ∷ 1 ∷ 0 ∷ 162 ∷ 3 ∷ 132 ∷ 1 ∷ 8 ∷ [])
    ≡ Ok (taken (type_told (bits_shape 8)) 15 [])) ×
    -- eight bits or fewer
    ((part_in 166 type_response).reading 5
    (166 ∷ 8 ∷ 128 ∷ 1 ∷ 0 ∷ 162 ∷ 3 ∷ 132 ∷ 1 ∷ 248 ∷ [])
    ≡ Ok (taken (type_told (bits_shape 8)) 15 [])) ×
    -- as many bits as may be
    ((part_in 166 type_response).reading 5
    (166 ∷ 9 ∷ 128 ∷ 1 ∷ 0 ∷ 162 ∷ 4 ∷ 132 ∷ 2 ∷ 255 ∷ 1 ∷ [])
    ≡ Ok (taken (type_told (bits_shape 255)) 16 [])) ×
    -- a number with a fraction
    ((part_in 166 type_response).reading 5
    (166 ∷ 13 ∷ 128 ∷ 1 ∷ 0 ∷ 162 ∷ 8 ∷ 167 ∷ 6 ∷ 2 ∷ 1 ∷ 32 ∷ 2 ∷ 1 ∷ 8 ∷ [])
    ≡ Ok (taken (type_told real_shape) 20 [])) ×
    -- text of at most 64 octets
    ((part_in 166 type_response).reading 5
    (166 ∷ 8 ∷ 128 ∷ 1 ∷ 0 ∷ 162 ∷ 3 ∷ 138 ∷ 1 ∷ 192 ∷ [])
    ≡ Ok (taken (type_told (text_shape 64)) 15 [])) ×
    -- no components
    ((part_in 166 type_response).reading 5
    (166 ∷ 9 ∷ 128 ∷ 1 ∷ 0 ∷ 162 ∷ 4 ∷ 162 ∷ 2 ∷ 161 ∷ 0 ∷ [])
    ≡ Ok (taken (type_told (structure_shape no_shapes)) 16 [])) ×
    -- two components
    ((part_in 166 type_response).reading 5
    (166 ∷ 23 ∷ 128 ∷ 1 ∷ 0 ∷ 162 ∷ 18 ∷ 162 ∷ 16 ∷ 161 ∷ 14 ∷ 48 ∷ 5 ∷ 161 ∷ 3 ∷ 133 ∷ 1 ∷ 32
    ∷ 48 ∷ 5 ∷ 161 ∷ 3 ∷ 134 ∷ 1 ∷ 16 ∷ [])
    ≡ Ok (taken
    (type_told (structure_shape (shapes (int_shape 32) (shapes (uint_shape 16) no_shapes)))) 30
    [])) ×
    -- marks before a structure and before a component
    ((part_in 166 type_response).reading 5
    (166 ∷ 22 ∷ 128 ∷ 1 ∷ 0 ∷ 162 ∷ 17 ∷ 162 ∷ 15 ∷ 128 ∷ 1 ∷ 0 ∷ 161 ∷ 10 ∷ 48 ∷ 8 ∷ 128 ∷ 2 ∷
    65 ∷ 66 ∷ 161 ∷ 2 ∷ 131 ∷ 0 ∷ [])
    ≡ Ok (taken (type_told (one_more bool_shape)) 29 [])) ×
    -- an address before the type
    ((part_in 166 type_response).reading 5
    (166 ∷ 12 ∷ 128 ∷ 1 ∷ 255 ∷ 161 ∷ 3 ∷ 128 ∷ 1 ∷ 65 ∷ 162 ∷ 2 ∷ 131 ∷ 0 ∷ [])
    ≡ Ok (taken (type_told bool_shape) 19 [])) ×
    -- no bits
    ((part_in 166 type_response).reading 5
    (166 ∷ 8 ∷ 128 ∷ 1 ∷ 0 ∷ 162 ∷ 3 ∷ 132 ∷ 1 ∷ 0 ∷ [])
    ≡ Err (fault_at 14 whys.Value)) ×
    -- 256 bits or fewer
    ((part_in 166 type_response).reading 5
    (166 ∷ 9 ∷ 128 ∷ 1 ∷ 0 ∷ 162 ∷ 4 ∷ 132 ∷ 2 ∷ 255 ∷ 0 ∷ [])
    ≡ Err (fault_at 14 whys.Value)) ×
    -- an integer of fewer bits than none
    ((part_in 166 type_response).reading 5
    (166 ∷ 8 ∷ 128 ∷ 1 ∷ 0 ∷ 162 ∷ 3 ∷ 133 ∷ 1 ∷ 240 ∷ [])
    ≡ Err (fault_at 14 whys.Value)) ×
    -- a fraction of another width
    ((part_in 166 type_response).reading 5
    (166 ∷ 13 ∷ 128 ∷ 1 ∷ 0 ∷ 162 ∷ 8 ∷ 167 ∷ 6 ∷ 2 ∷ 1 ∷ 33 ∷ 2 ∷ 1 ∷ 8 ∷ [])
    ≡ Err (fault_at 16 whys.Value)) ×
    -- contents of a boolean
    ((part_in 166 type_response).reading 5
    (166 ∷ 8 ∷ 128 ∷ 1 ∷ 0 ∷ 162 ∷ 3 ∷ 131 ∷ 1 ∷ 0 ∷ [])
    ≡ Err (fault_at 13 whys.Length)) ×
    -- components without what holds them
    ((part_in 166 type_response).reading 5
    (166 ∷ 9 ∷ 128 ∷ 1 ∷ 0 ∷ 162 ∷ 4 ∷ 162 ∷ 2 ∷ 48 ∷ 0 ∷ [])
    ≡ Err (fault_at 14 whys.Tag)) ×
    -- an array
    ((part_in 166 type_response).reading 5
    (166 ∷ 7 ∷ 128 ∷ 1 ∷ 0 ∷ 162 ∷ 2 ∷ 161 ∷ 0 ∷ [])
    ≡ Err (fault_at 12 whys.Tag)) ×
    -- another kind
    ((part_in 166 type_response).reading 5
    (166 ∷ 8 ∷ 128 ∷ 1 ∷ 0 ∷ 162 ∷ 3 ∷ 139 ∷ 1 ∷ 8 ∷ [])
    ≡ Err (fault_at 12 whys.Tag)) ×
    -- another tag for the mark of deletion
    ((part_in 166 type_response).reading 5
    (166 ∷ 7 ∷ 129 ∷ 1 ∷ 0 ∷ 162 ∷ 2 ∷ 131 ∷ 0 ∷ [])
    ≡ Err (fault_at 7 whys.Tag)) ×
    -- the type first
    ((part_in 166 type_response).reading 5
    (166 ∷ 7 ∷ 162 ∷ 2 ∷ 131 ∷ 0 ∷ 128 ∷ 1 ∷ 0 ∷ [])
    ≡ Err (fault_at 7 whys.Tag)) ×
    -- no type
    ((part_in 166 type_response).reading 5
    (166 ∷ 3 ∷ 128 ∷ 1 ∷ 0 ∷ [])
    ≡ Err (fault_at 10 whys.Short)) ×
    -- something behind the type
    ((part_in 166 type_response).reading 5
    (166 ∷ 9 ∷ 128 ∷ 1 ∷ 0 ∷ 162 ∷ 2 ∷ 131 ∷ 0 ∷ 131 ∷ 0 ∷ [])
    ≡ Err (fault_at 14 whys.Tag)) ×
    -- something behind the type, within its element
    ((part_in 166 type_response).reading 5
    (166 ∷ 9 ∷ 128 ∷ 1 ∷ 0 ∷ 162 ∷ 4 ∷ 131 ∷ 0 ∷ 131 ∷ 0 ∷ [])
    ≡ Err (fault_at 14 whys.Tag)) ×
    -- five levels
    ((part_in 166 type_response).reading 5
    (166 ∷ 41 ∷ 128 ∷ 1 ∷ 0 ∷ 162 ∷ 36 ∷ 162 ∷ 34 ∷ 161 ∷ 32 ∷ 48 ∷ 30 ∷ 161 ∷ 28 ∷ 162 ∷ 26 ∷
    161 ∷ 24 ∷ 48 ∷ 22 ∷ 161 ∷ 20 ∷ 162 ∷ 18 ∷ 161 ∷ 16 ∷ 48 ∷ 14 ∷ 161 ∷ 12 ∷ 162 ∷ 10 ∷ 161 ∷
    8 ∷ 48 ∷ 6 ∷ 161 ∷ 4 ∷ 162 ∷ 2 ∷ 161 ∷ 0 ∷ [])
    ≡ Ok (taken
    (type_told (one_more (one_more (one_more (one_more (structure_shape no_shapes)))))) 48 [])) ×
    -- six levels
    ((part_in 166 type_response).reading 5
    (166 ∷ 47 ∷ 128 ∷ 1 ∷ 0 ∷ 162 ∷ 42 ∷ 162 ∷ 40 ∷ 161 ∷ 38 ∷ 48 ∷ 36 ∷ 161 ∷ 34 ∷ 162 ∷ 32 ∷
    161 ∷ 30 ∷ 48 ∷ 28 ∷ 161 ∷ 26 ∷ 162 ∷ 24 ∷ 161 ∷ 22 ∷ 48 ∷ 20 ∷ 161 ∷ 18 ∷ 162 ∷ 16 ∷ 161 ∷
    14 ∷ 48 ∷ 12 ∷ 161 ∷ 10 ∷ 162 ∷ 8 ∷ 161 ∷ 6 ∷ 48 ∷ 4 ∷ 161 ∷ 2 ∷ 131 ∷ 0 ∷ [])
    ≡ Err (fault_at 52 whys.Tag)) ×
    -- six levels, the last of them empty
    ((part_in 166 type_response).reading 5
    (166 ∷ 49 ∷ 128 ∷ 1 ∷ 0 ∷ 162 ∷ 44 ∷ 162 ∷ 42 ∷ 161 ∷ 40 ∷ 48 ∷ 38 ∷ 161 ∷ 36 ∷ 162 ∷ 34 ∷
    161 ∷ 32 ∷ 48 ∷ 30 ∷ 161 ∷ 28 ∷ 162 ∷ 26 ∷ 161 ∷ 24 ∷ 48 ∷ 22 ∷ 161 ∷ 20 ∷ 162 ∷ 18 ∷ 161 ∷
    16 ∷ 48 ∷ 14 ∷ 161 ∷ 12 ∷ 162 ∷ 10 ∷ 161 ∷ 8 ∷ 48 ∷ 6 ∷ 161 ∷ 4 ∷ 162 ∷ 2 ∷ 161 ∷ 0 ∷ [])
    ≡ Err (fault_at 52 whys.Tag))
unfolding type_request type_response sole_variable sole_name one_name domain_name identifier
    passed_once sole_shape one_shape shape_within plain_shape signed_size shape_size real_parts
    marked_in component_in length_in integer_in unsigned_in gives then_in map_in branch_in refused
    sized_part_in parted_in part_in choose_in maybe_in contents_as contents_where all_in more_in
    list_in leaves.visible_within leaves.text_in leaves.boolean boolean_in leaves.integer
    leaves.unsigned leaves.unsigned_within leaves.raw leaves.fixed extent_of extent_within definite
worked = (
  refl,
  refl,
  refl,
  refl,
  refl,
  refl,
  refl,
  refl,
  refl,
  refl,
  refl,
  refl,
  refl,
  refl,
  refl,
  refl,
  refl,
  refl,
  refl,
  refl,
  refl,
  refl,
  refl,
  refl,
  refl,
  refl,
  refl,
  refl,
)
