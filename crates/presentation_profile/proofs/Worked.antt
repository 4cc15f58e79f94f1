-- Offers as a control centre sends them, computed.
use Rattle.std.proofs.Common.{◌≡◌, List, ℕ, [], ◌∷◌, true, Ok, Err, refl}
use Rattle.ber_values.specs.Tags.{length_in}
use Rattle.ber_values.specs.Numbers.{unsigned_in}
use Rattle.ber_values.specs.TextContents.{oid_in}
use Rattle.ber_values.specs.Grammars.{taken, then_in, map_in}
use Rattle.ber_values.specs.Parts.{sized_part_in, parted_in, part_in, contents_as, contents_where, all_in}
use Rattle.ber_values.specs.Lists.{more_in, list_in, count_in}
use Rattle.ber_values.specs.Leaves.{unsigned, unsigned_within, oid}
use Rattle.ber_values.specs.Faults.{fault_at}
use Rattle.ber_values.specs.declared.fault.Why.TheVariants as whys
use Rattle.presentation_profile.specs.Offers.{transfers, offered, offer_contents, offer, offers}
use Rattle.ber_values.specs.Heads.{extent_of, extent_within}
use Rattle.ber_values.specs.Extents.{definite}
use Rattle.ber_values.specs.Grammars.{branch_in}

two_offers : List ℕ
two_offers = 164 ∷ 35 ∷ 48 ∷ 15 ∷ 2 ∷ 1 ∷ 1 ∷ 6 ∷ 4 ∷ 82 ∷ 1 ∷ 0 ∷ 1 ∷ 48 ∷ 4 ∷ 6 ∷ 2 ∷ 81 ∷ 1
    ∷ 48 ∷ 16 ∷ 2 ∷ 1 ∷ 3 ∷ 6 ∷ 5 ∷ 40 ∷ 202 ∷ 34 ∷ 2 ∷ 1 ∷ 48 ∷ 4 ∷ 6 ∷ 2 ∷ 81 ∷ 1 ∷ []

two_offers_read : offers.reading 33 two_offers ≡ Ok (taken (offered 1 (82 ∷ 1 ∷ 0 ∷ 1 ∷ []) true ∷ offered 3 (40 ∷ 202 ∷ 34 ∷ 2 ∷ 1 ∷ []) true ∷ []) 70 [])
unfolding two_offers offers offer offer_contents transfers part_in parted_in sized_part_in length_in
    count_in list_in more_in all_in then_in map_in contents_as contents_where unsigned_within
    unsigned unsigned_in oid oid_in extent_of extent_within branch_in definite
two_offers_read = refl

-- an empty list of offers ends where one is wanted
no_offers_read : offers.reading 33 (164 ∷ 0 ∷ 97 ∷ []) ≡ Err (fault_at 35 whys.Short)
unfolding offers part_in parted_in sized_part_in length_in count_in more_in extent_of extent_within
    branch_in definite
no_offers_read = refl
