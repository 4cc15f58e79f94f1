-- APDUs as control centres send them, computed.
use Rattle.std.proofs.Common.{◌≡◌, false, List, ℕ, [], ◌∷◌, Some, None, Ok, Err, refl}
use Rattle.ber_values.specs.Tags.{length_in, tag_in}
use Rattle.ber_values.specs.Heads.{head_in}
use Rattle.ber_values.specs.Numbers.{unsigned_in}
use Rattle.ber_values.specs.TextContents.{oid_in}
use Rattle.ber_values.specs.Grammars.{taken, gives, then_in, map_in, branch_in, refused, by_length}
use Rattle.ber_values.specs.Passing.{skip}
use Rattle.ber_values.specs.Parts.{sized_part_in, parted_in, part_in, choose_in, maybe_in, contents_as}
use Rattle.ber_values.specs.Parts.{contents_where, whole_in, all_in}
use Rattle.ber_values.specs.Leaves.{unsigned, unsigned_within, oid, span, raw}
use Rattle.ber_values.specs.Faults.{fault_at}
use Rattle.ber_values.specs.declared.fault.Why.TheVariants as whys
use Rattle.acse_assoc.specs.declared.apdu.Apdu.TheVariants.{Aarq}
use Rattle.acse_assoc.specs.Rising.{by_tag, rising_within, rising_in, named_in, perhaps_in, attempt}
use Rattle.acse_assoc.specs.declared.expected.Expected.{Expected}
use Rattle.ber_values.specs.Externals.{external_of, external}
use Rattle.acse_assoc.specs.Users.{user_information}
use Rattle.acse_assoc.specs.Requests.{one_oid, context_name, calling_title, user_last, request}
use Rattle.acse_assoc.specs.Responses.{context_passed, result_number, result_next, user_of_result}
use Rattle.acse_assoc.specs.Responses.{some_user_last, response}
use Rattle.acse_assoc.specs.Apdus.{one_apdu, apdu}
use Rattle.ber_values.specs.Heads.{head_by, element_by, extent_of, extent_within}
use Rattle.ber_values.specs.Extents.{definite}

abbrev pub any : Expected
any = record { request_id = None; response_id = None; accepted = false }

-- an AARQ with a title, an element that counts for nothing, and four octets of user data
asked : List ℕ
asked = 96 ∷ 39 ∷ 161 ∷ 7 ∷ 6 ∷ 5 ∷ 40 ∷ 202 ∷ 34 ∷ 2 ∷ 3 ∷ 166 ∷ 6 ∷ 6 ∷ 4 ∷ 41 ∷ 135 ∷ 103 ∷ 1
    ∷ 167 ∷ 3 ∷ 2 ∷ 1 ∷ 12 ∷ 190 ∷ 15 ∷ 40 ∷ 13 ∷ 6 ∷ 2 ∷ 81 ∷ 1 ∷ 2 ∷ 1 ∷ 3 ∷ 160 ∷ 4 ∷ 168 ∷ 2 ∷ 128 ∷ 0 ∷ []

asked_read : (apdu any).reading 100 asked ≡ Ok (taken (Aarq (record {
  context = 40 ∷ 202 ∷ 34 ∷ 2 ∷ 3 ∷ [];
  title = Some (41 ∷ 135 ∷ 103 ∷ 1 ∷ []);
  user = external_of 3 (record { from = 137; to = 141 });
})) 141 [])
unfolding asked apdu one_apdu whole_in request one_oid context_name calling_title user_last external
    user_information by_tag rising_within rising_in named_in perhaps_in attempt tag_in length_in
    head_in unsigned_in oid_in gives then_in map_in branch_in refused skip by_length sized_part_in
    parted_in part_in choose_in maybe_in contents_as contents_where all_in unsigned unsigned_within
    oid span raw extent_of extent_within definite head_by element_by
asked_read = refl

-- an AARE, accepted, without user information
bare : List ℕ
bare = 97 ∷ 5 ∷ 162 ∷ 3 ∷ 2 ∷ 1 ∷ 0 ∷ []

bare_read : (apdu any).reading 0 bare ≡ Err (fault_at 7 whys.Short)
unfolding bare apdu one_apdu whole_in response one_oid context_passed result_number result_next
    user_of_result some_user_last external user_information by_tag rising_within rising_in named_in
    perhaps_in tag_in length_in head_in unsigned_in oid_in gives then_in map_in branch_in refused
    skip by_length sized_part_in parted_in part_in choose_in maybe_in contents_as contents_where
    all_in unsigned unsigned_within oid span raw extent_of extent_within definite head_by element_by
bare_read = refl
