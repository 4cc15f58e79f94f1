-- AARE (ISO 8650-1, AARE-apdu): its elements rise, and those that count for nothing are passed
-- over.
use Rattle.std.specs.Prelude.{ℕ, ◌+◌, ◌==◌, Option, Some, if◌then◌else◌}
use Rattle.ber_values.specs.Grammars.{Grammar, then_in, map_in}
use Rattle.ber_values.specs.Parts.{Contents, part_in, all_in}
use Rattle.ber_values.specs.Leaves.{unsigned_within}
use Rattle.acse_assoc.specs.declared.numbers.TheConstants.{CONTEXT_NAME, RESULT, LARGEST_RESULT}
use Rattle.acse_assoc.specs.declared.numbers.TheConstants.{USER_INFORMATION, LARGEST_NUMBER}
use Rattle.acse_assoc.specs.declared.response.AssociateResponse.{AssociateResponse}
use Rattle.ber_values.specs.declared.external.External.{External}
use Rattle.acse_assoc.specs.declared.expected.Expected.{Expected}
use Rattle.acse_assoc.specs.Rising.{rising_in, named_in, perhaps_in, least_after, either_in}
use Rattle.acse_assoc.specs.Users.{user_information}
use Rattle.acse_assoc.specs.Requests.{one_oid}

-- the application context's name, if it is there; the least number that may follow
unfoldable pub context_passed : Grammar ℕ
context_passed = then_in (rising_in CONTEXT_NAME 0) (λ least.
    map_in (least_after CONTEXT_NAME least) (perhaps_in CONTEXT_NAME one_oid least))

-- an accepting result is 0
abbrev pub largest_result : Expected → ℕ
largest_result e = if e.accepted then 0 else LARGEST_RESULT

-- a number from 0 to 255, alone
unfoldable pub result_number : Expected → Contents ℕ
result_number e = all_in (part_in 2 (unsigned_within 0 (largest_result e)))

unfoldable pub result_next : Expected → ℕ → Grammar ℕ
result_next e from =
    then_in (rising_in RESULT from) (λ least. named_in RESULT (result_number e) least)

-- where the association is accepted there is user information, else perhaps
unfoldable pub user_of_result : Expected → ℕ → ℕ → Grammar (Option External)
user_of_result e result least = either_in (result == 0)
    (map_in Some (named_in USER_INFORMATION (user_information e.response_id) least))
    (perhaps_in USER_INFORMATION (user_information e.response_id) least)

-- the user information, and the elements after it
unfoldable pub some_user_last : Expected → ℕ → Grammar (Option External)
some_user_last e result = then_in (rising_in USER_INFORMATION (RESULT + 1)) (λ least.
    then_in (user_of_result e result least) (λ user.
    map_in (λ last. user)
    (rising_in LARGEST_NUMBER (least_after USER_INFORMATION least user))))

abbrev pub aare_of : ℕ → Option External → AssociateResponse
aare_of result user = record { result = result; user = user }

unfoldable pub response : Expected → Contents AssociateResponse
response e = all_in
    (then_in context_passed (λ least.
    then_in (result_next e least) (λ result.
    map_in (aare_of result) (some_user_last e result))))
