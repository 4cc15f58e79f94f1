-- Reading APDUs is exact.
use Rattle.std.proofs.Common.{ℕ, Option}
use Rattle.acse_assoc.specs.declared.expected.Expected.{Expected}
use Rattle.ber_values.specs.Grammars.{IsGrammar}
use Rattle.ber_values.specs.Parts.{IsContentsGrammar}
use Rattle.ber_values.specs.Leaves.{oid}
use Rattle.ber_values.proofs.Grammars.{then_reads, map_reads, part_reads, choose_reads}
use Rattle.ber_values.proofs.Grammars.{as_reads, all_reads, whole_reads}
use Rattle.ber_values.proofs.Leaves.{oid_contents, unsigned_within_contents, raw_contents}
use Rattle.ber_values.proofs.Externals.{external_contents}
use Rattle.acse_assoc.specs.Users.{user_information}
use Rattle.acse_assoc.specs.Requests.{one_oid, context_name, calling_title, user_last, request}
use Rattle.acse_assoc.specs.Responses.{context_passed, result_number, result_next, user_of_result}
use Rattle.acse_assoc.specs.Responses.{some_user_last, response}
use Rattle.acse_assoc.specs.Apdus.{one_apdu, apdu}
use Rattle.acse_assoc.proofs.RisingReads.{either_reads, rising_reads, named_reads, perhaps_reads}
use Rattle.acse_assoc.proofs.RisingReads.{attempt_reads}

pub user_contents : (id : Option ℕ) → IsContentsGrammar (user_information id)
unfolding user_information
user_contents id = all_reads _ (part_reads 40 _ (external_contents id))

pub one_oid_contents : IsContentsGrammar one_oid
unfolding one_oid
one_oid_contents = all_reads _ (part_reads 6 oid oid_contents)

context_name_reads : IsGrammar context_name
unfolding context_name
context_name_reads =
    then_reads _ _ (rising_reads _ _) (λ least. named_reads _ _ one_oid_contents least)

calling_title_reads : IsGrammar calling_title
unfolding calling_title
calling_title_reads = then_reads _ _ (rising_reads _ _) (λ least.
    map_reads _ _ (perhaps_reads _ _ (attempt_reads _ one_oid_contents) least))

user_last_reads : (e : Expected) (from : ℕ) → IsGrammar (user_last e from)
unfolding user_last
user_last_reads e from = then_reads _ _ (rising_reads _ _) (λ least.
    then_reads _ _ (named_reads _ _ (user_contents e.request_id) least) (λ user.
    map_reads _ _ (rising_reads _ _)))

pub request_contents : (e : Expected) → IsContentsGrammar (request e)
unfolding request
request_contents e = all_reads _
    (then_reads _ _ context_name_reads (λ context.
    then_reads _ _ calling_title_reads (λ t.
    map_reads _ _ (user_last_reads e _))))

context_passed_reads : IsGrammar context_passed
unfolding context_passed
context_passed_reads = then_reads _ _ (rising_reads _ _) (λ least.
    map_reads _ _ (perhaps_reads _ _ one_oid_contents least))

one_result_contents : (e : Expected) → IsContentsGrammar (result_number e)
unfolding result_number
one_result_contents e = all_reads _ (part_reads 2 _ (unsigned_within_contents 0 _))

result_next_reads : (e : Expected) (from : ℕ) → IsGrammar (result_next e from)
unfolding result_next
result_next_reads e from =
    then_reads _ _ (rising_reads _ _) (λ least.
    named_reads _ _ (one_result_contents e) least)

user_of_result_reads : (e : Expected) (result least : ℕ)
    → IsGrammar (user_of_result e result least)
unfolding user_of_result
user_of_result_reads e result least = either_reads _ _ _
    (map_reads _ _ (named_reads _ _ (user_contents e.response_id) least))
    (perhaps_reads _ _ (user_contents e.response_id) least)

some_user_last_reads : (e : Expected) (result : ℕ) → IsGrammar (some_user_last e result)
unfolding some_user_last
some_user_last_reads e result = then_reads _ _ (rising_reads _ _) (λ least.
    then_reads _ _ (user_of_result_reads e result least) (λ user.
    map_reads _ _ (rising_reads _ _)))

pub response_contents : (e : Expected) → IsContentsGrammar (response e)
unfolding response
response_contents e = all_reads _
    (then_reads _ _ context_passed_reads (λ least.
    then_reads _ _ (result_next_reads e least) (λ result.
    map_reads _ _ (some_user_last_reads e result))))

one_apdu_reads : (e : Expected) → IsGrammar (one_apdu e)
unfolding one_apdu
one_apdu_reads e =
    choose_reads 96 _ _ (as_reads _ _ (request_contents e))
    (choose_reads 97 _ _ (as_reads _ _ (response_contents e))
    (choose_reads 98 _ _ (as_reads _ _ raw_contents)
    (choose_reads 99 _ _ (as_reads _ _ raw_contents)
    (part_reads 100 _ (as_reads _ _ raw_contents)))))

pub apdu_reads : (e : Expected) → IsGrammar (apdu e)
unfolding apdu
apdu_reads e = whole_reads (one_apdu e) (one_apdu_reads e)
