-- The written form of an APDU: the shortest lengths and integers, and no element that may be absent
-- but the title, where there is one.
use Rattle.std.specs.Prelude.{◌≡◌, ◌≢◌, ℕ, ◌+◌, ◌<◌, ◌≤◌, ◌^◌, true, List, [], ◌∷◌, ◌++◌}
use Rattle.std.specs.Prelude.{length, pos}
use Rattle.std.specs.Prelude.{Option, Some, None, ◌==◌, if◌then◌else◌}
use Rattle.ber_values.specs.declared.fault.Span.{Span}
use Rattle.ber_values.specs.Oid.{IsOid}
use Rattle.ber_values.specs.Writing.{written, integer_octets, last_span}
use Rattle.ber_values.specs.Externals.{external_octets, is_wanted}
use Rattle.ber_values.specs.declared.external.External.{External}
use Rattle.acse_assoc.specs.declared.request.AssociateRequest.{AssociateRequest}
use Rattle.acse_assoc.specs.declared.response.AssociateResponse.{AssociateResponse}
use Rattle.acse_assoc.specs.declared.expected.Expected.{Expected}
use Rattle.acse_assoc.specs.Responses.{largest_result}
use Rattle.acse_assoc.specs.declared.apdu.Apdu.{Apdu}
use Rattle.acse_assoc.specs.declared.apdu.Apdu.TheVariants.{Aarq, Aare, Rlrq, Rlre, Abrt}
use Rattle.ber_values.specs.Externals.{external_of}

-- the user information of this context
abbrev pub user_information_octets : ℕ → List ℕ → List ℕ
user_information_octets id body = written 190 (written 40 (external_octets id body))

abbrev pub title_octets : Option (List ℕ) → List ℕ
title_octets None = []
title_octets (Some title) = written 166 (written 6 title)

abbrev pub aarq_contents : AssociateRequest → List ℕ → List ℕ
aarq_contents r body = written 161 (written 6 r.context)
    ++ (title_octets r.title ++ user_information_octets r.user.id body)

abbrev pub aarq_octets : AssociateRequest → List ℕ → List ℕ
aarq_octets r body = written 96 (aarq_contents r body)

-- iso standard 9506 part 2, the application context
abbrev pub mms_context : List ℕ
mms_context = 40 ∷ 202 ∷ 34 ∷ 2 ∷ 3 ∷ []

-- none where the result is 0, else no reason given
abbrev pub diagnosed : ℕ → ℕ
diagnosed result = if result == 0 then 0 else 1

-- the diagnostic of the service's user
abbrev pub diagnostic : ℕ → List ℕ
diagnostic result = 163 ∷ 5 ∷ 161 ∷ 3 ∷ 2 ∷ 1 ∷ diagnosed result ∷ []

abbrev pub some_user_octets : Option External → List ℕ → List ℕ
some_user_octets None body = []
some_user_octets (Some user) body = user_information_octets user.id body

abbrev pub aare_result_octets : ℕ → List ℕ
aare_result_octets result = written 162 (written 2 (integer_octets (pos result)))

abbrev pub aare_contents : AssociateResponse → List ℕ → List ℕ
aare_contents r body = written 161 (written 6 mms_context)
    ++ (aare_result_octets r.result ++ (diagnostic r.result ++ some_user_octets r.user body))

abbrev pub aare_octets : AssociateResponse → List ℕ → List ℕ
aare_octets r body = written 97 (aare_contents r body)

-- the reason: normal, or none
abbrev pub short_octets : ℕ → List ℕ
short_octets tag = tag ∷ 3 ∷ 128 ∷ 1 ∷ 0 ∷ []

abbrev pub apdu_octets : Apdu → List ℕ → List ℕ
apdu_octets (Aarq r) body = aarq_octets r body
apdu_octets (Aare r) body = aare_octets r body
apdu_octets Rlrq body = short_octets 98
apdu_octets Rlre body = short_octets 99
apdu_octets Abrt body = short_octets 100

-- the same user information, with its body in another place
abbrev pub moved : Span → External → External
moved body user = external_of user.id body

abbrev pub some_moved : Span → Option External → Option External
some_moved body None = None
some_moved body (Some user) = Some (moved body user)

-- the same APDU, with its body in another place
abbrev pub apdu_with_body : Span → Apdu → Apdu
apdu_with_body body (Aarq r) =
    Aarq (record { context = r.context; title = r.title; user = moved body r.user })
apdu_with_body body (Aare r) = Aare (record { result = r.result; user = some_moved body r.user })
apdu_with_body body apdu = apdu

-- the value that the written form spells, at a place
abbrev pub apdu_as_written : ℕ → Apdu → List ℕ → Apdu
apdu_as_written at apdu body =
    apdu_with_body (last_span (at + length (apdu_octets apdu body)) body) apdu

-- an accepted association has user information
abbrev pub HasUser : ℕ → Option External → Type 0
HasUser result None = result ≢ 0
HasUser result (Some user) = Unit {0}

abbrev pub IsWritableApdu : Apdu → Type 0
IsWritableApdu (Aare r) = HasUser r.result r.user
IsWritableApdu apdu = Unit {0}

-- what the types of a title and of user information keep
abbrev pub IsKeptTitle : Option (List ℕ) → Type 0
IsKeptTitle None = Unit {0}
IsKeptTitle (Some title) = IsOid title

abbrev pub IsSmall : Option External → Type 0
IsSmall None = Unit {0}
IsSmall (Some user) = user.id < 2 ^ 32

-- what the type of an APDU keeps
abbrev pub IsKeptApdu : Apdu → Type 0
IsKeptApdu (Aarq r) = IsOid r.context × (IsKeptTitle r.title × (r.user.id < 2 ^ 32))
IsKeptApdu (Aare r) = (r.result < 256) × IsSmall r.user
IsKeptApdu apdu = Unit {0}

-- the id is the one that is expected, if one is
abbrev pub IsOfId : Option ℕ → Option External → Type 0
IsOfId wanted None = Unit {0}
IsOfId wanted (Some user) = is_wanted wanted user.id ≡ true

-- an APDU has what is expected of it
abbrev pub IsExpectedApdu : Expected → Apdu → Type 0
IsExpectedApdu e (Aarq r) = is_wanted e.request_id r.user.id ≡ true
IsExpectedApdu e (Aare r) = (r.result ≤ largest_result e) × IsOfId e.response_id r.user
IsExpectedApdu e apdu = Unit {0}
