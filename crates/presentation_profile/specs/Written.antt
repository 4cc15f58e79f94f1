-- The written form of PPDUs: the shortest lengths, and the elements in the standard's order.
use Rattle.std.specs.Prelude.{◌≡◌, ℕ, ◌+◌, ◌^◌, ◌<◌, ◌≤◌, true, List, [], ◌∷◌, ◌++◌, length}
use Rattle.std.specs.Prelude.{flat_map, Option, Some, None, pos, ◌==◌, if◌then◌else◌}
use Rattle.std.specs.List.{All}
use Rattle.ber_values.specs.declared.fault.Span.{Span}
use Rattle.ber_values.specs.Oid.{IsOid}
use Rattle.ber_values.specs.Externals.{external_octets, is_wanted}
use Rattle.ber_values.specs.Lengths.{part_size}
use Rattle.ber_values.specs.Writing.{head_octets, written, integer_octets, last_span}
use Rattle.tpkt_cotp.specs.Selectors.{HasSelector}
use Rattle.presentation_profile.specs.declared.expected.Expected.{Expected}
use Rattle.presentation_profile.specs.Expecting.{connect_id, accept_id, carry_id, are_judged}
use Rattle.presentation_profile.specs.declared.offers.Offered.{Offered}
use Rattle.presentation_profile.specs.declared.offers.TheConstants.{MOST_OFFERS, LARGEST_ID}
use Rattle.presentation_profile.specs.declared.ppdu.Ppdu.{Ppdu}
use Rattle.presentation_profile.specs.declared.ppdu.Ppdu.TheVariants.{Connect, Accept, Carry}

-- BER's name, as the only transfer syntax
unfoldable pub ber_octets : List ℕ
ber_octets = written 48 (written 6 (81 ∷ 1 ∷ []))

-- an id, the abstract syntax's name, and BER
unfoldable pub offered_octets : Offered → List ℕ
offered_octets o =
    written 2 (integer_octets (pos o.id)) ++ (written 6 o.abstract_name ++ ber_octets)

unfoldable pub offer_octets : Offered → List ℕ
offer_octets o = written 48 (offered_octets o)

unfoldable pub offers_octets : List Offered → List ℕ
offers_octets os = written 164 (flat_map offer_octets os)

-- an id that may be offered, and BER
abbrev pub IsOffered : Offered → Type 0
IsOffered o = (1 ≤ o.id) × ((o.id ≤ LARGEST_ID) × (o.ber ≡ true))

-- 1 to 16 offers, each with BER
pub record AreOffers (os : List Offered) : Type 0 where
  pub some : 1 ≤ length os
  pub few : length os ≤ MOST_OFFERS
  pub each : All IsOffered os

-- a value of the context with this id
unfoldable pub user_octets : ℕ → List ℕ → List ℕ
user_octets id body = written 97 (written 48 (external_octets id body))

-- the context is accepted, with BER
unfoldable pub accepted_octets : List ℕ
accepted_octets = written 48 (written 128 (0 ∷ []) ++ written 129 (81 ∷ 1 ∷ []))

-- the context isn't accepted
unfoldable pub refused_octets : ℕ → List ℕ
refused_octets result = written 48 (written 128 (result ∷ []))

abbrev pub result_octets : ℕ → List ℕ
result_octets result = if result == 0 then accepted_octets else refused_octets result

unfoldable pub results_octets : List ℕ → List ℕ
results_octets found = written 165 (flat_map result_octets found)

-- a selector of this tag, if there is one
abbrev pub selector_element_octets : ℕ → Option (List ℕ) → List ℕ
selector_element_octets tag None = []
selector_element_octets tag (Some selector) = written tag selector

-- the calling selector, which is 00 00 00 01
unfoldable pub calling_octets : List ℕ
calling_octets = written 129 (0 ∷ 0 ∷ 0 ∷ 1 ∷ [])

unfoldable pub connect_ppdu_octets : Option (List ℕ) → List Offered → ℕ → List ℕ → List ℕ
connect_ppdu_octets called contexts id body = calling_octets
    ++ (selector_element_octets 130 called ++ (offers_octets contexts ++ user_octets id body))

unfoldable pub accept_ppdu_octets : Option (List ℕ) → List ℕ → ℕ → List ℕ → List ℕ
accept_ppdu_octets called found id body =
    selector_element_octets 131 called ++ (results_octets found ++ user_octets id body)

-- the normal mode
unfoldable pub mode_octets : List ℕ
mode_octets = written 160 (written 128 (1 ∷ []))

-- the mode, and these parameters
unfoldable pub set_up_octets : List ℕ → List ℕ
set_up_octets contents = written 49 (mode_octets ++ written 162 contents)

-- what stands before parameters of so many octets
unfoldable pub ppdu_front_octets : ℕ → List ℕ
ppdu_front_octets len = head_octets 49 (length mode_octets + part_size len)
    ++ (mode_octets ++ head_octets 162 len)

-- a PPDU with these octets as its body
abbrev pub ppdu_octets : Ppdu → List ℕ → List ℕ
ppdu_octets (Connect called contexts id _) body =
    set_up_octets (connect_ppdu_octets called contexts id body)
ppdu_octets (Accept called found id _) body =
    set_up_octets (accept_ppdu_octets called found id body)
ppdu_octets (Carry id _) body = user_octets id body

-- what may be written: lawful offers, and at most 16 results
abbrev pub IsWritablePpdu : Ppdu → Type 0
IsWritablePpdu (Connect called contexts id _) = AreOffers contexts
IsWritablePpdu (Accept called found id _) = length found ≤ MOST_OFFERS
IsWritablePpdu (Carry id _) = Unit {0}

-- the same PPDU, with its body in another place
abbrev pub ppdu_with_body : Span → Ppdu → Ppdu
ppdu_with_body span (Connect called contexts id _) = Connect called contexts id span
ppdu_with_body span (Accept called found id _) = Accept called found id span
ppdu_with_body span (Carry id _) = Carry id span

-- the value that the written form spells at a place
abbrev pub ppdu_as_written : ℕ → Ppdu → List ℕ → Ppdu
ppdu_as_written at p body =
    ppdu_with_body (last_span (at + length (ppdu_octets p body)) body) p

-- what the types of a PPDU's parts hold
abbrev pub IsKeptPpdu : Ppdu → Type 0
IsKeptPpdu (Connect called contexts id _) = HasSelector called
    × (All (λ o. IsOid o.abstract_name) contexts × (id < 2 ^ 32))
IsKeptPpdu (Accept called found id _) = HasSelector called × (id < 2 ^ 32)
IsKeptPpdu (Carry id _) = id < 2 ^ 32

-- the first two results accept
abbrev pub AreAccepting : List ℕ → Type 0
AreAccepting found = (others : List ℕ) × (found ≡ 0 ∷ 0 ∷ others)

-- what is expected of a PPDU of its kind
abbrev pub IsExpectedPpdu : Expected → Ppdu → Type 0
IsExpectedPpdu e (Connect called contexts id _) = is_wanted (connect_id e contexts) id ≡ true
IsExpectedPpdu e (Accept called found id _) =
    (is_wanted (accept_id e) id ≡ true) × (are_judged e ≡ true → AreAccepting found)
IsExpectedPpdu e (Carry id _) = is_wanted (carry_id e) id ≡ true
