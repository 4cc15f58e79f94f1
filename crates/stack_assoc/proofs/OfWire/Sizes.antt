-- Most lengths of written forms.
use Rattle.std.proofs.Common.{◌≡◌, ℕ, ◌+◌, ◌*◌, ◌≤◌, ◌^◌, Bool, true, false, cond, ltb, eqb, List}
use Rattle.std.proofs.Common.{[], ◌∷◌, ◌++◌, length, flat_map, Option, Some, None, ℤ, pos, negsuc}
use Rattle.std.proofs.Common.{refl, arith}
use Rattle.std.proofs.lemmas.List.{length-append}
use Rattle.ber_values.specs.Externals.{external_octets}
use Rattle.ber_values.specs.Writing as ber
use Rattle.ber_values.specs.Writing.{written, integer_octets, number_size}
use Rattle.ber_values.proofs.Capped.{length-written, part_size-most}
use Rattle.ber_values.proofs.Written.{length-integer_octets}
use Rattle.acse_assoc.specs.Writing as acse
use Rattle.acse_assoc.specs.Writing.{IsKeptTitle, mms_context}
use Rattle.acse_assoc.proofs.Sizes.{context_len}
use Rattle.mms_services.specs.declared.initiate.Initiate.{Initiate}
use Rattle.mms_services.specs.Initiates.{initiate_octets, later_octets, last_octets}
use Rattle.mms_services.specs.Initiates.{initiate_detail_octets, some_integer_octets}
use Rattle.tpkt_cotp.specs.Selectors.{HasSelector}
use Rattle.presentation_profile.specs.Written as presentation
use Rattle.presentation_profile.proofs.Sizes.{calling-sized, mode-sized}
use Rattle.session_profile.specs.Writing as session
use Rattle.session_profile.proofs.Written as spoken
use Rattle.stack_assoc.specs.Wire.Tsdus.{own_offers}

-- ---- ber

cond_most : (b : Bool) (x y m : ℕ) → x ≤ m → y ≤ m → cond b x y ≤ m
cond_most true x y m here there = here
cond_most false x y m here there = there

number_size-most : (n : ℕ) → number_size n ≤ 8
number_size-most n =
    cond_most (ltb n (2 ^ 7)) 1 _ 8 (omega arith)
    (cond_most (ltb n (2 ^ 15)) 2 _ 8 (omega arith)
    (cond_most (ltb n (2 ^ 23)) 3 _ 8 (omega arith)
    (cond_most (ltb n (2 ^ 31)) 4 _ 8 (omega arith)
    (cond_most (ltb n (2 ^ 39)) 5 _ 8 (omega arith)
    (cond_most (ltb n (2 ^ 47)) 6 _ 8 (omega arith)
    (cond_most (ltb n (2 ^ 55)) 7 8 8 (omega arith) (omega arith)))))))

integer-most : (value : ℤ) → length (integer_octets value) ≤ 8
integer-most (pos n) = omega (arith, length-integer_octets (pos n), number_size-most n)
integer-most (negsuc n) = omega (arith, length-integer_octets (negsuc n), number_size-most n)

pub written-most : (tag : ℕ) (contents : List ℕ)
    → length (written tag contents) ≤ length contents + 6
written-most tag contents =
    omega (arith, length-written tag contents, part_size-most (length contents))

number-most : (tag : ℕ) (value : ℤ) → length (written tag (integer_octets value)) ≤ 14
number-most tag value = omega (arith, written-most tag (integer_octets value), integer-most value)

external-most : (id : ℕ) (body : List ℕ) → length (external_octets id body) ≤ length body + 20
external-most id body = omega (
  arith,
  length-append (written 2 (integer_octets (pos id))) (written 160 body),
  number-most 2 (pos id),
  written-most 160 body,
)

-- ---- MMS

some_integer-most : (tag : ℕ) (value : Option ℤ) → length (some_integer_octets tag value) ≤ 14
some_integer-most tag None = omega arith
some_integer-most tag (Some value) = number-most tag value

last-sized : length last_octets ≡ 24
unfolding last_octets initiate_detail_octets ber.length_octets
last-sized = refl

-- the parameters of an association
pub initiate-most : (tag : ℕ) (offer : Initiate) → length (written tag (initiate_octets offer)) ≤ 86
unfolding initiate_octets later_octets
initiate-most tag offer = omega (
  arith,
  written-most tag (initiate_octets offer),
  length-append (some_integer_octets 128 offer.detail)
      (written 129 (integer_octets offer.calling) ++ later_octets offer),
  length-append (written 129 (integer_octets offer.calling)) (later_octets offer),
  length-append (written 130 (integer_octets offer.called))
      (some_integer_octets 131 offer.nesting ++ last_octets),
  length-append (some_integer_octets 131 offer.nesting) last_octets,
  some_integer-most 128 offer.detail,
  some_integer-most 131 offer.nesting,
  number-most 129 offer.calling,
  number-most 130 offer.called,
  last-sized,
)

-- ---- ACSE

user-most : (id : ℕ) (body : List ℕ) → length (acse.user_information_octets id body) ≤ length body + 32
user-most id body = omega (
  arith,
  written-most 190 (written 40 (external_octets id body)),
  written-most 40 (external_octets id body),
  external-most id body,
)

title-most : (title : Option (List ℕ)) → IsKeptTitle title → length (acse.title_octets title) ≤ 44
title-most None titled = omega arith
title-most (Some title) titled = omega (
  arith,
  written-most 166 (written 6 title),
  written-most 6 title,
  titled.1,
)

-- a request in the application context of MMS
pub request-most : (title : Option (List ℕ)) (id : ℕ) (body : List ℕ) → IsKeptTitle title
    → length (written 96 (written 161 (written 6 mms_context)
    ++ (acse.title_octets title ++ acse.user_information_octets id body))) ≤ length body + 91
request-most title id body titled = omega (
  arith,
  written-most 96 (written 161 (written 6 mms_context)
      ++ (acse.title_octets title ++ acse.user_information_octets id body)),
  length-append (written 161 (written 6 mms_context))
      (acse.title_octets title ++ acse.user_information_octets id body),
  length-append (acse.title_octets title) (acse.user_information_octets id body),
  context_len,
  title-most title titled,
  user-most id body,
)

-- a response with user information
pub response-most : (result id : ℕ) (body : List ℕ)
    → length (written 97 (written 161 (written 6 mms_context)
    ++ (acse.aare_result_octets result ++ (acse.diagnostic result ++ acse.user_information_octets id body))))
    ≤ length body + 74
response-most result id body = omega (
  arith,
  written-most 97 (written 161 (written 6 mms_context)
      ++ (acse.aare_result_octets result ++ (acse.diagnostic result ++ acse.user_information_octets id body))),
  length-append (written 161 (written 6 mms_context))
      (acse.aare_result_octets result ++ (acse.diagnostic result ++ acse.user_information_octets id body)),
  length-append (acse.aare_result_octets result) (acse.diagnostic result ++ acse.user_information_octets id body),
  length-append (acse.diagnostic result) (acse.user_information_octets id body),
  context_len,
  written-most 162 (written 2 (integer_octets (pos result))),
  number-most 2 (pos result),
  user-most id body,
)

-- ---- presentation

pub data-most : (id : ℕ) (body : List ℕ)
    → length (presentation.user_octets id body) ≤ length body + 32
unfolding presentation.user_octets
data-most id body = omega (
  arith,
  written-most 97 (written 48 (external_octets id body)),
  written-most 48 (external_octets id body),
  external-most id body,
)

set_up-most : (contents : List ℕ)
    → length (presentation.set_up_octets contents) ≤ length contents + 17
unfolding presentation.set_up_octets
set_up-most contents = omega (
  arith,
  written-most 49 (presentation.mode_octets ++ written 162 contents),
  length-append presentation.mode_octets (written 162 contents),
  written-most 162 contents,
  mode-sized,
)

selector-most : (tag : ℕ) (selector : Option (List ℕ)) → HasSelector selector
    → length (presentation.selector_element_octets tag selector) ≤ 38
selector-most tag None has = omega arith
selector-most tag (Some selector) has = omega (arith, written-most tag selector, has.1)

offers-sized : length (presentation.offers_octets own_offers) ≡ 37
unfolding presentation.offers_octets presentation.offer_octets presentation.offered_octets presentation.ber_octets ber.length_octets ber.integer_octets
offers-sized = refl

accepted-sized : length presentation.accepted_octets ≡ 9
unfolding presentation.accepted_octets ber.length_octets
accepted-sized = refl

refused-sized : (result : ℕ) → length (presentation.refused_octets result) ≡ 5
unfolding presentation.refused_octets ber.length_octets
refused-sized result = refl

result-most : (result : ℕ) → length (presentation.result_octets result) ≤ 9
result-most result = elim (eqb result 0) as
    (λ b. length (cond b presentation.accepted_octets (presentation.refused_octets result)) ≤ 9) [
      | true ↦ omega (arith, accepted-sized)
      | false ↦ omega (arith, refused-sized result)
    ]

each-most : (found : List ℕ) → length (flat_map presentation.result_octets found) ≤ 9 * length found
each-most [] = omega arith
each-most (result ∷ found) = omega (
  arith,
  length-append (presentation.result_octets result) (flat_map presentation.result_octets found),
  result-most result,
  each-most found,
)

-- a connect with the calling end's offers
pub connect-most : (called : Option (List ℕ)) (id : ℕ) (body : List ℕ)
    → HasSelector called
    → length (presentation.set_up_octets (presentation.connect_ppdu_octets called own_offers id body))
    ≤ length body + 130
unfolding presentation.connect_ppdu_octets
connect-most called id body has = omega (
  arith,
  set_up-most (presentation.connect_ppdu_octets called own_offers id body),
  length-append presentation.calling_octets (presentation.selector_element_octets 130 called
      ++ (presentation.offers_octets own_offers ++ presentation.user_octets id body)),
  length-append (presentation.selector_element_octets 130 called)
      (presentation.offers_octets own_offers ++ presentation.user_octets id body),
  length-append (presentation.offers_octets own_offers) (presentation.user_octets id body),
  calling-sized,
  selector-most 130 called has,
  offers-sized,
  data-most id body,
)

-- an accept with at most 16 results
pub accept-most : (called : Option (List ℕ)) (found : List ℕ) (id : ℕ) (body : List ℕ)
    → HasSelector called → length found ≤ 16
    → length (presentation.set_up_octets (presentation.accept_ppdu_octets called found id body))
    ≤ length body + 237
unfolding presentation.accept_ppdu_octets presentation.results_octets
accept-most called found id body has few = omega (
  arith,
  set_up-most (presentation.accept_ppdu_octets called found id body),
  length-append (presentation.selector_element_octets 131 called)
      (presentation.results_octets found ++ presentation.user_octets id body),
  length-append (presentation.results_octets found) (presentation.user_octets id body),
  selector-most 131 called has,
  written-most 165 (flat_map presentation.result_octets found),
  each-most found,
  few,
  data-most id body,
)

-- ---- session

element-most : (identifier : ℕ) (contents : List ℕ)
    → length (session.element identifier contents) ≤ length contents + 4
element-most identifier contents =
    omega (arith, spoken.element_size identifier contents, spoken.length_size (length contents))

called-most : (called : Option (List ℕ)) → HasSelector called
    → length (session.called_octets called) ≤ 36
called-most None has = omega arith
called-most (Some selector) has = omega (arith, element-most 52 selector, has.1)

pub session_connect-most : (called : Option (List ℕ)) (body : List ℕ) → HasSelector called
    → length (session.connect_spdu_octets called body) ≤ length body + 60
session_connect-most called body has = omega (
  arith,
  element-most 13 (session.front ++ (session.calling ++ session.called_and_data called body)),
  length-append (session.called_octets called) (session.user_data_octets body),
  called-most called has,
  element-most 193 body,
)

pub session_accept-most : (called : Option (List ℕ)) (body : List ℕ) → HasSelector called
    → length (session.accept_spdu_octets called body) ≤ length body + 56
session_accept-most called body has = omega (
  arith,
  element-most 14 (session.front ++ session.called_and_data called body),
  length-append (session.called_octets called) (session.user_data_octets body),
  called-most called has,
  element-most 193 body,
)

pub refuse-most : (body : List ℕ) → length (session.refuse_octets body) ≤ length body + 9
refuse-most body = omega (
  arith,
  element-most 12 (session.element 50 (2 ∷ body)),
  element-most 50 (2 ∷ body),
)

pub release-most : (code : ℕ) (body : List ℕ)
    → length (session.release_spdu_octets code body) ≤ length body + 8
release-most code body =
    omega (arith, element-most code (session.user_data_octets body), element-most 193 body)

pub abort-most : (body : List ℕ) → length (session.abort_octets body) ≤ length body + 11
abort-most body = omega (arith, element-most 25 (session.released_user_data body), element-most 193 body)
