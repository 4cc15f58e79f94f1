-- A request that is short enough by the highest number is so by each.
use Rattle.std.proofs.Common.{◌≡◌, ℕ, ◌+◌, ◌≤◌, Bool, true, false, length, refl, subst, sym}
use Rattle.std.proofs.Common.{◌∙◌, arith, ltb, pos, ◌++◌, ap, length-append}
use Rattle.std.proofs.lemmas.Bool.{ltb-true, ltb-false}
use Rattle.std.proofs.lemmas.Bool.Decides.{nat_tests}
use Rattle.ber_values.specs.Lengths.{part_size}
use Rattle.ber_values.specs.Writing.{length_size, number_size, integer_octets}
use Rattle.ber_values.proofs.Capped.{length-written, part_size-short, part_size-long, short-sized}
use Rattle.ber_values.proofs.Written.{length-integer_octets}
use Rattle.mms_services.specs.declared.pdu.MmsPdu.TheVariants as pdus
use Rattle.mms_services.specs.declared.request.Request.{Request}
use Rattle.mms_services.specs.PduOctets.{invoke_octets, request_octets, pdu_octets, pdu_len}
use Rattle.mms_services.specs.PduOctets.{IsWritableRequest}
use Rattle.tase_views.specs.declared.call.CallKind.{CallKind}
use Rattle.tase_conn.specs.Map.Asked.{request_in}
use Rattle.asking_end.specs.declared.limits.TheConstants.{LAST_INVOKE, REQUEST_LIMIT}
use Rattle.asking_end.specs.Sayings.{IsSayable, IsShort}

length_size-more : (a b : ℕ) → a ≤ b → length_size a ≤ length_size b
length_size-more a b le = grind (arith, nat_tests)

-- an element is as long as its contents have it
part_size-grows : (a b : ℕ) → a ≤ b → part_size a ≤ part_size b
part_size-grows a b le = one (ltb a 128) (ltb b 128) refl refl
  where
    one : (p q : Bool) → ltb a 128 ≡ p → ltb b 128 ≡ q → part_size a ≤ part_size b
    one true true p q = omega (
      arith,
      part_size-short a (ltb-true a 128 p),
      part_size-short b (ltb-true b 128 q),
    )
    one true false p q = omega (
      arith,
      part_size-short a (ltb-true a 128 p),
      part_size-long b (ltb-false b 128 q),
    )
    one false true p q = absurd (omega (arith, ltb-true b 128 q, ltb-false a 128 p))
    one false false p q = omega (
      arith,
      part_size-long a (ltb-false a 128 p),
      part_size-long b (ltb-false b 128 q),
      length_size-more a b le,
    )

number_size-most : (n : ℕ) → n ≤ LAST_INVOKE → number_size n ≤ 4
number_size-most n le = grind (arith, nat_tests)

invoke-length : (n : ℕ) → n ≤ LAST_INVOKE → length (invoke_octets n) ≤ 6
unfolding invoke_octets
invoke-length n le =
    let few : length (integer_octets (pos n)) ≤ 4 =
    omega (arith, length-integer_octets (pos n), number_size-most n le) in
    omega (arith, short-sized 2 (integer_octets (pos n)) (omega arith))

pub last-length : length (invoke_octets LAST_INVOKE) ≡ 6
unfolding invoke_octets
last-length =
    let few : length (integer_octets (pos LAST_INVOKE)) ≡ 4 =
    length-integer_octets (pos LAST_INVOKE) in
    omega (arith, short-sized 2 (integer_octets (pos LAST_INVOKE)) (omega arith))

pdu-length : (n : ℕ) (request : Request) → length (pdu_octets (pdus.Request n request))
    ≡ part_size (length (invoke_octets n) + length (request_octets request))
unfolding pdu_octets
pdu-length n request =
    length-written 160 (invoke_octets n ++ request_octets request)
    ∙ ap part_size (length-append (invoke_octets n) (request_octets request))

pub shorter_request : (n : ℕ) (request : Request) → n ≤ LAST_INVOKE
    → pdu_len (pdus.Request LAST_INVOKE request) ≤ REQUEST_LIMIT
    → pdu_len (pdus.Request n request) ≤ REQUEST_LIMIT
shorter_request n request le few =
    let more = part_size-grows (length (invoke_octets n) + length (request_octets request))
    (length (invoke_octets LAST_INVOKE) + length (request_octets request))
    (omega (arith, invoke-length n le, last-length)) in
    omega (arith, few, more, pdu-length n request, pdu-length LAST_INVOKE request)

pub short_request : (n : ℕ) (call : CallKind) (request : Request) → n ≤ LAST_INVOKE → IsShort call
    → request ≡ request_in call → IsWritableRequest request
    → IsSayable (pdus.Request n request)
short_request n call request le few is writable = record {
  writable = writable;
  few = subst (λ (r : Request). pdu_len (pdus.Request n r) ≤ REQUEST_LIMIT) (sym is)
      (shorter_request n (request_in call) le few);
}
