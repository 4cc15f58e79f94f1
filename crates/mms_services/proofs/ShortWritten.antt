-- Lengths of written forms that are short.
use Rattle.std.proofs.Common.{◌≡◌, ℕ, ◌+◌, ◌≤◌, ◌++◌, length, pos, refl, arith}
use Rattle.std.proofs.lemmas.List.{length-append}
use Rattle.ber_values.specs.Writing.{written, integer_octets, length_octets}
use Rattle.ber_values.proofs.Pieces.{integer-sized}
use Rattle.mms_services.specs.declared.error.ErrorPdu.{ErrorPdu}
use Rattle.mms_services.specs.declared.reject.RejectPdu.{RejectPdu}
use Rattle.mms_services.specs.declared.initiate.Initiate.{Initiate}
use Rattle.mms_services.specs.Errors.{service_error_octets, error_pdu_octets}
use Rattle.mms_services.specs.Rejects.{some_invoke_octets, reason_octets, reject_pdu_octets}
use Rattle.mms_services.specs.Initiates.{some_integer_octets, initiate_detail_octets, last_octets}
use Rattle.mms_services.specs.Initiates.{later_octets, initiate_octets}
use Rattle.mms_services.specs.Identities.{identify_response_octets}

service_error-sized : (class code : ℕ) → length (service_error_octets class code) ≡ 7
unfolding service_error_octets length_octets
service_error-sized class code = refl

pub error_pdu-sized : (e : ErrorPdu) (n : ℕ) → n ≡ length (integer_octets (pos e.invoke)) → n ≤ 8
    → 2 + n + 7 ≡ length (error_pdu_octets e)
unfolding error_pdu_octets
error_pdu-sized e n is few = omega (
  arith,
  integer-sized 128 n (pos e.invoke) is few,
  service_error-sized e.class e.code,
  length-append (written 128 (integer_octets (pos e.invoke))) (service_error_octets e.class e.code),
)

reason-sized : (kind code : ℕ) → length (reason_octets kind code) ≡ 3
unfolding reason_octets length_octets
reason-sized kind code = refl

pub reject_pdu-sized : (r : RejectPdu) (n : ℕ) → n ≡ length (some_invoke_octets r.invoke)
    → n + 3 ≡ length (reject_pdu_octets r)
unfolding reject_pdu_octets
reject_pdu-sized r n is = omega (
  arith,
  is,
  reason-sized r.kind r.code,
  length-append (some_invoke_octets r.invoke) (reason_octets r.kind r.code),
)

pub last-sized : length last_octets ≡ 24
unfolding last_octets initiate_detail_octets length_octets
last-sized = refl

pub initiate-sized : (o : Initiate) (a b c d : ℕ)
    → a ≡ length (some_integer_octets 128 o.detail)
    → b ≡ length (written 129 (integer_octets o.calling))
    → c ≡ length (written 130 (integer_octets o.called))
    → d ≡ length (some_integer_octets 131 o.nesting)
    → a + b + (c + d) + 24 ≡ length (initiate_octets o)
unfolding initiate_octets later_octets
initiate-sized o a b c d a_is b_is c_is d_is = omega (
  arith,
  a_is,
  b_is,
  c_is,
  d_is,
  last-sized,
  length-append (some_integer_octets 128 o.detail)
      (written 129 (integer_octets o.calling)
      ++ (written 130 (integer_octets o.called)
      ++ (some_integer_octets 131 o.nesting ++ last_octets))),
  length-append (written 129 (integer_octets o.calling))
      (written 130 (integer_octets o.called)
      ++ (some_integer_octets 131 o.nesting ++ last_octets)),
  length-append (written 130 (integer_octets o.called))
      (some_integer_octets 131 o.nesting ++ last_octets),
  length-append (some_integer_octets 131 o.nesting) last_octets,
)

pub identify_response-sized : length identify_response_octets ≡ 18
unfolding identify_response_octets length_octets
identify_response-sized = refl
