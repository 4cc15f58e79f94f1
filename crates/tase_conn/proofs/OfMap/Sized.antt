-- How long the PDUs are that the called end says of itself.
use Rattle.std.proofs.Common.{◌≡◌, ℕ, ◌+◌, ◌<◌, ◌≤◌, ◌^◌, ℤ, pos, ◌≤ℤ◌, List, [], ◌∷◌, ◌++◌, length}
use Rattle.std.proofs.Common.{refl, arith}
use Rattle.std.specs.Prelude.{int_lt}
use Rattle.std.proofs.lemmas.Bool.{cond_both}
use Rattle.std.proofs.lemmas.Int.{ints}
use Rattle.std.proofs.lemmas.List.{length-append}
use borrow.Author.Differences.{lt-true}
use Rattle.ber_values.specs.Writing.{written, integer_octets}
use Rattle.ber_values.proofs.Capped.{length-written, part_size-most, capped-most}
use Rattle.ber_values.proofs.Externals.{integer-few}
use Rattle.mms_services.specs.declared.pdu.MmsPdu.{MmsPdu}
use Rattle.mms_services.specs.declared.pdu.MmsPdu.TheVariants as pdus
use Rattle.mms_services.specs.Errors.{error_pdu_octets, service_error_octets}
use Rattle.mms_services.specs.PduOctets.{pdu_octets, pdu_len}
use Rattle.tase_conn.specs.Map.Out.{too_long, within}

written_few : (tag n : ℕ) (contents : List ℕ) → length contents ≤ n
    → length (written tag contents) ≤ n + 6
written_few tag n contents few =
    omega (arith, length-written tag contents, part_size-most (length contents), few)

service_few : length (service_error_octets 3 0) ≤ 19
unfolding service_error_octets
service_few = written_few 162 13 (written 160 (written 131 (0 ∷ [])))
    (written_few 160 7 (written 131 (0 ∷ [])) (written_few 131 1 (0 ∷ []) (omega arith)))

pub too_long_few : (invoke : ℕ) → invoke < 2 ^ 32 → pdu_len (too_long invoke) ≤ 65000
unfolding pdu_octets error_pdu_octets
too_long_few invoke small =
    let number : length (written 128 (integer_octets (pos invoke))) ≤ 14 =
    written_few 128 8 (integer_octets (pos invoke)) (integer-few invoke (omega (arith, small))) in
    let contents : List ℕ =
    written 128 (integer_octets (pos invoke)) ++ service_error_octets 3 0 in
    let few : length contents ≤ 33 =
    omega (
      arith,
      length-append (written 128 (integer_octets (pos invoke)))
          (service_error_octets 3 0),
      number,
      service_few,
    ) in
    let all : length (pdu_octets (too_long invoke)) ≤ 39 = written_few 162 33 contents few in
    omega (arith, all)

pub concluded_few : pdu_len pdus.Concluded ≤ 65000
unfolding pdu_octets
concluded_few =
    let all : length (pdu_octets pdus.Concluded) ≤ 6 = written_few 140 0 [] (omega arith) in
    omega (arith, all)

pub pdu_len_most : (pdu : MmsPdu) → pdu_len pdu ≤ 4294967295
pdu_len_most pdu = capped-most (length (pdu_octets pdu))

-- what isn't too long is said as it is
pub within_same : (detail : ℤ) (invoke : ℕ) (pdu : MmsPdu) (len : ℕ) → len ≡ pdu_len pdu
    → pos len ≤ℤ detail → pdu ≡ within detail invoke pdu
within_same detail invoke pdu len e few =
    cond_both (int_lt detail (pos (pdu_len pdu))) (too_long invoke) pdu (λ (p : MmsPdu). pdu ≡ p)
    (λ t. absurd (omega (arith, ints, lt-true detail (pos (pdu_len pdu)) t, e, few))) (λ f. refl)
