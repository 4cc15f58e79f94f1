-- Reading floating-point numbers is exact.
use Rattle.std.proofs.Common.{◌≡◌, ◌≢◌, ℕ, eqb, List, [], ◌∷◌, length, drop, get_or, true, sym, ap, arith}
use Rattle.std.proofs.lemmas.Bool.{eqb-true, eqb-false, eq-eqb, ne_eqb}
use Rattle.ber_values.specs.Contents.{HasLength, has_length}
use Rattle.ber_values.specs.Parts.{IsContentsGrammar}
use Rattle.ber_values.proofs.Elements.{contents_read, length_kept, length_test}
use Rattle.mms_data.specs.Floating.{SpellsReal, real_in, floating}

real_spelled : (octets : List ℕ) → has_length 5 5 octets ≡ true → eqb (get_or octets 0 0) 8 ≡ true → SpellsReal (drop 1 octets) octets
real_spelled [] a k = absurd (omega (arith, (length_kept 5 5 [] a).0))
real_spelled (x ∷ octets) a k = let e : x ≡ 8 = eqb-true x 8 k in let p = length_kept 5 5 (x ∷ octets) a in (ap (λ (y : ℕ). y ∷ octets) e, omega (arith, p.0, p.1))

real_length : (value octets : List ℕ) → SpellsReal value octets → HasLength 5 5 octets
real_length value octets s = let e : length octets ≡ length (8 ∷ value) = ap length s.0 in (omega (arith, e, s.1), omega (arith, e, s.1))

real_first : (value octets : List ℕ) → octets ≡ 8 ∷ value → get_or octets 0 0 ≡ 8
real_first value octets e = ap (λ (os : List ℕ). get_or os 0 0) e

real_value : (value octets : List ℕ) → octets ≡ 8 ∷ value → value ≡ drop 1 octets
real_value value octets e = sym (ap (drop 1) e)

pub floating_contents : IsContentsGrammar floating
unfolding floating real_in
floating_contents head octets =
    contents_read (List ℕ) (λ v. SpellsReal v octets) (HasLength 5 5 octets) (get_or octets 0 0 ≢ 8) (has_length 5 5 octets) (eqb (get_or octets 0 0) 8) (drop 1 octets) head
    (record {
      length_kept = length_kept 5 5 octets;
      length_test = length_test 5 5 octets;
      spelled = real_spelled octets;
      broken = λ a k. eqb-false (get_or octets 0 0) 8 k;
      from_spelled = λ x s. (length_test 5 5 octets (real_length x octets s), eq-eqb (get_or octets 0 0) 8 (real_first x octets s.0), real_value x octets s.0);
      from_broken = λ b. ne_eqb (get_or octets 0 0) 8 b;
    })
