-- Octets with zeros at their end hold bits.
use Rattle.std.proofs.Common.{◌≡◌, ℕ, zero, suc, ◌-◌, ◌*◌, ◌/◌, ◌%◌, ◌^◌, ◌<◌, ◌≤◌, true, List, [], ◌∷◌, length, get_or, set, refl, ◌∙◌, inl, inr, arith, ltb}
use Rattle.std.specs.List.{list_all}
use Rattle.std.proofs.lemmas.Bool.{lt-ltb, and_from, cases_lt}
use Rattle.std.proofs.lemmas.List.{length-set, get_or-set_same, nil_from_length}
use Rattle.std.proofs.Math.Nat.{mul-mod_left, div-mul-le_self, zero-mod}
use Rattle.ber_values.specs.Bits.{IsBits}
use Rattle.ber_values.specs.Octets.{IsOctets}
use Rattle.ber_values.specs.BitContents.{with_zeros, bits_with}
use Rattle.ber_values.proofs.Octets.{IsOctets-rest}

pub list_all-octets : (octets : List ℕ) → IsOctets octets → list_all (λ octet. ltb octet 256) octets ≡ true
list_all-octets [] fits = refl
list_all-octets (x ∷ octets) fits = and_from (ltb x 256) (list_all (λ octet. ltb octet 256) octets) (lt-ltb x 256 (fits 0)) (list_all-octets octets (IsOctets-rest x octets fits))

pub IsOctets-set : (octets : List ℕ) (i x : ℕ) → IsOctets octets → x < 256 → IsOctets (set octets i x)
IsOctets-set [] i x fits lt k = omega arith
IsOctets-set (y ∷ octets) zero x fits lt zero = lt
IsOctets-set (y ∷ octets) zero x fits lt (suc k) = fits (suc k)
IsOctets-set (y ∷ octets) (suc i) x fits lt zero = fits 0
IsOctets-set (y ∷ octets) (suc i) x fits lt (suc k) = IsOctets-set octets i x (IsOctets-rest y octets fits) lt k

IsOctets-with_zeros : (unused : ℕ) (octets : List ℕ) → IsOctets octets → IsOctets (with_zeros unused octets)
IsOctets-with_zeros unused octets fits =
    let x = get_or octets (length octets - 1) 0 in
    let lt : x < 256 = fits (length octets - 1) in
    let le : x / 2 ^ unused * 2 ^ unused ≤ x = div-mul-le_self x (2 ^ unused) in
    IsOctets-set octets (length octets - 1) (x / 2 ^ unused * 2 ^ unused) fits (omega arith)

zeros_end : (unused n x : ℕ) (octets : List ℕ) → length octets ≡ n → (0 < n → get_or octets (n - 1) 0 ≡ x * 2 ^ unused) → (n ≡ 0 → unused ≡ 0) → unused < 8 → get_or octets (length octets - 1) 0 % 2 ^ (8 * length octets - (8 * n - unused)) ≡ 0
zeros_end unused n x octets len is none few =
    elim (cases_lt 0 n) [
      | inl some ↦ (let e : 8 * n - (8 * n - unused) ≡ unused = omega arith in rw (len, is some, e) (mul-mod_left x (2 ^ unused)))
      | inr none_left ↦ (let z : n ≡ 0 = omega arith in let nil : octets ≡ [] = nil_from_length octets (len ∙ z) in rw nil (zero-mod (2 ^ (8 * zero - (8 * n - unused)))))
    ]

-- octets with their last bits zero hold the others
pub IsBits-bits_with : (unused : ℕ) (octets : List ℕ) → IsOctets octets → unused < 8 → (octets ≡ [] → unused ≡ 0) → IsBits (bits_with unused octets)
IsBits-bits_with unused octets fits few some =
    let len : length (with_zeros unused octets) ≡ length octets = length-set octets (length octets - 1) (get_or octets (length octets - 1) 0 / 2 ^ unused * 2 ^ unused) in
    let none : length octets ≡ 0 → unused ≡ 0 = λ e. some (nil_from_length octets e) in
    record {
      fitting = omega (arith, none);
      in_octets = list_all-octets (with_zeros unused octets) (IsOctets-with_zeros unused octets fits);
      padded = zeros_end unused (length octets) (get_or octets (length octets - 1) 0 / 2 ^ unused) (with_zeros unused octets) len (λ lt. get_or-set_same octets (length octets - 1) (get_or octets (length octets - 1) 0 / 2 ^ unused * 2 ^ unused) 0 (omega arith)) none few;
    }
