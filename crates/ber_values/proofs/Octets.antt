-- Numbers and their octets.
use Rattle.std.proofs.Common.{◌≡◌, ℕ, zero, suc, ◌+◌, ◌-◌, ◌*◌, ◌/◌, ◌^◌, ◌<◌, ◌≤◌, List, [], ◌∷◌, ◌++◌, length, get_or, take, drop, refl, inl, inr, arith}
use Rattle.std.specs.List.{fold}
use Rattle.std.proofs.lemmas.Bool.{cases_lt}
use Rattle.std.proofs.lemmas.List.{get_or-drop, get_or-take, get_or_past, length-take}
use Rattle.std.proofs.lemmas.List.Sums.{fold-append, fold_more}
use Rattle.std.proofs.lemmas.Nat.{pow-add}
use Rattle.std.proofs.Math.Nat.{mul-le-mul_right, pow-le-pow_right}
use Rattle.ber_values.specs.Octets.{IsOctets, number_of}

pub IsOctets-drop : (n : ℕ) (octets : List ℕ) → IsOctets octets → IsOctets (drop n octets)
IsOctets-drop n octets h i = rw get_or-drop (h (n + i))

pub IsOctets-take : (n : ℕ) (octets : List ℕ) → IsOctets octets → IsOctets (take n octets)
IsOctets-take n octets h i =
    elim (cases_lt i n) [
      | inl lt ↦ rw (get_or-take n octets i 0 lt) (h i)
      | inr le ↦ rw (get_or_past (take n octets) i 0 (omega (arith, length-take n octets))) (omega arith)
    ]

pub IsOctets-rest : (x : ℕ) (octets : List ℕ) → IsOctets (x ∷ octets) → IsOctets octets
IsOctets-rest x octets h i = h (suc i)

-- one octet more
pub number_of-push : (octets : List ℕ) (x : ℕ) → number_of (octets ++ x ∷ []) ≡ number_of octets * 256 + x
number_of-push octets x = fold-append (λ number octet. number * 256 + octet) 0 octets (x ∷ [])

pub number_of-more : (octets : List ℕ) (i d : ℕ) → i < length octets → number_of (take (i + 1) octets) ≡ number_of (take i octets) * 256 + get_or octets i d
number_of-more octets i d lt = fold_more (λ number octet. number * 256 + octet) 0 octets i d lt

pub pow_next : (i : ℕ) → 2 ^ (8 * (i + 1)) ≡ 2 ^ (8 * i) * 256
pow_next i = let e : 8 * (i + 1) ≡ 8 * i + 8 = omega arith in rw e (pow-add 2 (8 * i) 8)

pub below_next : (n i x : ℕ) → n < 2 ^ (8 * i) → x < 256 → n * 256 + x < 2 ^ (8 * (i + 1))
below_next n i x below octet = rw pow_next (omega arith)

pub below_eight : (i : ℕ) → i < 8 → 2 ^ (8 * i) ≤ 2 ^ 56
below_eight i lt = let two : 0 < 2 = omega arith in let le : 8 * i ≤ 56 = omega arith in pow-le-pow_right two le

below_from : (octets : List ℕ) (a : ℕ) → IsOctets octets → fold (λ number octet. number * 256 + octet) a octets < (a + 1) * 2 ^ (8 * length octets)
below_from [] a fits = omega arith
below_from (x ∷ octets) a fits =
    let p = 2 ^ (8 * length octets) in
    let first : fold (λ number octet. number * 256 + octet) (a * 256 + x) octets < (a * 256 + x + 1) * p = below_from octets (a * 256 + x) (IsOctets-rest x octets fits) in
    let octet : x < 256 = fits 0 in
    let more : (a * 256 + x + 1) * p ≤ (a * 256 + 256) * p = mul-le-mul_right p (omega arith) in
    let whole : 2 ^ (8 * (length octets + 1)) ≡ p * 256 = pow_next (length octets) in
    let len : 8 * suc (length octets) ≡ 8 * (length octets + 1) = omega arith in
    rw (len, whole) (omega arith)

-- a number is below what its octets could hold
pub number_of-below : (octets : List ℕ) → IsOctets octets → number_of octets < 2 ^ (8 * length octets)
number_of-below octets fits = omega (arith, below_from octets 0 fits)

pub mul_le : {m n : ℕ} (k : ℕ) → m ≤ n → m * k ≤ n * k
mul_le k le = mul-le-mul_right k le

-- the first octet counts as much as all others could
number_of-from : (octets : List ℕ) (a : ℕ) → fold (λ number octet. number * 256 + octet) a octets ≡ a * 2 ^ (8 * length octets) + number_of octets
number_of-from [] a = omega arith
number_of-from (x ∷ octets) a =
    let p = 2 ^ (8 * length octets) in
    let one : fold (λ number octet. number * 256 + octet) (a * 256 + x) octets ≡ (a * 256 + x) * p + number_of octets = number_of-from octets (a * 256 + x) in
    let two : fold (λ number octet. number * 256 + octet) (0 * 256 + x) octets ≡ (0 * 256 + x) * p + number_of octets = number_of-from octets (0 * 256 + x) in
    let whole : 2 ^ (8 * (length octets + 1)) ≡ p * 256 = pow_next (length octets) in
    let len : 8 * suc (length octets) ≡ 8 * (length octets + 1) = omega arith in
    rw (len, whole) (omega (arith, one, two))

pub number_of-cons : (x : ℕ) (octets : List ℕ) → number_of (x ∷ octets) ≡ x * 2 ^ (8 * length octets) + number_of octets
number_of-cons x octets = omega (arith, number_of-from octets (0 * 256 + x))

-- a number lies between what its first octet counts and what the next one would
pub record FirstBounds (octets : List ℕ) : Type 0 where
  pub unit : ℕ
  pub unit_is : unit ≡ 2 ^ (8 * (length octets - 1))
  pub whole : 2 ^ (8 * length octets) ≡ 256 * unit
  pub above : get_or octets 0 0 * unit ≤ number_of octets
  pub below : number_of octets < (get_or octets 0 0 + 1) * unit

pub first_bounds : (octets : List ℕ) → IsOctets octets → 0 < length octets → FirstBounds octets
first_bounds [] fits some = absurd (omega arith)
first_bounds (x ∷ octets) fits some =
    let p = 2 ^ (8 * length octets) in
    let more : number_of octets < p = number_of-below octets (IsOctets-rest x octets fits) in
    let is : number_of (x ∷ octets) ≡ x * p + number_of octets = number_of-cons x octets in
    let next : 2 ^ (8 * (length octets + 1)) ≡ p * 256 = pow_next (length octets) in
    let len : 8 * suc (length octets) ≡ 8 * (length octets + 1) = omega arith in
    let one : suc (length octets) - 1 ≡ length octets = omega arith in
    record { unit = p; unit_is = rw one refl; whole = rw len (omega arith); above = omega arith; below = omega arith }

-- the numbers of so many octets, as the upper end of 64 bits
pub ones_shifted : (k : ℕ) → 0 < k → k ≤ 8 → 18446744073709551615 / 2 ^ (64 - 8 * k) ≡ 2 ^ (8 * k) - 1
ones_shifted zero some few = absurd (omega arith)
ones_shifted (suc zero) some few = refl
ones_shifted (suc (suc zero)) some few = refl
ones_shifted (suc (suc (suc zero))) some few = refl
ones_shifted (suc (suc (suc (suc zero)))) some few = refl
ones_shifted (suc (suc (suc (suc (suc zero))))) some few = refl
ones_shifted (suc (suc (suc (suc (suc (suc zero)))))) some few = refl
ones_shifted (suc (suc (suc (suc (suc (suc (suc zero))))))) some few = refl
ones_shifted (suc (suc (suc (suc (suc (suc (suc (suc zero)))))))) some few = refl
ones_shifted (suc (suc (suc (suc (suc (suc (suc (suc (suc k))))))))) some few = absurd (omega arith)

pub unit_bound : (octets : List ℕ) → length octets ≤ 8 → 2 ^ (8 * (length octets - 1)) ≤ 2 ^ 56
unit_bound octets few = let two : 0 < 2 = omega arith in let le : 8 * (length octets - 1) ≤ 56 = omega arith in pow-le-pow_right two le

pub number_of-four : (octets : List ℕ) → IsOctets octets → length octets ≤ 4 → number_of octets < 2 ^ 32
number_of-four octets fits few =
    let two : 0 < 2 = omega arith in
    let le : 8 * length octets ≤ 32 = omega arith in
    let most : 2 ^ (8 * length octets) ≤ 2 ^ 32 = pow-le-pow_right two le in
    omega (arith, number_of-below octets fits)
