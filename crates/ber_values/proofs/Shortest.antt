-- No spelling is shorter than the written form.
use Rattle.std.proofs.Common.{◌≡◌, ℕ, zero, suc, ◌+◌, ◌-◌, ◌*◌, ◌^◌, ◌<◌, ◌≤◌, cond, ltb, true, List, [], ◌∷◌, length, get_or, ℤ, pos, ◌-ℤ◌, sym, subst, inl, inr, arith}
use Rattle.std.proofs.lemmas.Bool.{cond_both, ltb-true, ltb-false, lt-ltb, cases_lt}
use Rattle.ber_values.specs.Octets.{IsOctets, number_of}
use Rattle.ber_values.specs.Tags.{SpellsLength}
use Rattle.ber_values.specs.Numbers.{twos_complement, SpellsInteger}
use Rattle.ber_values.specs.Writing.{octets_of, length_size, length_octets, number_size, integer_size, integer_octets}
use Rattle.ber_values.proofs.Octets.{IsOctets-rest, number_of-below, FirstBounds, first_bounds, mul_le}
use Rattle.ber_values.proofs.Signed.{pos_less}
use Rattle.std.proofs.Math.Nat.{pow-le-pow_right}
use Rattle.ber_values.proofs.Written.{length-octets_of, length-integer_octets}

length_size-le : (n k : ℕ) → 0 < k → n < 2 ^ (8 * k) → length_size n ≤ k
length_size-le n zero some below = absurd (omega arith)
length_size-le n (suc zero) some below = let t : ltb n (2 ^ 8) ≡ true = lt-ltb n (2 ^ 8) below in rw t (omega arith)
length_size-le n (suc (suc zero)) some below =
    let t : ltb n (2 ^ 16) ≡ true = lt-ltb n (2 ^ 16) below in
    cond_both (ltb n (2 ^ 8)) 1 (cond (ltb n (2 ^ 16)) 2 (cond (ltb n (2 ^ 24)) 3 4)) (λ s. s ≤ 2) (λ _. omega arith) (λ _. rw t (omega arith))
length_size-le n (suc (suc (suc zero))) some below =
    let t : ltb n (2 ^ 24) ≡ true = lt-ltb n (2 ^ 24) below in
    cond_both (ltb n (2 ^ 8)) 1 (cond (ltb n (2 ^ 16)) 2 (cond (ltb n (2 ^ 24)) 3 4)) (λ s. s ≤ 3) (λ _. omega arith)
    (λ _. cond_both (ltb n (2 ^ 16)) 2 (cond (ltb n (2 ^ 24)) 3 4) (λ s. s ≤ 3) (λ _. omega arith) (λ _. rw t (omega arith)))
length_size-le n (suc (suc (suc (suc k)))) some below =
    cond_both (ltb n (2 ^ 8)) 1 (cond (ltb n (2 ^ 16)) 2 (cond (ltb n (2 ^ 24)) 3 4)) (λ s. s ≤ suc (suc (suc (suc k)))) (λ _. omega arith)
    (λ _. cond_both (ltb n (2 ^ 16)) 2 (cond (ltb n (2 ^ 24)) 3 4) (λ s. s ≤ suc (suc (suc (suc k)))) (λ _. omega arith)
    (λ _. cond_both (ltb n (2 ^ 24)) 3 4 (λ s. s ≤ suc (suc (suc (suc k)))) (λ _. omega arith) (λ _. omega arith)))

-- no spelling of a length is shorter than the written one
pub length_shortest : (n : ℕ) (octets : List ℕ) → IsOctets octets → SpellsLength n octets → length (length_octets n) ≤ length octets
unfolding length_octets
length_shortest n [] fits spelled = elim spelled [ ]
length_shortest n (first ∷ more) fits (inl (below, none, is)) =
    let lt : n < 128 = omega arith in
    rw (lt-ltb n 128 lt) (omega arith)
length_shortest n (first ∷ more) fits (inr (some, few, is, value)) =
    let below : n < 2 ^ (8 * length more) = rw value (number_of-below more (IsOctets-rest first more fits)) in
    let size : length_size n ≤ length more = length_size-le n (length more) some below in
    cond_both (ltb n 128) (n ∷ []) ((128 + length_size n) ∷ octets_of (length_size n) n) (λ os. length os ≤ length (first ∷ more)) (λ _. omega arith) (λ _. omega (arith, length-octets_of (length_size n) n))

-- ---- integers

-- with one octet less a number wouldn't fit
abbrev Needs : ℕ → ℕ → Type 0
Needs n size = 1 < size → 128 * 2 ^ (8 * (size - 2)) ≤ n

needed : (n : ℕ) → Needs n (number_size n)
needed n =
    cond_both (ltb n (2 ^ 7)) 1 (cond (ltb n (2 ^ 15)) 2 (cond (ltb n (2 ^ 23)) 3 (cond (ltb n (2 ^ 31)) 4 (cond (ltb n (2 ^ 39)) 5 (cond (ltb n (2 ^ 47)) 6 (cond (ltb n (2 ^ 55)) 7 8)))))) (Needs n) (λ _ more. absurd (omega (arith, more)))
    (λ a. cond_both (ltb n (2 ^ 15)) 2 (cond (ltb n (2 ^ 23)) 3 (cond (ltb n (2 ^ 31)) 4 (cond (ltb n (2 ^ 39)) 5 (cond (ltb n (2 ^ 47)) 6 (cond (ltb n (2 ^ 55)) 7 8))))) (Needs n) (λ _ _. ltb-false n (2 ^ 7) a)
    (λ b. cond_both (ltb n (2 ^ 23)) 3 (cond (ltb n (2 ^ 31)) 4 (cond (ltb n (2 ^ 39)) 5 (cond (ltb n (2 ^ 47)) 6 (cond (ltb n (2 ^ 55)) 7 8)))) (Needs n) (λ _ _. ltb-false n (2 ^ 15) b)
    (λ c. cond_both (ltb n (2 ^ 31)) 4 (cond (ltb n (2 ^ 39)) 5 (cond (ltb n (2 ^ 47)) 6 (cond (ltb n (2 ^ 55)) 7 8))) (Needs n) (λ _ _. ltb-false n (2 ^ 23) c)
    (λ d. cond_both (ltb n (2 ^ 39)) 5 (cond (ltb n (2 ^ 47)) 6 (cond (ltb n (2 ^ 55)) 7 8)) (Needs n) (λ _ _. ltb-false n (2 ^ 31) d)
    (λ e. cond_both (ltb n (2 ^ 47)) 6 (cond (ltb n (2 ^ 55)) 7 8) (Needs n) (λ _ _. ltb-false n (2 ^ 39) e)
    (λ f. cond_both (ltb n (2 ^ 55)) 7 8 (Needs n) (λ _ _. ltb-false n (2 ^ 47) f) (λ g _. ltb-false n (2 ^ 55) g)))))))

size_le : (n k size : ℕ) → 0 < k → n < 128 * 2 ^ (8 * (k - 1)) → Needs n size → size ≤ k
size_le n k size some below needs =
    elim (cases_lt k size) [
      | inl less ↦ (
          let two : 0 < 2 = omega arith in
          let more : 1 < size = omega arith in
          let exponents : 8 * (k - 1) ≤ 8 * (size - 2) = omega arith in
          let powers : 2 ^ (8 * (k - 1)) ≤ 2 ^ (8 * (size - 2)) = pow-le-pow_right two exponents in
          let least : 128 * 2 ^ (8 * (size - 2)) ≤ n = needs more in
          absurd (omega arith))
      | inr le ↦ le
    ]

number_size-le : (n k : ℕ) → 0 < k → n < 128 * 2 ^ (8 * (k - 1)) → number_size n ≤ k
number_size-le n k some below = size_le n k (number_size n) some below (needed n)

integer_size-le : (octets : List ℕ) → IsOctets octets → 0 < length octets → integer_size (twos_complement octets) ≤ length octets
integer_size-le octets fits some =
    let b : FirstBounds octets = first_bounds octets fits some in
    let n = number_of octets in
    let whole = 2 ^ (8 * length octets) in
    cond_both (ltb (get_or octets 0 0) 128) (pos n) (pos n -ℤ pos whole) (λ z. integer_size z ≤ length octets)
    (λ e.
    let low : get_or octets 0 0 + 1 ≤ 128 = omega (arith, ltb-true (get_or octets 0 0) 128 e) in
    let most : (get_or octets 0 0 + 1) * b.unit ≤ 128 * b.unit = mul_le b.unit low in
    number_size-le n (length octets) some (rw (← b.unit_is) (omega arith)))
    (λ e.
    let high : 128 ≤ get_or octets 0 0 = ltb-false (get_or octets 0 0) 128 e in
    let least : 128 * b.unit ≤ get_or octets 0 0 * b.unit = mul_le b.unit high in
    let below = whole - n - 1 in
    let under : n < whole = number_of-below octets fits in
    let sum : n + below + 1 ≡ whole = omega arith in
    subst (λ (z : ℤ). integer_size z ≤ length octets) (sym (pos_less n below whole sum)) (number_size-le below (length octets) some (rw (← b.unit_is) (omega arith))))

-- no spelling of an integer is shorter than the written one
pub integer_shortest : (value : ℤ) (octets : List ℕ) → IsOctets octets → SpellsInteger value octets → length (integer_octets value) ≤ length octets
integer_shortest value octets fits spelled =
    let some : 0 < length octets = omega (arith, spelled.0.0) in
    rw (length-integer_octets value) (subst (λ (z : ℤ). integer_size z ≤ length octets) (sym spelled.1) (integer_size-le octets fits some))
