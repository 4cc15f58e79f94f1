-- Capped lengths and their sums.
use Rattle.std.proofs.Common.{◌≡◌, ℕ, ◌+◌, ◌≤◌, ◌<◌, ◌^◌, min, ltb, cond, List, [], ◌∷◌, length, refl, sym, ap, ◌∙◌, arith}
use Rattle.std.proofs.lemmas.Bool.{cond_both, ltb-true, ltb-false}
use Rattle.std.proofs.lemmas.List.{length-append}
use Rattle.ber_values.specs.declared.lengths.TheConstants.{MOST_LENGTH}
use Rattle.ber_values.specs.Writing.{length_size, octets_of, length_octets, written}
use Rattle.ber_values.specs.Lengths.{capped, part_size}
use Rattle.ber_values.proofs.Written.{length-octets_of}

-- sums of capped lengths are capped sums
pub capped-sum : (a b : ℕ) → capped (capped a + capped b) ≡ capped (a + b)
capped-sum a b = omega arith

pub capped-left : (a b : ℕ) → capped (capped a + b) ≡ capped (a + b)
capped-left a b = omega arith

pub capped-same : (n : ℕ) → n ≤ MOST_LENGTH → capped n ≡ n
capped-same n le = omega arith

pub capped-most : (n : ℕ) → capped n ≤ MOST_LENGTH
capped-most n = omega arith

pub capped-below : (n : ℕ) → capped n < MOST_LENGTH → n < MOST_LENGTH
capped-below n lt = omega arith

-- ---- elements

pub length-length_octets : (n : ℕ) → 128 ≤ n → length (length_octets n) ≡ 1 + length_size n
unfolding length_octets
length-length_octets n le = cond_both (ltb n 128) (n ∷ []) ((128 + length_size n) ∷ octets_of (length_size n) n) (λ os. length os ≡ 1 + length_size n) (λ e. absurd (omega (arith, ltb-true n 128 e))) (λ e. omega (arith, length-octets_of (length_size n) n))

pub length-length_short : (n : ℕ) → n < 128 → length (length_octets n) ≡ 1
unfolding length_octets
length-length_short n lt = cond_both (ltb n 128) (n ∷ []) ((128 + length_size n) ∷ octets_of (length_size n) n) (λ os. length os ≡ 1) (λ e. refl) (λ e. absurd (omega (arith, ltb-false n 128 e)))

pub part_size-short : (n : ℕ) → n < 128 → part_size n ≡ 2 + n
unfolding part_size
part_size-short n lt = omega (arith, length-length_short n lt)

pub part_size-long : (n : ℕ) → 128 ≤ n → part_size n ≡ 2 + length_size n + n
unfolding part_size
part_size-long n le = omega (arith, length-length_octets n le)

pub part_size-more : (n : ℕ) → n + 2 ≤ part_size n
unfolding part_size length_octets
part_size-more n = cond_both (ltb n 128) (n ∷ []) ((128 + length_size n) ∷ octets_of (length_size n) n) (λ os. n + 2 ≤ 1 + length os + n) (λ e. omega arith) (λ e. omega arith)

-- an element of capped contents
pub capped-part : (n : ℕ) → capped (part_size (capped n)) ≡ capped (part_size n)
capped-part n =
    cond_both {A = ℕ} (ltb n MOST_LENGTH) 0 1 (λ _. capped (part_size (capped n)) ≡ capped (part_size n))
    (λ e. ap (λ k. capped (part_size k)) (capped-same n (omega (arith, ltb-true n MOST_LENGTH e))))
    (λ e. omega (arith, part_size-more n, part_size-more (capped n), ltb-false n MOST_LENGTH e))

pub length-written : (tag : ℕ) (contents : List ℕ) → length (written tag contents) ≡ part_size (length contents)
unfolding part_size
length-written tag contents = omega (arith, length-append (length_octets (length contents)) contents)

pub ruleset part_sizes = (part_size-short, part_size-long)

-- the capped length of an element, by that of its contents
pub capped-written : (tag n : ℕ) (contents : List ℕ) → n ≡ capped (length contents)
    → capped (part_size n) ≡ capped (length (written tag contents))
capped-written tag n contents e =
    ap (λ k. capped (part_size k)) e ∙ capped-part (length contents)
    ∙ ap capped (sym (length-written tag contents))

-- the same, where a length was capped before
pub capped-element : (n len : ℕ) → n ≡ min MOST_LENGTH len
    → capped (part_size n) ≡ capped (part_size len)
capped-element n len e =
    let same : n ≡ capped len = omega (arith, e) in
    ap (λ k. capped (part_size k)) same ∙ capped-part len

length_size-most : (n : ℕ) → length_size n ≤ 4
length_size-most n =
    cond_both {A = ℕ} (ltb n (2 ^ 8)) 1 (cond (ltb n (2 ^ 16)) 2 (cond (ltb n (2 ^ 24)) 3 4)) (λ k. k ≤ 4) (λ e. omega arith)
    (λ e. cond_both {A = ℕ} (ltb n (2 ^ 16)) 2 (cond (ltb n (2 ^ 24)) 3 4) (λ k. k ≤ 4) (λ f. omega arith)
    (λ f. cond_both {A = ℕ} (ltb n (2 ^ 24)) 3 4 (λ k. k ≤ 4) (λ g. omega arith) (λ g. omega arith)))

-- an element has at most six octets besides its contents
pub part_size-most : (n : ℕ) → part_size n ≤ n + 6
part_size-most n = cond_both {A = ℕ} (ltb n 128) 0 1 (λ _. part_size n ≤ n + 6) (λ e. omega (arith, part_size-short n (omega (arith, ltb-true n 128 e)))) (λ e. omega (arith, part_size-long n (omega (arith, ltb-false n 128 e)), length_size-most n))

-- the length of an element, by that of its contents, where it is far from the most
pub element-sized : (tag n r : ℕ) (contents : List ℕ) → n ≡ length contents → r ≡ capped (part_size n) → n + 6 < MOST_LENGTH → r ≡ length (written tag contents)
element-sized tag n r contents e is few = omega (arith, ap part_size e, length-written tag contents, part_size-most n, is, few)

pub element-few : (n r : ℕ) → r ≡ capped (part_size n) → r ≤ n + 6
element-few n r is = omega (arith, part_size-most n, is)

-- an element of fewer than 128 contents octets
pub short-sized : (tag : ℕ) (contents : List ℕ) → length contents < 128 → length (written tag contents) ≡ 2 + length contents
short-sized tag contents few = length-written tag contents ∙ part_size-short (length contents) few
