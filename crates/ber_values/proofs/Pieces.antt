-- Pieces of written forms: their lengths, one after another, and inside elements.
use Rattle.std.proofs.Common.{◌≡◌, ℕ, zero, suc, ◌+◌, ◌<◌, ◌≤◌, List, [], ◌∷◌, ◌++◌, length, take, get_or, flat_map, ℤ, sym, ap, ◌∙◌, append_assoc, arith}
use Rattle.std.proofs.lemmas.List.{length-append}
use Rattle.plain_text.proofs.Extended.{Extends-append}
use Rattle.ber_values.specs.Lengths.{capped, part_size}
use Rattle.ber_values.specs.Writing.{written, head_octets, integer_octets}
use Rattle.ber_values.specs.declared.lengths.TheConstants.{MOST_LENGTH}
use Rattle.ber_values.proofs.Capped.{capped-sum, capped-written, length-written, part_size-more, short-sized}
use Rattle.ber_values.proofs.WrittenParts.{each_written-more, element-written}

pub ruleset extended = (Extends-append)

-- ---- lists

-- an item's octets are no more than those of all
pub each_few : {X : Type 0} (spell : X → List ℕ) (xs : List X) (i : ℕ) (d : X) → i < length xs → length (spell (get_or xs i d)) ≤ length (flat_map spell xs)
each_few spell [] i d lt = absurd (omega (arith, lt))
each_few spell (x ∷ xs) zero d lt = omega (arith, length-append (spell x) (flat_map spell xs))
each_few spell (x ∷ xs) (suc i) d lt = omega (arith, each_few spell xs i d (omega (arith, lt)), length-append (spell x) (flat_map spell xs))

-- an item's capped length is below the most where that of all is
pub item-few : {X : Type 0} (spell : X → List ℕ) (xs : List X) (i : ℕ) (x d : X) → i < length xs → x ≡ get_or xs i d → length (flat_map spell xs) < MOST_LENGTH → capped (length (spell x)) < MOST_LENGTH
item-few spell xs i x d lt is few = omega (arith, each_few spell xs i d lt, ap (λ y. length (spell y)) is, few)

-- the capped length of the items so far, and of one more
pub capped-each : {X : Type 0} (spell : X → List ℕ) (xs : List X) (i : ℕ) (d : X) → i < length xs
    → capped (capped (length (flat_map spell (take i xs))) + capped (length (spell (get_or xs i d)))) ≡ capped (length (flat_map spell (take (i + 1) xs)))
capped-each spell xs i d lt =
    capped-sum (length (flat_map spell (take i xs))) (length (spell (get_or xs i d)))
    ∙ ap capped (sym (ap length (each_written-more spell xs i d lt) ∙ length-append (flat_map spell (take i xs)) (spell (get_or xs i d))))

pub ruleset summed = (capped-each)

pub ruleset written_each = (each_few, Extends-append)

-- ---- two pieces

pub capped-both : (a b : ℕ) (xs ys : List ℕ) → a ≡ capped (length xs) → b ≡ capped (length ys) → capped (a + b) ≡ capped (length (xs ++ ys))
capped-both a b xs ys e f = ap (λ (k : ℕ). capped (k + b)) e ∙ ap (λ (k : ℕ). capped (capped (length xs) + k)) f ∙ capped-sum (length xs) (length ys) ∙ ap capped (sym (length-append xs ys))

-- two pieces, one appended after the other
pub joined : (old mid new xs ys : List ℕ) → mid ≡ old ++ xs → new ≡ mid ++ ys → new ≡ old ++ (xs ++ ys)
joined old mid new xs ys e f = f ∙ ap (λ os. os ++ ys) e ∙ append_assoc old xs ys

-- each of two pieces has fewer octets than the most where both have
pub first-few : (one two : List ℕ) → length (one ++ two) < MOST_LENGTH → length one < MOST_LENGTH
first-few one two few = omega (arith, few, length-append one two)

-- ---- a piece, and the octets of a list whose items are seen as a slice

pub listed-few : {X : Type 0} (spell : List X → List ℕ) (one : List ℕ) {xs ys : List X} → ys ≡ xs → length (one ++ spell xs) < MOST_LENGTH → length (spell ys) < MOST_LENGTH
listed-few spell one {xs = xs} {ys = ys} same few = omega (arith, few, length-append one (spell xs), ap (λ zs. length (spell zs)) same)

pub listed-joined : {X : Type 0} (spell : List X → List ℕ) (old one : List ℕ) {mid new : List ℕ} {xs ys : List X} → ys ≡ xs → mid ≡ old ++ one → new ≡ mid ++ spell ys → new ≡ old ++ (one ++ spell xs)
listed-joined spell old one {mid = mid} {new = new} {xs = xs} {ys = ys} same first second = joined old mid new one (spell xs) first (second ∙ ap (λ zs. mid ++ spell zs) same)

-- the capped length of a piece and of an element that is such a list
pub listed-capped : {X : Type 0} (tag : ℕ) (spell : List X → List ℕ) (one : List ℕ) {a n p r : ℕ} {xs ys : List X} → ys ≡ xs → a ≡ capped (length one) → n ≡ capped (length (spell ys)) → p ≡ capped (part_size n) → r ≡ capped (a + p) → r ≡ capped (length (one ++ written tag (spell xs)))
listed-capped tag spell one {a = a} {n = n} {p = p} {xs = xs} same first items part sum =
    sum ∙ capped-both a p one (written tag (spell xs)) first
    (part ∙ capped-written tag n (spell xs) (items ∙ ap (λ zs. capped (length (spell zs))) same))

-- ---- an element

-- an integer's element, by the length of its contents
pub integer-sized : (tag n : ℕ) (value : ℤ) → n ≡ length (integer_octets value) → n ≤ 8
    → 2 + n ≡ length (written tag (integer_octets value))
integer-sized tag n value is few =
    omega (arith, is, short-sized tag (integer_octets value) (omega (arith, is, few)))

-- contents are shorter than their element
pub contents-few : {most : ℕ} (tag : ℕ) (contents : List ℕ) → length (written tag contents) < most → length contents < most
contents-few {most = most} tag contents few = omega (arith, few, length-written tag contents, part_size-more (length contents))

-- a head by a tag and a length that were told, and then the contents
pub tagged-written : (old contents : List ℕ) {tag told len : ℕ} {mid new : List ℕ} → told ≡ tag → len ≡ capped (length contents) → length (written tag contents) < MOST_LENGTH → mid ≡ old ++ head_octets told len → new ≡ mid ++ contents → new ≡ old ++ written tag contents
tagged-written old contents {tag = tag} {len = len} {mid = mid} {new = new} same is few head tail =
    let exact : len ≡ length contents = omega (arith, is, contents-few tag contents few) in
    element-written tag len old mid new contents exact (head ∙ ap (λ k. old ++ head_octets k len) same) tail
