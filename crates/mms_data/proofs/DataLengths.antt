-- Lengths of the written form of data, and what holds of each member.
use Rattle.std.proofs.Common.{◌≡◌, ℕ, zero, suc, ◌+◌, ◌<◌, ◌≤◌, List, [], ◌∷◌, ◌++◌, length, take, get_or, sym, ap, ◌∙◌, append_assoc, append-nil, arith}
use Rattle.std.proofs.lemmas.List.{length-append, take_more}
use Rattle.ber_values.specs.Lengths.{capped, part_size}
use Rattle.ber_values.specs.Writing.{head_octets, written}
use Rattle.ber_values.specs.declared.lengths.TheConstants.{MOST_LENGTH}
use Rattle.ber_values.proofs.Capped.{capped-sum, length-written, part_size-more}
use Rattle.plain_text.proofs.Extended.{Extends-append}
use Rattle.mms_data.specs.Datum.{Datum, data_of, depth, deepest}
use Rattle.mms_data.specs.DataWritten.{datum_octets, members_octets}

-- one member more
pub members_octets-push : (ds : List Datum) (d : Datum) → members_octets (data_of (ds ++ d ∷ [])) ≡ members_octets (data_of ds) ++ datum_octets d
members_octets-push [] d = append-nil (datum_octets d)
members_octets-push (x ∷ xs) d =
    ap (λ os. datum_octets x ++ os) (members_octets-push xs d)
    ∙ sym (append_assoc (datum_octets x) (members_octets (data_of xs)) (datum_octets d))

pub members_octets-take : (ds : List Datum) (i : ℕ) (d : Datum) → i < length ds → members_octets (data_of (take (i + 1) ds)) ≡ members_octets (data_of (take i ds)) ++ datum_octets (get_or ds i d)
members_octets-take ds i d lt = rw (take_more ds i d lt) (members_octets-push (take i ds) (get_or ds i d))

pub capped-member : (ds : List Datum) (i : ℕ) (d : Datum) → i < length ds
    → capped (capped (length (members_octets (data_of (take i ds)))) + capped (length (datum_octets (get_or ds i d)))) ≡ capped (length (members_octets (data_of (take (i + 1) ds))))
capped-member ds i d lt =
    capped-sum (length (members_octets (data_of (take i ds)))) (length (datum_octets (get_or ds i d)))
    ∙ ap capped (sym (ap length (members_octets-take ds i d lt) ∙ length-append (members_octets (data_of (take i ds))) (datum_octets (get_or ds i d))))

-- the capped length of an element of these contents
pub element-written : (tag n r : ℕ) (contents : List ℕ) → n ≡ length contents
    → r ≡ capped (part_size n) → r ≡ capped (length (written tag contents))
element-written tag n r contents e is =
    is ∙ ap (λ k. capped (part_size k)) e ∙ ap capped (sym (length-written tag contents))

pub ruleset lengths = (capped-member)

-- contents are shorter than their element
pub few_contents : (tag : ℕ) (contents : List ℕ)
    → length contents + 2 ≤ length (written tag contents)
few_contents tag contents =
    omega (arith, length-written tag contents, part_size-more (length contents))

-- a member is no longer than all of them
pub member_few : (ds : List Datum) (i : ℕ) (d : Datum) → i < length ds
    → length (datum_octets (get_or ds i d)) ≤ length (members_octets (data_of ds))
member_few [] i d lt = absurd (omega (arith, lt))
member_few (x ∷ xs) zero d lt = omega (arith, length-append (datum_octets x) (members_octets (data_of xs)))
member_few (x ∷ xs) (suc i) d lt = omega (
  arith,
  member_few xs i d (omega (arith, lt)),
  length-append (datum_octets x) (members_octets (data_of xs)),
)

-- a member is no deeper than the deepest
pub member_shallow : (ds : List Datum) (i : ℕ) (d : Datum) → i < length ds
    → depth (get_or ds i d) ≤ deepest (data_of ds)
member_shallow [] i d lt = absurd (omega (arith, lt))
member_shallow (x ∷ xs) zero d lt = omega arith
member_shallow (x ∷ xs) (suc i) d lt = omega (arith, member_shallow xs i d (omega (arith, lt)))

-- a head, and the members after it
pub container-written : (tag len : ℕ) (old mid new contents : List ℕ)
    → len ≡ capped (length contents) → length contents < MOST_LENGTH
    → mid ≡ old ++ head_octets tag len → new ≡ mid ++ contents → new ≡ old ++ written tag contents
container-written tag len old mid new contents is few head tail =
    let same : len ≡ length contents = omega (arith, is, few) in
    tail ∙ ap (λ os. os ++ contents) (head ∙ ap (λ k. old ++ head_octets tag k) same)
    ∙ append_assoc old (head_octets tag (length contents)) contents

pub ruleset written_members = (members_octets-take, member_few, Extends-append)
