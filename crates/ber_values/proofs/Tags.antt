-- Reading a tag and a length is exact.
use Rattle.std.proofs.Common.{◌≡◌, ◌≢◌, ℕ, ◌+◌, ◌-◌, ◌*◌, ◌%◌, ◌<◌, ◌≤◌, true, false, not, ◌&&◌, cond, eqb, ltb, leb, List, [], ◌∷◌, ◌++◌, length, take, drop, Result, Ok, Err, MatchResult, refl, sym, ap, subst, ◌∙◌, inl, inr, ◌⊎◌, arith}
use Rattle.std.proofs.lemmas.Bool.{cond_both, eqb-true, eqb-false, ltb-true, ltb-false, leb-true, leb-false, lt-ltb, le-ltb, eq-eqb, ne_eqb, and_parts, and_cases, not-true, not-false}
use Rattle.std.proofs.lemmas.Bool.Decides.{nat_tests}
use Rattle.std.proofs.lemmas.List.{take_at, drop_at, take-append-drop, length-append, length-take}
use Rattle.ber_values.specs.declared.fault.BerFault.{BerFault}
use Rattle.ber_values.specs.declared.fault.Why.TheVariants as whys
use Rattle.ber_values.specs.declared.tag.Tag.{Tag}
use Rattle.ber_values.specs.Faults.{fault_at}
use Rattle.ber_values.specs.Octets.{number_of}
use Rattle.ber_values.specs.Reading.{Taken, Begins, IsReading}
use Rattle.ber_values.specs.Tags.{tag_with, SpellsTag, IsTagFront, IsTagTooLong, TagFault, SpellsLength, IsLengthFront, IsRefusedLength, LengthFault, third_tag_octet_in, second_tag_octet_in, tag_in, more_length_in, length_in}
use Rattle.ber_values.specs.Grammars.{first_is}
use Rattle.ber_values.proofs.Reading.{IsReading-from}

abbrev TagRight : ℕ → List ℕ → Result (Taken Tag) BerFault → Type 0
TagRight at octets read = MatchResult read (Begins Tag SpellsTag at octets) (TagFault at octets)

third_right : (at first high : ℕ) (octets : List ℕ) → first % 32 ≡ 31 → 128 ≤ high → TagRight at (first ∷ high ∷ octets) (third_tag_octet_in at first high octets)
third_right at first high [] ones more = inl ((ones, more), refl)
third_right at first high (low ∷ rest) ones more =
    cond_both (ltb low 128) (Ok (record { value = tag_with first ((high - 128) * 128 + low) true; next = at + 3; rest = rest })) (Err (fault_at at whys.Tag)) (TagRight at (first ∷ high ∷ low ∷ rest))
    (λ e. record { spelling = first ∷ high ∷ low ∷ []; spelled = (ones, more, ltb-true low 128 e, refl); parts = refl; place = refl })
    (λ e. inr ((ones, more, ltb-false low 128 e), refl))

second_right : (at first : ℕ) (octets : List ℕ) → first % 32 ≡ 31 → TagRight at (first ∷ octets) (second_tag_octet_in at first octets)
second_right at first [] ones = inl (ones, refl)
second_right at first (low ∷ rest) ones =
    cond_both (ltb low 128) (Ok (record { value = tag_with first low true; next = at + 2; rest = rest })) (third_tag_octet_in at first low rest) (TagRight at (first ∷ low ∷ rest))
    (λ e. record { spelling = first ∷ low ∷ []; spelled = (ones, ltb-true low 128 e, refl); parts = refl; place = refl })
    (λ e. third_right at first low rest ones (ltb-false low 128 e))

tag_right : (at : ℕ) (octets : List ℕ) → TagRight at octets (tag_in at octets)
unfolding tag_in
tag_right at [] = inl (tt, ap (λ (place : ℕ). fault_at place whys.Short) (omega arith))
tag_right at (first ∷ rest) =
    cond_both (eqb (first % 32) 31) (second_tag_octet_in at first rest) (Ok (record { value = tag_with first (first % 32) false; next = at + 1; rest = rest })) (TagRight at (first ∷ rest))
    (λ e. second_right at first rest (eqb-true (first % 32) 31 e))
    (λ e. record { spelling = first ∷ []; spelled = (eqb-false (first % 32) 31 e, refl); parts = refl; place = refl })

tag_again : (at : ℕ) (tag : Tag) (spelling rest : List ℕ) → SpellsTag tag spelling → tag_in at (spelling ++ rest) ≡ Ok (record { value = tag; next = at + length spelling; rest = rest })
unfolding tag_in
tag_again at tag [] rest h = elim h [ ]
tag_again at tag (first ∷ []) rest h = rw (ne_eqb (first % 32) 31 h.0) (ap (λ (t : Tag). Ok (record { value = t; next = at + 1; rest = rest })) (sym h.1))
tag_again at tag (first ∷ low ∷ []) rest h = rw (eq-eqb (first % 32) 31 h.0, lt-ltb low 128 h.1) (ap (λ (t : Tag). Ok (record { value = t; next = at + 2; rest = rest })) (sym h.2))
tag_again at tag (first ∷ high ∷ low ∷ []) rest h = rw (eq-eqb (first % 32) 31 h.0, le-ltb high 128 h.1, lt-ltb low 128 h.2) (ap (λ (t : Tag). Ok (record { value = t; next = at + 3; rest = rest })) (sym h.3))
tag_again at tag (a ∷ b ∷ c ∷ d ∷ more) rest h = elim h [ ]

short_again : (at : ℕ) (octets : List ℕ) → IsTagFront octets → tag_in at octets ≡ Err (fault_at (at + length octets) whys.Short)
unfolding tag_in
short_again at [] h = ap (λ (place : ℕ). Err (fault_at place whys.Short)) (omega arith)
short_again at (first ∷ []) h = rw (eq-eqb (first % 32) 31 h) refl
short_again at (first ∷ high ∷ []) h = rw (eq-eqb (first % 32) 31 h.0, le-ltb high 128 h.1) refl
short_again at (a ∷ b ∷ c ∷ more) h = elim h [ ]

long_again : (at : ℕ) (octets : List ℕ) → IsTagTooLong octets → tag_in at octets ≡ Err (fault_at at whys.Tag)
unfolding tag_in
long_again at [] h = elim h [ ]
long_again at (first ∷ []) h = elim h [ ]
long_again at (first ∷ high ∷ []) h = elim h [ ]
long_again at (first ∷ high ∷ low ∷ more) h = rw (eq-eqb (first % 32) 31 h.0, le-ltb high 128 h.1, le-ltb low 128 h.2) refl

-- what begins with a spelling is read so, where the spelling is, whatever follows
pub only_from : (X : Type 0) (Spells : X → List ℕ → Type 0) (read : ℕ → List ℕ → Result (Taken X) BerFault) → ((at : ℕ) (x : X) (spelling rest : List ℕ) → Spells x spelling → read at (spelling ++ rest) ≡ Ok (record { value = x; next = at + length spelling; rest = rest }))
    → (at : ℕ) (octets : List ℕ) (taken : Taken X) → Begins X Spells at octets taken → read at octets ≡ Ok taken
only_from X Spells read again at octets taken begins =
    ap (read at) begins.parts ∙ again at taken.value begins.spelling taken.rest begins.spelled ∙ ap (λ (next : ℕ). Ok (record { value = taken.value; next = next; rest = taken.rest })) (sym begins.place)

pub tag_reads : (at : ℕ) (octets : List ℕ) → IsReading (Taken Tag) (Begins Tag SpellsTag at octets) (TagFault at octets) (tag_in at octets)
tag_reads at octets =
    IsReading-from (Taken Tag) (Begins Tag SpellsTag at octets) (TagFault at octets) (tag_in at octets) (tag_right at octets)
    (only_from Tag SpellsTag tag_in tag_again at octets)
    (λ f h. elim h [ inl s ↦ short_again at octets s.0 ∙ ap (λ (g : BerFault). Err g) (sym s.1) | inr l ↦ long_again at octets l.0 ∙ ap (λ (g : BerFault). Err g) (sym l.1) ])

-- ---- lengths

abbrev LengthRight : ℕ → List ℕ → Result (Taken ℕ) BerFault → Type 0
LengthRight at octets read = MatchResult read (Begins ℕ SpellsLength at octets) (LengthFault at octets)

more_right : (at first : ℕ) (octets : List ℕ) → 128 < first → first ≤ 132 → LengthRight at (first ∷ octets) (more_length_in at (first - 128) octets)
more_right at first octets above below =
    let count = first - 128 in
    cond_both (ltb (length octets) count) (Err (fault_at (at + 1 + length octets) whys.Short)) (Ok (record { value = number_of (take count octets); next = at + 1 + count; rest = drop count octets })) (LengthRight at (first ∷ octets))
    (λ e. let lt : length octets < count = ltb-true (length octets) count e in inl ((below, omega arith), ap (λ (place : ℕ). fault_at place whys.Short) (omega arith)))
    (λ e.
    let le : count ≤ length octets = ltb-false (length octets) count e in
    let len : length (take count octets) ≡ count = omega (arith, length-take count octets) in
    record { spelling = first ∷ take count octets; spelled = inr (omega arith, omega arith, omega arith, refl); parts = ap (λ (more : List ℕ). first ∷ more) (sym (take-append-drop count octets)); place = omega arith })

length_right : (at : ℕ) (octets : List ℕ) → LengthRight at octets (length_in at octets)
unfolding length_in
length_right at [] = inl (tt, ap (λ (place : ℕ). fault_at place whys.Short) (omega arith))
length_right at (first ∷ rest) =
    cond_both (ltb first 128) (Ok (record { value = first; next = at + 1; rest = rest })) (cond (not (eqb first 128) && leb first 132) (more_length_in at (first - 128) rest) (Err (fault_at at whys.Length))) (LengthRight at (first ∷ rest))
    (λ e. record { spelling = first ∷ []; spelled = inl (ltb-true first 128 e, refl, refl); parts = refl; place = refl })
    (λ e. cond_both (not (eqb first 128) && leb first 132) (more_length_in at (first - 128) rest) (Err (fault_at at whys.Length)) (LengthRight at (first ∷ rest))
    (λ t. let p = and_parts (not (eqb first 128)) (leb first 132) t in
    let low : 128 ≤ first = ltb-false first 128 e in
    let other : first ≢ 128 = eqb-false first 128 (not-true _ p.0) in
    more_right at first rest (omega arith) (leb-true first 132 p.1))
    (λ t. inr (elim (and_cases (not (eqb first 128)) (leb first 132) t) [ inl s ↦ inl (eqb-true first 128 (not-false _ s)) | inr s ↦ inr (leb-false first 132 s) ], refl)))

allowed : (first : ℕ) → 128 < first → first ≤ 132 → (not (eqb first 128) && leb first 132) ≡ true
allowed first above below = grind (arith, nat_tests)

length_again : (at n : ℕ) (spelling rest : List ℕ) → SpellsLength n spelling → length_in at (spelling ++ rest) ≡ Ok (record { value = n; next = at + length spelling; rest = rest })
unfolding length_in
length_again at n [] rest h = elim h [ ]
length_again at n (first ∷ more) rest (inl (below, none, is)) =
    subst (λ (m : List ℕ). length_in at ((first ∷ m) ++ rest) ≡ Ok (record { value = n; next = at + length (first ∷ m); rest = rest })) (sym none) (rw (lt-ltb first 128 below) (ap (λ (k : ℕ). Ok (record { value = k; next = at + 1; rest = rest })) (sym is)))
length_again at n (first ∷ more) rest (inr (some, few, is, value)) =
    let count : first - 128 ≡ length more = omega arith in
    let long : ltb (length (more ++ rest)) (length more) ≡ false = le-ltb _ _ (omega (arith, length-append more rest)) in
    rw (le-ltb first 128 (omega arith), allowed first (omega arith) (omega arith), count, long, take_at more rest (length more) refl, drop_at more rest (length more) refl)
    (ap (λ (k : ℕ). Ok (record { value = k; next = at + 1 + length more; rest = rest })) (sym value) ∙ ap (λ (k : ℕ). Ok (record { value = n; next = k; rest = rest })) (omega arith))

length_short_again : (at : ℕ) (octets : List ℕ) → IsLengthFront octets → length_in at octets ≡ Err (fault_at (at + length octets) whys.Short)
unfolding length_in
length_short_again at [] h = ap (λ (place : ℕ). Err (fault_at place whys.Short)) (omega arith)
length_short_again at (first ∷ more) h =
    let short : ltb (length more) (first - 128) ≡ true = lt-ltb _ _ (omega (arith, h.1)) in
    rw (le-ltb first 128 (omega (arith, h.1)), allowed first (omega (arith, h.1)) h.0, short) (ap (λ (place : ℕ). Err (fault_at place whys.Short)) (omega arith))

refused : (first : ℕ) → (first ≡ 128) ⊎ (132 < first) → (not (eqb first 128) && leb first 132) ≡ false
refused first (inl is) = grind (arith, nat_tests)
refused first (inr above) = grind (arith, nat_tests)

not_short : (first : ℕ) → (first ≡ 128) ⊎ (132 < first) → 128 ≤ first
not_short first (inl is) = omega arith
not_short first (inr above) = omega arith

length_refused_again : (at : ℕ) (octets : List ℕ) → IsRefusedLength octets → length_in at octets ≡ Err (fault_at at whys.Length)
unfolding length_in
length_refused_again at [] h = elim h [ ]
length_refused_again at (first ∷ more) h = rw (le-ltb first 128 (not_short first h), refused first h) refl

pub length_reads : (at : ℕ) (octets : List ℕ) → IsReading (Taken ℕ) (Begins ℕ SpellsLength at octets) (LengthFault at octets) (length_in at octets)
length_reads at octets =
    IsReading-from (Taken ℕ) (Begins ℕ SpellsLength at octets) (LengthFault at octets) (length_in at octets) (length_right at octets)
    (only_from ℕ SpellsLength length_in length_again at octets)
    (λ f h. elim h [ inl s ↦ length_short_again at octets s.0 ∙ ap (λ (g : BerFault). Err g) (sym s.1) | inr l ↦ length_refused_again at octets l.0 ∙ ap (λ (g : BerFault). Err g) (sym l.1) ])

-- a length doesn't begin with the octet that stands in place of one
pub not_marked : (n : ℕ) (size more : List ℕ) → SpellsLength n size
    → first_is (λ first. eqb first 128) (size ++ more) ≡ false
not_marked n [] more s = elim s [ ]
not_marked n (first ∷ size) more (inl (below, none, is)) =
    ne_eqb first 128 (λ e. omega (arith, below, e))
not_marked n (first ∷ size) more (inr (some, few, is, value)) =
    ne_eqb first 128 (λ e. omega (arith, some, is, e))
