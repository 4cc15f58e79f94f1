-- Reading what stands behind a tag, step by step.
use Rattle.std.proofs.Common.{◌≡◌, ℕ, zero, suc, ◌+◌, ◌-◌, ◌<◌, ◌≤◌, Bool, true, false, List, []}
use Rattle.std.proofs.Common.{◌∷◌, length, drop, Ok, Err, refl, arith}
use Rattle.std.proofs.lemmas.Bool.{false≢true, and_parts}
use Rattle.ber_values.specs.declared.fault.BerFault.{BerFault}
use Rattle.ber_values.specs.declared.head.Head.{Head}
use Rattle.ber_values.specs.Grammars.{Grammar, taken, then_in, map_in, branch_in, passed_in}
use Rattle.ber_values.specs.Extents.{Extent, definite, this_octet_in, extent_to, spanned, closing}
use Rattle.ber_values.specs.Extents.{is_element, closed, indefinite, is_indefinite}
use Rattle.ber_values.specs.Heads.{head_by, element_by, extent_within, IsHeadWithin}

-- ---- an element

pub element-read : (extents : Bool → Grammar Extent) (at : ℕ) (octets : List ℕ) (head : Head)
    → Ok head ≡ head_by extents at octets → (element_by extents).reading at octets
    ≡ Ok (taken tt head.next (drop (head.next - at) octets))
unfolding element_by
element-read extents at octets head read = rw (← read) refl

pub element-fails : (extents : Bool → Grammar Extent) (at : ℕ) (octets : List ℕ) (f : BerFault)
    → Err f ≡ head_by extents at octets → (element_by extents).reading at octets ≡ Err f
unfolding element_by
element-fails extents at octets f read = rw (← read) refl

pub head-later : (at end : ℕ) (head : Head) → IsHeadWithin at end head → at < head.next
head-later at end head w = omega (arith, w.after_tag, w.after_length, w.order, w.after)

-- ---- contents that end themselves

pub closed-fails : (g : Grammar (Unit {0})) (at : ℕ) (octets : List ℕ) (f : BerFault)
    → (passed_in g is_element).reading at octets ≡ Err f → (closed g).reading at octets ≡ Err f
unfolding closed then_in spanned
closed-fails g at octets f read = rw read refl

pub closed-open : (g : Grammar (Unit {0})) (at : ℕ) (octets : List ℕ) (next : ℕ)
    (rest : List ℕ) (f : BerFault)
    → (passed_in g is_element).reading at octets ≡ Ok (taken tt next rest)
    → closing.reading next rest ≡ Err f → (closed g).reading at octets ≡ Err f
unfolding closed then_in spanned map_in
closed-open g at octets next rest f read ends = rw (read, ends) refl

pub closed-read : (g : Grammar (Unit {0})) (at : ℕ) (octets : List ℕ) (next : ℕ)
    (rest : List ℕ) (end : ℕ) (last : List ℕ)
    → (passed_in g is_element).reading at octets ≡ Ok (taken tt next rest)
    → closing.reading next rest ≡ Ok (taken tt end last)
    → (closed g).reading at octets ≡ Ok (taken (extent_to at octets next) end last)
unfolding closed then_in spanned map_in
closed-read g at octets next rest end last read ends = rw (read, ends) refl

-- ---- which of the two

pub indefinite-some : (constructed : Bool) (octets : List ℕ)
    → is_indefinite constructed octets ≡ true → 1 ≤ length octets
indefinite-some constructed [] e = absurd (false≢true (and_parts constructed false e).1)
indefinite-some constructed (first ∷ octets) e = omega arith

pub extent-definite : (room : ℕ) (constructed : Bool) (at : ℕ) (octets : List ℕ)
    → is_indefinite constructed octets ≡ false
    → (extent_within room constructed).reading at octets ≡ definite.reading at octets
unfolding extent_within branch_in
extent-definite zero constructed at octets e = refl
extent-definite (suc room) constructed at octets e = rw e refl

pub extent-none : (room : ℕ) (constructed : Bool) (at : ℕ) (octets : List ℕ) → room ≤ 0
    → (extent_within room constructed).reading at octets ≡ definite.reading at octets
unfolding extent_within
extent-none zero constructed at octets none = refl
extent-none (suc room) constructed at octets none = absurd (omega (arith, none))

marked : (g : Grammar (Unit {0})) (constructed : Bool) (at : ℕ) (octets : List ℕ)
    → is_indefinite constructed octets ≡ true
    → (indefinite g).reading at octets ≡ (closed g).reading (at + 1) (drop 1 octets)
unfolding indefinite then_in this_octet_in
marked g constructed at [] e = absurd (false≢true (and_parts constructed false e).1)
marked g constructed at (first ∷ octets) e = rw (and_parts constructed _ e).1 refl

pub extent-closed : (room : ℕ) (constructed : Bool) (at : ℕ) (octets : List ℕ) → 0 < room
    → is_indefinite constructed octets ≡ true
    → (extent_within room constructed).reading at octets
    ≡ (closed (element_by (extent_within (room - 1)))).reading (at + 1) (drop 1 octets)
unfolding extent_within branch_in
extent-closed zero constructed at octets some e = absurd (omega (arith, some))
extent-closed (suc room) constructed at octets some e =
    let less : suc room - 1 ≡ room = omega arith in
    rw (e, less) (marked (element_by (extent_within room)) constructed at octets e)
