-- What a grammar leaves is what stands from the next place on.
use Rattle.std.proofs.Common.{◌≡◌, ℕ, zero, suc, ◌+◌, ◌-◌, ◌≤◌, Bool, List, [], ◌∷◌}
use Rattle.std.proofs.Common.{◌++◌, length, drop, refl, sym, ap, subst, ◌∙◌, inl, inr, arith}
use Rattle.std.proofs.lemmas.List.{drop-drop, drop_at}
use Rattle.ber_values.specs.declared.fault.Why.{Why}
use Rattle.ber_values.specs.declared.head.Head.{Head}
use Rattle.ber_values.specs.Reading.{Taken}
use Rattle.ber_values.specs.Grammars.{Grammar, taken, gives, then_in, map_in, branch_in, first_is}
use Rattle.ber_values.specs.Grammars.{by_length, passed_within, passed_in}
use Rattle.ber_values.specs.Extents.{Extent, sized, definite, this_octet_in, spanned}
use Rattle.ber_values.specs.Extents.{closing, closed, indefinite}
use Rattle.ber_values.specs.Heads.{element_by, extent_within, extent_of}
use Rattle.ber_values.proofs.Passed.{drop_on}

-- what is left of the octets, and where
abbrev pub IsLeft : ℕ → List ℕ → ℕ → List ℕ → Type 0
IsLeft at octets next rest = (at ≤ next) × (rest ≡ drop (next - at) octets)

abbrev Follows : {X : Type 0} → Grammar X → Type 0
Follows {X} g = (at : ℕ) (octets : List ℕ) (t : Taken X) → g.begins at octets t
    → IsLeft at octets t.next t.rest

left-same : (at : ℕ) (octets : List ℕ) → IsLeft at octets at octets
left-same at octets =
    let none : 0 ≡ at - at = omega arith in
    (omega arith, ap (λ (n : ℕ). drop n octets) none)

-- what is left in two steps
left-then : (at next end : ℕ) (octets rest last : List ℕ) → IsLeft at octets next rest
    → IsLeft next rest end last → IsLeft at octets end last
left-then at next end octets rest last one two = (
  omega (arith, one.0, two.0),
  two.1 ∙ ap (drop (end - next)) one.1 ∙ drop_on at next end octets one.0 two.0,
)

left-as : {X : Type 0} (at : ℕ) (octets : List ℕ) (t : Taken X) (x : X) (next : ℕ)
    (rest : List ℕ) → t ≡ taken x next rest → IsLeft at octets next rest
    → IsLeft at octets t.next t.rest
left-as {X} at octets t x next rest is left =
    let P : Taken X → Type 0 = λ s. IsLeft at octets s.next s.rest in
    subst P (sym is) left

gives-follows : {X : Type 0} (x : X) → Follows (gives x)
unfolding gives
gives-follows x at octets t is = left-as at octets t x at octets is (left-same at octets)

then-follows : {X Y : Type 0} (g : Grammar X) (next : X → Grammar Y) → Follows g
    → ((x : X) → Follows (next x)) → Follows (then_in g next)
unfolding then_in
then-follows g next one two at octets u (t, first, second) =
    left-then at t.next u.next octets t.rest u.rest (one at octets t first)
    (two t.value t.next t.rest u second)

map-follows : {X Y : Type 0} (f : X → Y) (g : Grammar X) → Follows g → Follows (map_in f g)
unfolding map_in
map-follows f g one at octets u (t, begins, is) =
    left-as at octets u (f t.value) t.next t.rest is (one at octets t begins)

branch-follows : {X : Type 0} (test : List ℕ → Bool) (one other : Grammar X) → Follows one
    → Follows other → Follows (branch_in test one other)
unfolding branch_in
branch-follows test one other a b at octets t (inl (e, begins)) = a at octets t begins
branch-follows test one other a b at octets t (inr (e, begins)) = b at octets t begins

passed_within-follows : (g : Grammar (Unit {0})) (skips : ℕ → Bool) (n : ℕ) → Follows g
    → Follows (passed_within g skips n)
unfolding passed_within
passed_within-follows g skips zero one = gives-follows tt
passed_within-follows g skips (suc n) one =
    branch-follows (first_is skips) (then_in g (λ u. passed_within g skips n)) (gives tt)
    (then-follows g (λ u. passed_within g skips n) one
    (λ u. passed_within-follows g skips n one)) (gives-follows tt)

passed-follows : (g : Grammar (Unit {0})) (skips : ℕ → Bool) → Follows g
    → Follows (passed_in g skips)
unfolding passed_in by_length
passed-follows g skips one at octets = passed_within-follows g skips (length octets) one at octets

octet-follows : (octet : ℕ) (why : Why) → Follows (this_octet_in octet why)
unfolding this_octet_in
octet-follows octet why at [] t b = absurd b
octet-follows octet why at (first ∷ rest) t (same, is) =
    let one : 1 ≡ at + 1 - at = omega arith in
    left-as at (first ∷ rest) t tt (at + 1) rest is
    (omega arith, ap (λ (n : ℕ). drop n (first ∷ rest)) one)

spanned-follows : (g : Grammar (Unit {0})) → Follows g → Follows (spanned g)
unfolding spanned
spanned-follows g one at octets u (t, begins, is) =
    left-as at octets u _ t.next t.rest is (one at octets t begins)

definite-follows : Follows definite
unfolding definite
definite-follows at octets t b =
    let size = b.size in
    let spelling = b.size_spelled.spelling in
    let count : length spelling + size.value ≡ size.next + size.value - at =
    omega (arith, b.size_spelled.place) in
    let after : drop size.value size.rest ≡ drop (size.next + size.value - at) octets =
    ap (drop size.value) (sym (drop_at spelling size.rest (length spelling) refl))
    ∙ drop-drop size.value (length spelling) (spelling ++ size.rest)
    ∙ ap (λ (n : ℕ). drop n (spelling ++ size.rest)) count
    ∙ ap (drop (size.next + size.value - at)) (sym b.size_spelled.parts) in
    left-as at octets t (sized size).value (sized size).next (sized size).rest b.is
    (omega (arith, b.size_spelled.place), after)

indefinite-follows : (element : Grammar (Unit {0})) → Follows element
    → Follows (indefinite element)
unfolding indefinite closed closing
indefinite-follows element one =
    then-follows _ _ (octet-follows _ _) (λ u.
    then-follows _ _ (spanned-follows _ (passed-follows element _ one)) (λ extent.
    map-follows _ _ (then-follows _ _ (octet-follows _ _) (λ v. octet-follows _ _))))

-- of an element only that its place isn't before its tag is wanted
element-follows : (extents : Bool → Grammar Extent) → ((c : Bool) → Follows (extents c))
    → Follows (element_by extents)
unfolding element_by
element-follows extents each at octets u (head, h, is) =
    let after = each h.tag.value.constructed h.tag.next h.tag.rest h.extent h.extent_spelled in
    let next : head.next ≡ h.extent.next = ap (λ (x : Head). x.next) h.is in
    left-as at octets u tt head.next (drop (head.next - at) octets) is
    (omega (arith, after.0, next, h.tag_spelled.place), refl)

extents-follow : (room : ℕ) (constructed : Bool) → Follows (extent_within room constructed)
unfolding extent_within
extents-follow zero constructed = definite-follows
extents-follow (suc room) constructed =
    branch-follows _ (indefinite (element_by (extent_within room))) definite
    (indefinite-follows (element_by (extent_within room))
    (element-follows (extent_within room) (extents-follow room))) definite-follows

pub extent-after : (constructed : Bool) → Follows (extent_of constructed)
unfolding extent_of
extent-after constructed = extents-follow 16 constructed
