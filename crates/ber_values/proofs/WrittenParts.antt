-- Written forms of what grammars read: their lengths, and that they are read back, whatever follows.
use Rattle.std.proofs.Common.{◌≡◌, ℕ, zero, suc, ◌+◌, ◌-◌, ◌^◌, ◌≤◌, ◌<◌, Bool, true, false, ◌%◌, ◌≢◌, List, [], ◌∷◌, ◌++◌, length, take, drop, get_or, flat_map, Some, None, Ok, refl, sym, ap, subst, ◌∙◌, inl, inr, append_assoc, append-nil, arith}
use Rattle.std.proofs.lemmas.List.{length-append, take_more, drop_at}
use Rattle.std.proofs.lemmas.List.Concat.{flat_map-append}
use Rattle.ber_values.specs.Writing.{head_octets, length_octets, written}
use Rattle.ber_values.specs.Grammars.{Grammar, taken, gives, then_in, map_in, branch_in, has_tag, first_is, by_length, passed_within, passed_in}
use Rattle.ber_values.specs.Passing.{skip, pass_within, pass_in}
use Rattle.ber_values.specs.Heads.{element_by}
use Rattle.ber_values.specs.Parts.{Contents, part_in, maybe_in, all_in, whole_in}
use Rattle.ber_values.specs.Lists.{BeginsList, count_in, list_in}
use Rattle.ber_values.proofs.Written.{head_written, head_written-next, head_spelled}
use Rattle.ber_values.proofs.Grammars.{skip_reads, part-written}
use Rattle.ber_values.proofs.Passed.{PassedSoFar, passed-more}

-- a head, and the contents after it
pub element-written : (tag len : ℕ) (old mid new contents : List ℕ) → len ≡ length contents → mid ≡ old ++ head_octets tag len → new ≡ mid ++ contents → new ≡ old ++ written tag contents
element-written tag len old mid new contents is head tail =
    tail ∙ ap (λ os. os ++ contents) (head ∙ ap (λ k. old ++ head_octets tag k) is)
    ∙ append_assoc old (head_octets tag (length contents)) contents

-- ---- lists

-- the written forms of items, one more than before
pub each_written-more : {X : Type 0} (spell : X → List ℕ) (xs : List X) (i : ℕ) (d : X) → i < length xs → flat_map spell (take (i + 1) xs) ≡ flat_map spell (take i xs) ++ spell (get_or xs i d)
each_written-more spell xs i d lt =
    ap (flat_map spell) (take_more xs i d lt) ∙ flat_map-append spell (take i xs) (get_or xs i d ∷ [])
    ∙ ap (λ os. flat_map spell (take i xs) ++ os) (append-nil (spell (get_or xs i d)))

-- ---- what is written is read back

-- octets, which stand at this place, begin whatever follows them with this value
abbrev pub Writes : {X : Type 0} → Grammar X → ℕ → X → List ℕ → Type 0
Writes g at x octets = (rest : List ℕ) → g.begins at (octets ++ rest) (taken x (at + length octets) rest)

-- octets, which stand at this place, are this value
abbrev pub Ends : {X : Type 0} → Grammar X → ℕ → X → List ℕ → Type 0
Ends g at x octets = g.begins at octets (taken x (at + length octets) [])

pub ends_of : {X : Type 0} (g : Grammar X) (at : ℕ) (x : X) (octets : List ℕ) → Writes g at x octets → Ends g at x octets
ends_of g at x octets w = subst (λ os. g.begins at os (taken x (at + length octets) [])) (append-nil octets) (w [])

pub then-ends : {X Y : Type 0} (g : Grammar X) (next : X → Grammar Y) (at : ℕ) (x : X) (one : List ℕ) (y : Y) (two : List ℕ) → Writes g at x one → Ends (next x) (at + length one) y two → Ends (then_in g next) at y (one ++ two)
unfolding then_in
then-ends {X} {Y} g next at x one y two w e =
    let far : at + length one + length two ≡ at + length (one ++ two) = omega (arith, length-append one two) in (
      taken x (at + length one) two,
      w two,
      subst (λ (k : ℕ). (next x).begins (at + length one) two (taken y k [])) far e,
    )

pub then-writes : {X Y : Type 0} (g : Grammar X) (next : X → Grammar Y) (at : ℕ) (x : X) (one : List ℕ) (y : Y) (two : List ℕ) → Writes g at x one → Writes (next x) (at + length one) y two → Writes (then_in g next) at y (one ++ two)
unfolding then_in
then-writes {X} {Y} g next at x one y two w v rest =
    let far : at + length one + length two ≡ at + length (one ++ two) = omega (arith, length-append one two) in
    subst (λ os. (then_in g next).begins at os (taken y (at + length (one ++ two)) rest)) (sym (append_assoc one two rest)) (
      taken x (at + length one) (two ++ rest),
      w (two ++ rest),
      subst (λ (k : ℕ). (next x).begins (at + length one) (two ++ rest) (taken y k rest)) far (v rest),
    )

pub map-writes : {X Y : Type 0} (f : X → Y) (g : Grammar X) (at : ℕ) (x : X) (octets : List ℕ) → Writes g at x octets → Writes (map_in f g) at (f x) octets
unfolding map_in
map-writes f g at x octets w rest = (taken x (at + length octets) rest, w rest, refl)

pub map-ends : {X Y : Type 0} (f : X → Y) (g : Grammar X) (at : ℕ) (x : X) (octets : List ℕ) → Ends g at x octets → Ends (map_in f g) at (f x) octets
unfolding map_in
map-ends f g at x octets e = (taken x (at + length octets) [], e, refl)

-- an element, whose contents stand after its head
pub part-writes : {X : Type 0} (tag : ℕ) (c : Contents X) (at : ℕ) (x : X) (contents : List ℕ) → length contents < 2 ^ 32 → c.spells (at + 1 + length (length_octets (length contents))) x contents → Writes (part_in tag c) at x (written tag contents)
part-writes tag c at x contents few s rest = part-written tag c at x contents rest few s

pub all-spelled : {X : Type 0} (g : Grammar X) (at : ℕ) (x : X) (octets : List ℕ) → Ends g at x octets → (all_in g).spells at x octets
unfolding all_in
all-spelled g at x octets e = (taken x (at + length octets) [], e, (refl, refl))

pub whole-begins : {X : Type 0} (g : Grammar X) (at : ℕ) (x : X) (octets : List ℕ) → Ends g at x octets → Ends (whole_in g) at x octets
unfolding whole_in
whole-begins g at x octets e = (taken x (at + length octets) [], e, (refl, refl))

-- nothing is passed over where the first octet doesn't pass the test
none_within : (skips : ℕ → Bool) (n at : ℕ) (octets : List ℕ) → first_is skips octets ≡ false → (pass_within skips n).begins at octets (taken tt at octets)
unfolding passed_within branch_in gives
none_within skips zero at octets other = refl
none_within skips (suc n) at octets other = inr (other, refl)

pub none_passed : (skips : ℕ → Bool) (at : ℕ) (octets : List ℕ) → first_is skips octets ≡ false → (pass_in skips).begins at octets (taken tt at octets)
unfolding pass_in passed_in by_length
none_passed skips at octets other = none_within skips (length octets) at octets other

-- an element that was written is passed over
pub skip-read : (tag at : ℕ) (contents rest : List ℕ) → length contents < 2 ^ 32 → tag % 32 ≢ 31 → skip.reading at (written tag contents ++ rest) ≡ Ok (taken tt (at + length (written tag contents)) rest)
unfolding skip element_by
skip-read tag at contents rest few single =
    let octets = written tag contents ++ rest in
    let head = head_written tag at contents in
    let next : at + length (written tag contents) ≡ head.next = omega (arith, head_written-next tag at contents, length-append (length_octets (length contents)) contents) in
    let count : length (written tag contents) ≡ head.next - at = omega (arith, next) in
    let after : rest ≡ drop (head.next - at) octets = sym (drop_at (written tag contents) rest (head.next - at) count) in
    (skip_reads at octets).only (taken tt (at + length (written tag contents)) rest)
    (head, head_spelled tag at contents rest few single, ap (λ (k : ℕ). taken tt k rest) next ∙ ap (λ (os : List ℕ). taken tt head.next os) after)

-- so a loop over such elements goes on after it
pub passed-written : (skips : ℕ → Bool) (start : ℕ) (whole : List ℕ) (tag at : ℕ) (contents rest : List ℕ) → length contents < 2 ^ 32 → tag % 32 ≢ 31 → skips tag ≡ true
    → PassedSoFar skip skips start whole at (written tag contents ++ rest) → PassedSoFar skip skips start whole (at + length (written tag contents)) rest
passed-written skips start whole tag at contents rest few single passes s =
    let octets = written tag contents ++ rest in
    let size = length (written tag contents) in
    let back : drop (at + size - at) octets ≡ rest = drop_at (written tag contents) rest (at + size - at) (omega arith) in
    let read = skip-read tag at contents rest few single ∙ ap (λ (os : List ℕ). Ok (taken tt (at + size) os)) (sym back) in
    subst (PassedSoFar skip skips start whole (at + size)) back
    (passed-more skip skips start whole at octets (at + size) passes read (omega arith) (omega (arith, length-append (written tag contents) rest)) s)

-- ---- lists that are read back

some_first : (xs ys : List ℕ) → 0 < length xs → (xs ++ ys) ≡ [] → ⊥
some_first [] ys some e = omega (arith, some)
some_first (x ∷ xs) ys some e = cc

-- each value is read back from its octets, of which it has some
pub record WritesEach {X : Type 0} (g : Grammar X) (spell : X → List ℕ) (x : X) : Type 0 where
  pub some : 0 < length (spell x)
  pub writes : (at : ℕ) → Writes g at x (spell x)

abbrev pub WriteAll : {X : Type 0} → Grammar X → (X → List ℕ) → List X → Type 0
WriteAll g spell [] = Unit {0}
WriteAll g spell (x ∷ xs) = WritesEach g spell x × WriteAll g spell xs

pub list-begins : {X : Type 0} (g : Grammar X) (spell : X → List ℕ) (at : ℕ) (xs : List X) → WriteAll g spell xs → BeginsList g at (flat_map spell xs) xs (at + length (flat_map spell xs)) []
list-begins g spell at [] each = (omega arith, refl)
list-begins g spell at (x ∷ xs) each =
    let next = at + length (spell x) in
    let ends : next + length (flat_map spell xs) ≡ at + length (spell x ++ flat_map spell xs) = omega (arith, length-append (spell x) (flat_map spell xs)) in (
      taken x next (flat_map spell xs),
      some_first (spell x) (flat_map spell xs) each.0.some,
      each.0.writes at (flat_map spell xs),
      refl,
      subst (λ (k : ℕ). BeginsList g next (flat_map spell xs) xs k []) ends (list-begins g spell next xs each.1),
    )

pub list-few : {X : Type 0} (g : Grammar X) (spell : X → List ℕ) (xs : List X) → WriteAll g spell xs → length xs ≤ length (flat_map spell xs)
list-few g spell [] each = omega arith
list-few g spell (x ∷ xs) each = omega (arith, list-few g spell xs each.1, each.0.some, length-append (spell x) (flat_map spell xs))

pub list-spelled : {X : Type 0} (g : Grammar X) (spell : X → List ℕ) (least at : ℕ) (xs : List X) → least ≤ length xs → WriteAll g spell xs → (list_in least g).spells at xs (flat_map spell xs)
unfolding list_in
list-spelled g spell least at xs enough each = record { end = at + length (flat_map spell xs); spelled = list-begins g spell at xs each; enough = enough; few = list-few g spell xs each }

pub count-spelled : {X : Type 0} (g : Grammar X) (spell : X → List ℕ) (least most at : ℕ) (xs : List X) → least ≤ length xs → length xs ≤ most → WriteAll g spell xs → (count_in least most g).spells at xs (flat_map spell xs)
unfolding count_in
count-spelled g spell least most at xs enough few each = record { end = at + length (flat_map spell xs); spelled = list-begins g spell at xs each; enough = enough; few = few }

-- ---- elements that may be absent

-- one that is absent
pub maybe-none : {X : Type 0} (tag : ℕ) (c : Contents X) (at : ℕ) (octets : List ℕ) → has_tag tag octets ≡ false → (maybe_in tag c).begins at octets (taken None at octets)
unfolding maybe_in branch_in gives
maybe-none tag c at octets other = inr (other, refl)

-- one that is there
pub maybe-some : {X : Type 0} (tag : ℕ) (c : Contents X) (at : ℕ) (x : X) (octets rest : List ℕ) (end : ℕ) → has_tag tag octets ≡ true → (part_in tag c).begins at octets (taken x end rest) → (maybe_in tag c).begins at octets (taken (Some x) end rest)
unfolding maybe_in branch_in map_in
maybe-some tag c at x octets rest end has b = inl (has, (taken x end rest, b, refl))

-- two, one after the other, where what follows the first has a say in how it is read
pub before-ends : {X Y : Type 0} (g : Grammar X) (next : X → Grammar Y) (at : ℕ) (x : X) (one : List ℕ) (y : Y) (two : List ℕ) → g.begins at (one ++ two) (taken x (at + length one) two) → Ends (next x) (at + length one) y two → Ends (then_in g next) at y (one ++ two)
unfolding then_in
before-ends {X} {Y} g next at x one y two b e =
    let far : at + length one + length two ≡ at + length (one ++ two) = omega (arith, length-append one two) in (
      taken x (at + length one) two,
      b,
      subst (λ (k : ℕ). (next x).begins (at + length one) two (taken y k [])) far e,
    )
