-- What holds of values that octets spell, by the pieces of their grammars.
use Rattle.std.proofs.Common.{ℕ, zero, suc, List, [], ◌∷◌, Option, Some, None, sym, subst, inl, inr, arith}
use Rattle.std.specs.List.{All}
use Rattle.ber_values.specs.Reading.{Taken}
use Rattle.ber_values.specs.Grammars.{Grammar, gives, map_in, branch_in}
use Rattle.ber_values.specs.Parts.{Contents, part_in, choose_in, maybe_in, contents_as, all_in}
use Rattle.ber_values.specs.Lists.{BeginsList}

-- what holds of contents holds of the element
pub part-holds : {X : Type 0} (P : X → Type 0) (tag : ℕ) (c : Contents X) (at : ℕ) (os : List ℕ) (t : Taken X) → ((place : ℕ) (x : X) (inner : List ℕ) → c.spells place x inner → P x) → (part_in tag c).begins at os t → P t.value
unfolding part_in
part-holds P tag c at os t each h = subst (λ (u : Taken _). P u.value) (sym h.2.2) (each h.0.head.body h.2.0 h.0.contents h.2.1)

-- of an element that is chosen, or of the others
pub choose-holds : {X : Type 0} (P : X → Type 0) (tag : ℕ) (c : Contents X) (other : Grammar X) (at : ℕ) (os : List ℕ) (t : Taken X) → ((place : ℕ) (x : X) (inner : List ℕ) → c.spells place x inner → P x) → (other.begins at os t → P t.value) → (choose_in tag c other).begins at os t → P t.value
unfolding choose_in branch_in
choose-holds P tag c other at os t each others (inl h) = part-holds P tag c at os t each h.1
choose-holds P tag c other at os t each others (inr h) = others h.1

-- of an element that may be absent
pub maybe-holds : {X : Type 0} (P : Option X → Type 0) (tag : ℕ) (c : Contents X) (at : ℕ) (os : List ℕ) (t : Taken (Option X)) → P None → ((place : ℕ) (x : X) (inner : List ℕ) → c.spells place x inner → P (Some x)) → (maybe_in tag c).begins at os t → P t.value
unfolding maybe_in branch_in map_in gives
maybe-holds P tag c at os t none each (inl h) =
    let p = h.1 in
    subst (λ (u : Taken (Option _)). P u.value) (sym p.2) (part-holds (λ x. P (Some x)) tag c at os p.0 each p.1)
maybe-holds P tag c at os t none each (inr h) = subst (λ (u : Taken (Option _)). P u.value) (sym h.1) none

-- of a function of a value
pub map-holds : {X Y : Type 0} (P : Y → Type 0) (f : X → Y) (g : Grammar X) (at : ℕ) (os : List ℕ) (u : Taken Y) → ((t : Taken X) → g.begins at os t → P (f t.value)) → (map_in f g).begins at os u → P u.value
unfolding map_in
map-holds P f g at os u each h = subst (λ (v : Taken _). P v.value) (sym h.2) (each h.0 h.1)

pub as-holds : {X Y : Type 0} (P : Y → Type 0) (f : X → Y) (c : Contents X) → ((place : ℕ) (x : X) (inner : List ℕ) → c.spells place x inner → P (f x)) → (place : ℕ) (y : Y) (inner : List ℕ) → (contents_as f c).spells place y inner → P y
unfolding contents_as
as-holds P f c each place y inner h = subst P (sym h.2) (each place h.0 inner h.1)

-- of contents that are one thing
pub all-holds : {X : Type 0} (P : X → Type 0) (g : Grammar X) → ((at : ℕ) (os : List ℕ) (t : Taken X) → g.begins at os t → P t.value) → (at : ℕ) (x : X) (os : List ℕ) → (all_in g).spells at x os → P x
unfolding all_in
all-holds P g each at x os h = subst P (sym h.2.1) (each at os h.0 h.1)

-- of each element of a list
pub list-holds : {X : Type 0} (P : X → Type 0) (g : Grammar X) → ((at : ℕ) (os : List ℕ) (t : Taken X) → g.begins at os t → P t.value) → (xs : List X) (at : ℕ) (os : List ℕ) (end : ℕ) (rest : List ℕ) → BeginsList g at os xs end rest → All P xs
list-holds P g each [] at os end rest s k d lt = absurd (omega (arith, lt))
list-holds P g each (x ∷ xs) at os end rest s zero d lt = subst P (sym s.3) (each at os s.0 s.2)
list-holds P g each (x ∷ xs) at os end rest s (suc k) d lt = list-holds P g each xs s.0.next s.0.rest end rest s.4 k d (omega (arith, lt))
