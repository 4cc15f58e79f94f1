-- What octets spell is lawful, and what is lawful is spelled by its written form.
use Rattle.std.proofs.Common.{ℕ, zero, suc, ◌≤◌, List, [], ◌∷◌, sym, subst, inl, inr, arith}
use Rattle.ber_values.specs.Reading.{Taken}
use Rattle.ber_values.specs.Grammars.{Grammar, refused, branch_in}
use Rattle.ber_values.specs.Parts.{Contents, choose_in, part_in, contents_as}
use Rattle.ber_values.specs.Lists.{BeginsList, list_in}
use Rattle.ber_values.specs.Leaves as leaves
use Rattle.mms_data.specs.Datum.{Datum, boolean, integer, unsigned, bits, real, octets, text, Data, data_of, depth, deepest}
use Rattle.mms_data.specs.Floating.{floating}
use Rattle.mms_data.specs.DataOctets.{plain_datum, array_of, structure_of, datum_within, one_datum}
use Rattle.mms_data.specs.Lawful.{KeepsUnsigned, KeepUnsigned, IsLawful}

-- ---- what octets spell is lawful

-- at most so many levels, and no unsigned number too large
pub record IsLawfulWithin (n : ℕ) (d : Datum) : Type 0 where
  pub shallow : depth d ≤ n
  pub numbers : KeepsUnsigned d

pub record AreLawfulWithin (n : ℕ) (ds : Data) : Type 0 where
  pub shallow : deepest ds ≤ n
  pub numbers : KeepUnsigned ds

-- what is chosen by a tag has some value of the chosen contents
chosen_by : {X : Type 0} (P : X → Type 0) (tag : ℕ) (c : Contents X) (other : Grammar X) (at : ℕ) (os : List ℕ) (t : Taken X)
    → ((place : ℕ) (x : X) (inner : List ℕ) → c.spells place x inner → P x)
    → (other.begins at os t → P t.value) → (choose_in tag c other).begins at os t → P t.value
unfolding choose_in branch_in part_in
chosen_by P tag c other at os t spelled others (inl h) =
    let p = h.1 in subst (λ (u : Taken _). P u.value) (sym p.2.2) (spelled p.0.head.body p.2.0 p.0.contents p.2.1)
chosen_by P tag c other at os t spelled others (inr h) = others h.1

-- contents whose value is a function of another's
of_contents : {X Y : Type 0} (P : Y → Type 0) (f : X → Y) (c : Contents X) → ((place : ℕ) (x : X) (inner : List ℕ) → c.spells place x inner → P (f x)) → (place : ℕ) (y : Y) (inner : List ℕ) → (contents_as f c).spells place y inner → P y
unfolding contents_as
of_contents P f c each place y inner h = subst P (sym h.2) (each place h.0 inner h.1)

nothing_refused : (P : Datum → Type 0) (at : ℕ) (os : List ℕ) (t : Taken Datum) → (refused {X = Datum}).begins at os t → P t.value
unfolding refused
nothing_refused P at os t h = absurd h

small_natural : (n : ℕ) (place m : ℕ) (inner : List ℕ) → leaves.natural.spells place m inner → IsLawfulWithin (suc n) (unsigned m)
unfolding leaves.natural
small_natural n place m inner h = record { shallow = omega arith; numbers = h.1 }

plain_lawful : (n at : ℕ) (os : List ℕ) (t : Taken Datum) → plain_datum.begins at os t → IsLawfulWithin (suc n) t.value
unfolding plain_datum
plain_lawful n at os t =
    let P : Datum → Type 0 = IsLawfulWithin (suc n) in
    chosen_by P 131 _ _ at os t (of_contents P boolean leaves.boolean (λ place x inner s. record { shallow = omega arith; numbers = tt }))
    (chosen_by P 132 _ _ at os t (of_contents P bits leaves.bits (λ place x inner s. record { shallow = omega arith; numbers = tt }))
    (chosen_by P 133 _ _ at os t (of_contents P integer leaves.integer (λ place x inner s. record { shallow = omega arith; numbers = tt }))
    (chosen_by P 134 _ _ at os t (of_contents P unsigned leaves.natural (small_natural n))
    (chosen_by P 135 _ _ at os t (of_contents P real floating (λ place x inner s. record { shallow = omega arith; numbers = tt }))
    (chosen_by P 137 _ _ at os t (of_contents P octets leaves.raw (λ place x inner s. record { shallow = omega arith; numbers = tt }))
    (chosen_by P 138 _ _ at os t (of_contents P text leaves.visible (λ place x inner s. record { shallow = omega arith; numbers = tt }))
    (nothing_refused P at os t)))))))

members_lawful : (n : ℕ) (g : Grammar Datum) → ((at : ℕ) (os : List ℕ) (t : Taken Datum) → g.begins at os t → IsLawfulWithin n t.value)
    → (xs : List Datum) (at : ℕ) (os : List ℕ) (end : ℕ) (rest : List ℕ) → BeginsList g at os xs end rest → AreLawfulWithin n (data_of xs)
members_lawful n g each [] at os end rest s = record { shallow = omega arith; numbers = tt }
members_lawful n g each (x ∷ xs) at os end rest s =
    let t = s.0 in
    let first : IsLawfulWithin n x = subst (IsLawfulWithin n) (sym s.3) (each at os t s.2) in
    let others : AreLawfulWithin n (data_of xs) = members_lawful n g each xs t.next t.rest end rest s.4 in
    record { shallow = omega (arith, first.shallow, others.shallow); numbers = (first.numbers, others.numbers) }

list_lawful : (n : ℕ) (g : Grammar Datum) → ((at : ℕ) (os : List ℕ) (t : Taken Datum) → g.begins at os t → IsLawfulWithin n t.value)
    → (place : ℕ) (xs : List Datum) (inner : List ℕ) → (list_in 0 g).spells place xs inner → AreLawfulWithin n (data_of xs)
unfolding list_in
list_lawful n g each place xs inner s = members_lawful n g each xs place inner s.end [] s.spelled

pub lawful_within : (n at : ℕ) (os : List ℕ) (t : Taken Datum) → (datum_within n).begins at os t → IsLawfulWithin n t.value
unfolding datum_within
lawful_within zero at os t h = nothing_refused (IsLawfulWithin 0) at os t h
lawful_within (suc n) at os t h =
    let P : Datum → Type 0 = IsLawfulWithin (suc n) in
    chosen_by P 161 _ _ at os t (of_contents P array_of (list_in 0 (datum_within n)) (λ place xs inner s. (let m = list_lawful n (datum_within n) (lawful_within n) place xs inner s in record { shallow = omega (arith, m.shallow); numbers = m.numbers })))
    (chosen_by P 162 _ _ at os t (of_contents P structure_of (list_in 0 (datum_within n)) (λ place xs inner s. (let m = list_lawful n (datum_within n) (lawful_within n) place xs inner s in record { shallow = omega (arith, m.shallow); numbers = m.numbers })))
    (plain_lawful n at os t)) h

-- what octets begin with is lawful
pub datum_lawful : (at : ℕ) (os : List ℕ) (t : Taken Datum) → one_datum.begins at os t → IsLawful t.value
unfolding one_datum
datum_lawful at os t h = let l = lawful_within _ at os t h in record { shallow = l.shallow; numbers = l.numbers }
