-- What each item of a list keeps, and what data keep of whose parts the same is known.
use Rattle.std.proofs.Common.{◌≡◌, ℕ, ◌+◌, ◌<◌, ◌≤◌, true, List, [], ◌∷◌, length, take}
use Rattle.std.proofs.Common.{get_or, refl, subst, sym, arith, suc}
use Rattle.std.specs.List.{All, list_all}
use Rattle.std.proofs.lemmas.Bool.Decides.{nat_tests}
use Rattle.std.proofs.lemmas.List.{take_all}
use Rattle.std.proofs.lemmas.List.Elements.{All-more, All-head, All-tail, All-nil, All-cons}
use Rattle.plain_text.specs.Escaped.{is_octet}
use Rattle.mms_data.specs.Datum.{Datum, data_of, structure, array}
use Rattle.mms_data.specs.Lawful.{IsLawful, KeepsUnsigned, KeepUnsigned}
use Rattle.mms_data.specs.Text.TextRead.{IsTextual, AreTextual, HasText}

-- one item more keeps it
pub one_more : {X : Type 0} (P : X → Type 0) (xs : List X) (i : ℕ) (x : X) → i < length xs
    → x ≡ get_or xs i x → P x → All P (take i xs) → All P (take (i + 1) xs)
one_more P xs i x h is keeps all = All-more P xs i x h all (subst P is keeps)

-- all items keep it
pub all_kept : {X : Type 0} (P : X → Type 0) (xs : List X) (i : ℕ) → length xs ≤ i
    → All P (take i xs) → All P xs
all_kept P xs i h all = subst (λ (ys : List _). All P ys) (take_all i xs h) all

pub octets_all : (os : List ℕ) → ((i : ℕ) → get_or os i 0 < 256) → list_all is_octet os ≡ true
octets_all [] each = refl
octets_all (o ∷ os) each =
    let first : is_octet o ≡ true = octet o (each 0) in
    rw (first, octets_all os (λ i. each (suc i))) refl
  where
    octet : (o : ℕ) → o < 256 → is_octet o ≡ true
    octet o h = grind (arith, nat_tests, h)

-- a value that a text spells, where its unsigned numbers are small enough
abbrev pub IsSpelled : Datum → Type 0
IsSpelled d = KeepsUnsigned d → IsTextual d

pub members_spelled : (ds : List Datum) → All IsSpelled ds → KeepUnsigned (data_of ds)
    → AreTextual (data_of ds)
members_spelled [] all keep = tt
members_spelled (d ∷ ds) all keep = (
  All-head IsSpelled d ds all keep.0,
  members_spelled ds (All-tail IsSpelled d ds all) keep.1,
)

pub structure_spelled : (d : Datum) (ds : List Datum) → d ≡ structure (data_of ds)
    → All IsSpelled ds → IsSpelled d
structure_spelled d ds is all = subst IsSpelled (sym is) (members_spelled ds all)

pub array_spelled : (d : Datum) (ds : List Datum) → d ≡ array (data_of ds)
    → All IsSpelled ds → IsSpelled d
array_spelled d ds is all = subst IsSpelled (sym is) (members_spelled ds all)

pub all_spelled : (ds : List Datum) → All IsSpelled ds → All IsLawful ds → All HasText ds
all_spelled [] all lawful = All-nil HasText
all_spelled (d ∷ ds) all lawful =
    let first = All-head IsLawful d ds lawful in
    All-cons HasText d ds
    (record { shallow = first.shallow; parts = All-head IsSpelled d ds all first.numbers })
    (all_spelled ds (All-tail IsSpelled d ds all) (All-tail IsLawful d ds lawful))
