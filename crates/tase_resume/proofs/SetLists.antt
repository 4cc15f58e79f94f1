-- Lists of data sets of which no two have one name: what is left of them, one more behind them, and
-- how often a name stands among theirs.
use Rattle.std.proofs.Common.{◌≡◌, ℕ, ◌+◌, Bool, true, false, if◌then◌else◌, List, [], ◌∷◌, ◌++◌}
use Rattle.std.proofs.Common.{map, Option, Some, None, is_some, refl, sym, ap, ◌∙◌, arith, bytes_eq}
use Rattle.std.specs.Prelude.{option_map}
use Rattle.std.specs.List.{filter, find}
use Rattle.std.proofs.lemmas.Bool.{false≢true}
use Rattle.std.proofs.lemmas.Option.{none-some}
use Rattle.std.proofs.lemmas.Slice.Eq.{bytes_eq-Decides}
use Rattle.mms_data.specs.ObjectName.{ObjectName}
use Rattle.data_sets.specs.declared.book.DataSet.{DataSet}
use Rattle.data_sets.specs.Books.{is_set_named, members_in}
use Rattle.tase_resume.proofs.NameOrder.{one_if, count_of}
use Rattle.tase_resume.proofs.NamesThere.{once_if}

abbrev pub names_of : List DataSet → List (List ℕ)
names_of sets = map (λ (set : DataSet). set.name) sets

turned : (a b : List ℕ) → bytes_eq a b ≡ false → bytes_eq b a ≡ false
turned a b apart = by (bytes_eq b a) refl
  where
    by : (t : Bool) → bytes_eq b a ≡ t → bytes_eq b a ≡ false
    by true e =
        absurd (false≢true (sym apart
        ∙ (bytes_eq-Decides a b).1 (sym ((bytes_eq-Decides b a).0 e))))
    by false e = e

-- no two have one name
abbrev pub AreOnce : List DataSet → Type 0
AreOnce [] = Unit {0}
AreOnce (set ∷ sets) = (members_in sets set.name ≡ None) × AreOnce sets

-- those whose names pass a test
pub filter_members : (test : List ℕ → Bool) (sets : List DataSet) (z : List ℕ)
    → members_in (filter (λ (set : DataSet). test set.name) sets) z
    ≡ (if test z then members_in sets z else None)
filter_members test [] z = by (test z)
  where
    by : (b : Bool) → (let o : Option (List ObjectName) = None in o) ≡ (if b then None else None)
    by true = refl
    by false = refl
filter_members test (set ∷ sets) z =
    by (test set.name) refl (bytes_eq set.name z) refl (test z) refl (filter_members test sets z)
  where
    by : (b : Bool) → test set.name ≡ b → (c : Bool) → bytes_eq set.name z ≡ c → (d : Bool)
        → test z ≡ d
        → members_in (filter (λ (s : DataSet). test s.name) sets) z
        ≡ (if d then members_in sets z else None)
        → members_in (if b then set ∷ filter (λ (s : DataSet). test s.name) sets
        else filter (λ (s : DataSet). test s.name) sets) z
        ≡ (if d then option_map (λ (s : DataSet). s.members)
        (if c then Some set else find (is_set_named z) sets) else None)
    by true e true f true g rest = rw f refl
    by true e false f d g rest = rw f rest
    by false e false f d g rest = rest
    by false e true f false g rest = rest
    by true e true f false g rest =
        absurd (false≢true (sym g ∙ ap test (sym ((bytes_eq-Decides set.name z).0 f)) ∙ e))
    by false e true f true g rest =
        absurd (false≢true (sym e ∙ ap test ((bytes_eq-Decides set.name z).0 f) ∙ g))

pub filter_once : (test : List ℕ → Bool) (sets : List DataSet) → AreOnce sets
    → AreOnce (filter (λ (set : DataSet). test set.name) sets)
filter_once test [] once = tt
filter_once test (set ∷ sets) once = by (test set.name) (filter_once test sets once.1)
  where
    none_if : (b : Bool) (found : Option (List ObjectName)) → found ≡ None
        → (if b then found else None) ≡ None
    none_if true found none = none
    none_if false found none = refl

    by : (b : Bool) → AreOnce (filter (λ (s : DataSet). test s.name) sets)
        → AreOnce (if b then set ∷ filter (λ (s : DataSet). test s.name) sets
        else filter (λ (s : DataSet). test s.name) sets)
    by true rest =
        (filter_members test sets set.name ∙ none_if (test set.name) _ once.0, rest)
    by false rest = rest

-- one more behind them

members_push : (sets : List DataSet) (new : DataSet) (z : List ℕ)
    → members_in sets z ≡ None
    → members_in (sets ++ new ∷ []) z ≡ members_in (new ∷ []) z
members_push [] new z none = refl
members_push (set ∷ sets) new z none = by (bytes_eq set.name z) none (members_push sets new z)
  where
    by : (b : Bool)
        → option_map (λ (s : DataSet). s.members)
        (if b then Some set else find (is_set_named z) sets)
        ≡ None
        → (members_in sets z ≡ None
        → members_in (sets ++ new ∷ []) z ≡ members_in (new ∷ []) z)
        → option_map (λ (s : DataSet). s.members)
        (if b then Some set else find (is_set_named z) (sets ++ new ∷ []))
        ≡ members_in (new ∷ []) z
    by true n rest = absurd (none-some set.members (sym n))
    by false n rest = rest n

members_stay : (sets : List DataSet) (new : DataSet) (z : List ℕ) (members : List ObjectName)
    → members_in sets z ≡ Some members
    → members_in (sets ++ new ∷ []) z ≡ Some members
members_stay [] new z members is = absurd (none-some members is)
members_stay (set ∷ sets) new z members is =
    by (bytes_eq set.name z) is (members_stay sets new z members)
  where
    by : (b : Bool)
        → option_map (λ (s : DataSet). s.members)
        (if b then Some set else find (is_set_named z) sets)
        ≡ Some members
        → (members_in sets z ≡ Some members
        → members_in (sets ++ new ∷ []) z ≡ Some members)
        → option_map (λ (s : DataSet). s.members)
        (if b then Some set else find (is_set_named z) (sets ++ new ∷ []))
        ≡ Some members
    by true n rest = n
    by false n rest = rest n

one_named : (new : DataSet) (z : List ℕ) → bytes_eq new.name z ≡ true
    → members_in (new ∷ []) z ≡ Some new.members
one_named new z e = rw e refl

one_unnamed : (new : DataSet) (z : List ℕ) → bytes_eq new.name z ≡ false
    → members_in (new ∷ []) z ≡ None
one_unnamed new z e = rw e refl

none_first : (set : DataSet) (sets : List DataSet) (z : List ℕ)
    → members_in (set ∷ sets) z ≡ None
    → (bytes_eq set.name z ≡ false) × (members_in sets z ≡ None)
none_first set sets z none = by (bytes_eq set.name z) refl none
  where
    by : (b : Bool) → bytes_eq set.name z ≡ b
        → option_map (λ (s : DataSet). s.members)
        (if b then Some set else find (is_set_named z) sets)
        ≡ None
        → (bytes_eq set.name z ≡ false) × (members_in sets z ≡ None)
    by true e n = absurd (none-some set.members (sym n))
    by false e n = (e, n)

pub once_push : (sets : List DataSet) (new : DataSet) → AreOnce sets
    → members_in sets new.name ≡ None → AreOnce (sets ++ new ∷ [])
once_push [] new once none = (refl, tt)
once_push (set ∷ sets) new once none =
    let parts = none_first set sets new.name none in (
      members_push sets new set.name once.0
          ∙ one_unnamed new set.name (turned set.name new.name parts.0),
      once_push sets new once.1 parts.1,
    )

-- with one more, by its name
pub members_more : (sets : List DataSet) (new : DataSet) (z : List ℕ)
    → members_in sets new.name ≡ None
    → members_in (sets ++ new ∷ []) z
    ≡ (if bytes_eq new.name z then Some new.members else members_in sets z)
members_more sets new z none = by (bytes_eq new.name z) refl (members_in sets z) refl
  where
    by : (b : Bool) → bytes_eq new.name z ≡ b → (found : Option (List ObjectName))
        → members_in sets z ≡ found
        → members_in (sets ++ new ∷ []) z ≡ (if b then Some new.members else members_in sets z)
    by true e found is =
        members_push sets new z
        (ap (members_in sets) (sym ((bytes_eq-Decides new.name z).0 e)) ∙ none)
        ∙ one_named new z e
    by false e None is = members_push sets new z is ∙ one_unnamed new z e ∙ sym is
    by false e (Some members) is = members_stay sets new z members is ∙ sym is

-- how often a name stands among theirs

unnamed_count : (sets : List DataSet) (z : List ℕ) → members_in sets z ≡ None
    → count_of z (names_of sets) ≡ 0
unnamed_count [] z none = refl
unnamed_count (set ∷ sets) z none =
    let parts = none_first set sets z none in
    let rest = unnamed_count sets z parts.1 in
    let this : one_if z set.name ≡ 0 =
    rw (turned set.name z parts.0) refl in
    omega (arith, rest, this)

pub names_count : (sets : List DataSet) (z : List ℕ) → AreOnce sets
    → count_of z (names_of sets) ≡ once_if (is_some (members_in sets z))
names_count [] z once = refl
names_count (set ∷ sets) z once = by (bytes_eq set.name z) refl (names_count sets z once.1)
  where
    by : (b : Bool) → bytes_eq set.name z ≡ b
        → count_of z (names_of sets) ≡ once_if (is_some (members_in sets z))
        → one_if z set.name + count_of z (names_of sets)
        ≡ once_if (is_some (option_map (λ (s : DataSet). s.members)
        (if b then Some set else find (is_set_named z) sets)))
    by true e rest =
        let same : set.name ≡ z = (bytes_eq-Decides set.name z).0 e in
        let none : count_of z (names_of sets) ≡ 0 =
        unnamed_count sets z (ap (members_in sets) (sym same) ∙ once.0) in
        let this : one_if z set.name ≡ 1 =
        rw ((bytes_eq-Decides z set.name).1 (sym same)) refl in
        omega (arith, none, this)
    by false e rest =
        let this : one_if z set.name ≡ 0 = rw (turned set.name z e) refl in
        omega (arith, rest, this)
