-- The reports that are made of transfer sets are those that the view has.
use Rattle.std.proofs.Common.{◌≡◌, ◌==◌, ◌≤◌, ◌<◌, ◌+◌, ℕ, Bool, true, false, ◌≢◌, ◌||◌, List}
use Rattle.std.proofs.Common.{[], ◌∷◌, ◌++◌, map, length, take, drop, get_or, Option}
use Rattle.std.proofs.Common.{Result, Ok, Err, OnOk, refl, sym, ap, subst, ◌∙◌, arith}
use Rattle.std.proofs.Common.{inl, inr, min, length-drop}
use Rattle.std.specs.Prelude.{if◌then◌else◌, ◌⊎◌}
use Rattle.std.specs.List.{All, list_any}
use Rattle.std.proofs.lemmas.Bool.{cases_eq, false≢true, ne_eqb}
use Rattle.std.proofs.lemmas.Bool.Decides.{nat_tests}
use Rattle.std.proofs.lemmas.List.{append_assoc, append-nil, take_min, drop_min, at_drop_more}
use Rattle.std.proofs.lemmas.List.{at_drop_all}
use Rattle.mms_data.specs.ObjectName.{ObjectName}
use Rattle.transfer_sets.specs.declared.noted.Noted.{Noted}
use Rattle.tase_views.specs.OwnTables.{OwnTable}
use Rattle.tase_views.specs.Objects.{Object, object_named}
use Rattle.tase_views.specs.View.{View}
use Rattle.tase_views.specs.Reports.{Told, told_of, members_where, parts_within, parts_of}
use Rattle.tase_views.specs.Reports.{is_variable}

-- what is added for an item more of a list, ahead of what the rest gives
pub stepped : {A B : Type 0} (g : List A → List B) (xs : List A) (i : ℕ) (x : A)
    (done all added : List B) → i < length xs → x ≡ get_or xs i x → all ≡ done ++ added
    → g (x ∷ drop (i + 1) xs) ≡ added ++ g (drop (i + 1) xs)
    → all ++ g (drop (i + 1) xs) ≡ done ++ g (drop i xs)
stepped {B} g xs i x done all added within at pushed first =
    let more = drop (i + 1) xs in
    ap (λ (l : List B). l ++ g more) pushed
    ∙ append_assoc done added (g more)
    ∙ ap (λ (l : List B). done ++ l) (sym first ∙ ap (λ y. g (y ∷ more)) at
    ∙ sym (at_drop_more g xs i x within))

-- none are left
pub none_left : {A B : Type 0} (g : List A → List B) (xs : List A) (i : ℕ) (done : List B)
    → length xs ≤ i → g [] ≡ [] → done ≡ done ++ g (drop i xs)
none_left {B} g xs i done past none =
    sym (append-nil done)
    ∙ ap (λ (l : List B). done ++ l) (sym none ∙ sym (at_drop_all g xs i past))

-- one member more that has a property, or hasn't
pub where-step : (table : OwnTable) (is : ℕ → Option Object → Bool) (xs : List ObjectName) (i : ℕ)
    (x : ObjectName) (done all : List ObjectName) (b : Bool) → i < length xs → x ≡ get_or xs i x
    → is i (object_named table x) ≡ b → all ≡ (if b then done ++ x ∷ [] else done)
    → all ++ members_where table (i + 1) is (drop (i + 1) xs)
    ≡ done ++ members_where table i is (drop i xs)
where-step table is xs i x done all b within at test pushed = by b test pushed
  where
    front : (b : Bool) → is i (object_named table x) ≡ b
        → (if b then x ∷ members_where table (i + 1) is (drop (i + 1) xs)
        else members_where table (i + 1) is (drop (i + 1) xs))
        ≡ members_where table i is (drop i xs)
    front b e =
        ap (λ (b : Bool). if b then x ∷ members_where table (i + 1) is (drop (i + 1) xs)
        else members_where table (i + 1) is (drop (i + 1) xs)) (sym e)
        ∙ ap (λ y. members_where table i is (y ∷ drop (i + 1) xs)) at
        ∙ sym (at_drop_more (members_where table i is) xs i x within)

    by : (b : Bool) → is i (object_named table x) ≡ b
        → all ≡ (if b then done ++ x ∷ [] else done)
        → all ++ members_where table (i + 1) is (drop (i + 1) xs)
        ≡ done ++ members_where table i is (drop i xs)
    by true e pushed =
        ap (λ (l : List ObjectName). l ++ members_where table (i + 1) is (drop (i + 1) xs)) pushed
        ∙ append_assoc done (x ∷ []) (members_where table (i + 1) is (drop (i + 1) xs))
        ∙ ap (λ (l : List ObjectName). done ++ l) (front true e)
    by false e pushed =
        ap (λ (l : List ObjectName). l ++ members_where table (i + 1) is (drop (i + 1) xs)) pushed
        ∙ ap (λ (l : List ObjectName). done ++ l) (front false e)

-- what holds of all holds of the one at a place
pub at_place : {A : Type 0} (P : A → Type 0) (xs : List A) (i : ℕ) (x : A) → i < length xs
    → x ≡ get_or xs i x → All P xs → P x
at_place P xs i x within at all = subst P (sym at) (all i x within)

-- what an operation ensures, in other words
pub on_ok : {A E P Q : Type 0} (result : Result A E) → (P → Q) → OnOk result P → OnOk result Q
on_ok (Ok x) next holds = next holds
on_ok (Err e) next holds = tt

-- ---- the members of a report

-- what is told has the names of the members
pub told_names : (table : OwnTable) (view : View) (s now conditions : ℕ) (members : List ObjectName)
    → map (λ (t : Told). t.name) (told_of table view s now conditions members) ≡ members
told_names table view s now conditions [] = refl
told_names table view s now conditions (member ∷ members) =
    ap (λ (rest : List ObjectName). member ∷ rest) (told_names table view s now conditions members)

pub told_many : (table : OwnTable) (view : View) (s now conditions : ℕ) (members : List ObjectName)
    → length (told_of table view s now conditions members) ≡ length members
told_many table view s now conditions [] = refl
told_many table view s now conditions (member ∷ members) =
    let rest = told_many table view s now conditions members in omega (arith, rest)

-- properties that say the same leave the same members
pub where-alike : (table : OwnTable) (is other : ℕ → Option Object → Bool)
    → ((place : ℕ) (object : Option Object) → is place object ≡ other place object) → (i : ℕ)
    → (members : List ObjectName)
    → members_where table i is members ≡ members_where table i other members
where-alike table is other same i [] = refl
where-alike table is other same i (member ∷ members) =
    ap (λ (b : Bool). if b then member ∷ members_where table (i + 1) is members
    else members_where table (i + 1) is members) (same i (object_named table member))
    ∙ ap (λ (rest : List ObjectName). if other i (object_named table member) then member ∷ rest
    else rest) (where-alike table is other same (i + 1) members)

or_none : (b : Bool) → (b || false) ≡ b
or_none true = refl
or_none false = refl

-- where nothing is noted, the report variables are left
pub where-unnoted : (table : OwnTable) (members : List ObjectName)
    → members_where table 0
    (λ place object. is_variable object || list_any (λ (n : Noted). n.member == place) []) members
    ≡ members_where table 0 (λ place. is_variable) members
where-unnoted table members =
    where-alike table
    (λ place object. is_variable object || list_any (λ (n : Noted). n.member == place) [])
    (λ place. is_variable) (λ place object. or_none (is_variable object)) 0 members

-- a member at a place that has the property is left
pub where-some : (table : OwnTable) (is : ℕ → Option Object → Bool) (p i : ℕ)
    (members : List ObjectName) → i ≤ p → p < i + length members
    → ((object : Option Object) → is p object ≡ true)
    → 0 < length (members_where table i is members)
where-some table is p i [] from to here = absurd (omega arith)
where-some table is p i (member ∷ members) from to here =
    by (is i (object_named table member)) refl (cases_eq i p)
    (λ later. where-some table is p (i + 1) members later (omega arith) here)
  where
    by : (b : Bool) → is i (object_named table member) ≡ b → (i ≡ p) ⊎ (i ≢ p)
        → (i + 1 ≤ p → 0 < length (members_where table (i + 1) is members))
        → 0 < length (if b then member ∷ members_where table (i + 1) is members
        else members_where table (i + 1) is members)
    by true e order rest = omega arith
    by false e (inl same) rest =
        absurd (false≢true (sym e ∙ ap (λ (k : ℕ). is k (object_named table member)) same
        ∙ here (object_named table member)))
    by false e (inr other) rest = rest (omega arith)

-- a report where something is told
pub told_some : {R : Type 0} (made : List R) (n : ℕ) (report : R) → 0 < n
    → made ++ report ∷ [] ≡ made ++ (if n == 0 then [] else report ∷ [])
told_some made n report some = rw (ne_eqb n 0 (λ none. omega (arith, some, none))) refl

-- lists that are joined and then read
pub mapped-joined : {A B C : Type 0} (f : B → C) (g : A → B) (bs : List B) (more : List A)
    → map f bs ++ map (λ a. f (g a)) more ≡ map f (bs ++ map g more)
mapped-joined f g [] [] = refl
mapped-joined f g [] (a ∷ more) = ap (λ l. f (g a) ∷ l) (mapped-joined f g [] more)
mapped-joined f g (b ∷ bs) more = ap (λ l. f b ∷ l) (mapped-joined f g bs more)

-- ---- parts

-- as many parts as there are items are enough
enough : {A : Type 0} (size : ℕ) (most other items : List A) → 0 < size
    → length items ≤ length most → length items ≤ length other
    → parts_within size most items ≡ parts_within size other items
enough size [] [] items some a b = refl
enough size [] (o ∷ other) [] some a b = refl
enough size [] (o ∷ other) (x ∷ items) some a b = absurd (omega arith)
enough size (m ∷ most) [] [] some a b = refl
enough size (m ∷ most) [] (x ∷ items) some a b = absurd (omega arith)
enough size (m ∷ most) (o ∷ other) [] some a b = refl
enough size (m ∷ most) (o ∷ other) (x ∷ items) some a b =
    let shorter = length-drop size (x ∷ items) in
    ap (λ rest. take size (x ∷ items) ∷ rest)
    (enough size most other (drop size (x ∷ items)) some (omega (arith, shorter))
    (omega (arith, shorter)))

-- the first part, then those of the rest
pub parts-step : {A : Type 0} (size : ℕ) (items : List A) → 0 < size → 0 < length items
    → parts_of size items ≡ take size items ∷ parts_of size (drop size items)
parts-step size [] some there = absurd (omega arith)
parts-step size (x ∷ items) some there =
    let shorter = length-drop size (x ∷ items) in
    ap (λ rest. take size (x ∷ items) ∷ rest)
    (enough size items (drop size (x ∷ items)) (drop size (x ∷ items)) some
    (omega (arith, shorter)) (omega arith))

pub part-step : {B : Type 0} (f : List Noted → B) (rest part more : List Noted) (count : ℕ)
    (done all : List B) → 0 < length rest → count ≡ min 500 (length rest)
    → part ≡ take count rest → more ≡ drop count rest → all ≡ done ++ f part ∷ []
    → all ++ map f (parts_of 500 more) ≡ done ++ map f (parts_of 500 rest)
part-step {B} f rest part more count done all some counted front back pushed =
    let first : part ≡ take 500 rest =
    front ∙ ap (λ (n : ℕ). take n rest) counted ∙ take_min 500 rest in
    let last : more ≡ drop 500 rest =
    back ∙ ap (λ (n : ℕ). drop n rest) counted ∙ drop_min 500 rest in
    ap (λ (l : List B). l ++ map f (parts_of 500 more)) pushed
    ∙ append_assoc done (f part ∷ []) (map f (parts_of 500 more))
    ∙ ap (λ (l : List Noted). done ++ f l ∷ map f (parts_of 500 more)) first
    ∙ ap (λ (l : List Noted). done ++ f (take 500 rest) ∷ map f (parts_of 500 l)) last
    ∙ ap (λ (l : List (List Noted)). done ++ map f l) (sym (parts-step 500 rest (omega arith) some))

pub parts-none : {B : Type 0} (f : List Noted → B) (rest : List Noted) (done : List B)
    (empty : Bool) → empty ≡ (length rest == 0) → empty ≡ true
    → done ≡ done ++ map f (parts_of 500 rest)
parts-none f [] done empty is none = sym (append-nil done)
parts-none f (note ∷ rest) done empty is none = absurd (grind (arith, nat_tests))

pub some_left : (n : ℕ) (empty : Bool) → empty ≡ (n == 0) → empty ≡ false → 0 < n
some_left n empty is none = grind (arith, nat_tests)
