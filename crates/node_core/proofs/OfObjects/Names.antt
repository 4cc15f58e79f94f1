-- The row of a point that a name stands for, found by the centre's points and the table's rows.
use Rattle.std.proofs.Common.{◌≡◌, ◌==◌, ℕ, ◌<◌, ◌≤◌, suc, ltb, ⊎_elim, Bool, true, false}
use Rattle.std.proofs.Common.{cond, ◌&&◌, List, [], ◌∷◌, map, length, get_or, Bor, Option, Some}
use Rattle.std.proofs.Common.{None, IsSome, is_some, bytes_eq, refl, sym, ap, ◌∙◌, arith}
use Rattle.std.specs.Option.{option_map, option_and_then, option_copied}
use Rattle.std.specs.Prelude.{if◌then◌else◌}
use Rattle.std.specs.Bool.{then_some}
use Rattle.std.specs.List.{All, AllPairs, find, position, position_or_len, slice_get}
use Rattle.std.proofs.lemmas.Bool.{eqb-true, lt-ltb, cases_lt, and_right, cond-true}
use Rattle.std.proofs.lemmas.Bool.{false_from_ne_true}
use Rattle.std.proofs.lemmas.Option.{slice_get-get_or, slice_get_past, none-some, cond_some}
use Rattle.std.proofs.lemmas.List.Elements.{All-head, All-tail}
use Rattle.std.proofs.lemmas.List.Folds.{find_at}
use Rattle.std.proofs.lemmas.List.Quantifiers.{position-Some}
use Rattle.std.proofs.lemmas.List.Sums.{fails_before_first}
use Rattle.std.proofs.lemmas.Slice.Eq.{bytes_eq-Decides}
use Rattle.mms_data.specs.ObjectName.{ObjectName}
use Rattle.bilateral.specs.declared.rows.See.{See}
use Rattle.bilateral.specs.declared.rows.Table.{Table}
use Rattle.bilateral.specs.Rows.{IsCentre, IsTable, no_point, point_of, place_of_point}
use Rattle.bilateral.specs.Rows.{place_of_see}
use Rattle.tase_views.specs.OwnTables.{OwnPoint, own_point, is_scope_of}
use Rattle.tase_views.specs.Objects.{Object, NamedObject}
use Rattle.node_core.specs.Objects.Found.{TableInForce, offered, row_named, point_named}
use Rattle.node_core.proofs.OfObjects.Known.{bytes_eq-names}

-- the object of what is found
abbrev pub object_of : Option NamedObject → Option Object
object_of found = option_map (λ o. o.object) found

-- the first of a mapped list that passes, where the test agrees with one of the list itself
pub find-map : {X Y : Type 0} (f : X → Y) (test : Y → Bool) (same : X → Bool) (xs : List X)
    → All (λ x. test (f x) ≡ same x) xs → find test (map f xs) ≡ option_map f (find same xs)
find-map f test same [] agree = refl
find-map f test same (x ∷ xs) agree =
    let rest : find test (map f xs) ≡ option_map f (find same xs) =
    find-map f test same xs (All-tail (λ x. test (f x) ≡ same x) x xs agree) in
    let here : test (f x) ≡ same x = All-head (λ x. test (f x) ≡ same x) x xs agree in
    rw (here, rest) (elim (same x) as (λ b. cond b (Some (f x)) (option_map f (find same xs))
    ≡ option_map f (cond b (Some x) (find same xs))) [ true ↦ refl | false ↦ refl ])

-- what is found behind a reference was found
pub copied-IsSome : {X : Type 0} (o : Option (Bor X)) (x : X) → option_copied o ≡ Some x → IsSome o
copied-IsSome None x e = absurd (none-some x e)
copied-IsSome (Some r) x e = refl

-- tests that agree find alike
pub find_alike : {X : Type 0} (test same : X → Bool) (xs : List X) → All (λ x. test x ≡ same x) xs
    → find test xs ≡ find same xs
find_alike test same [] agree = refl
find_alike test same (x ∷ xs) agree =
    let rest : find test xs ≡ find same xs =
    find_alike test same xs (All-tail (λ x. test x ≡ same x) x xs agree) in
    rw (All-head (λ x. test x ≡ same x) x xs agree, rest) refl

-- nothing passes
pub find-none : {X : Type 0} (test : X → Bool) (xs : List X) → All (λ x. test x ≡ false) xs
    → find test xs ≡ None
find-none test [] fails = refl
find-none test (x ∷ xs) fails =
    let here : test x ≡ false = All-head (λ x. test x ≡ false) x xs fails in
    rw here (find-none test xs (All-tail (λ x. test x ≡ false) x xs fails))

pub AllPairs-tail : {X : Type 0} (R : X → X → Type 0) (x : X) (xs : List X) → AllPairs R (x ∷ xs)
    → AllPairs R xs
AllPairs-tail R x xs pairs = λ i j d below within. pairs (suc i) (suc j) d (omega arith)
    (omega arith)

pub AllPairs-head : {X : Type 0} (R : X → X → Type 0) (x : X) (xs : List X) → AllPairs R (x ∷ xs)
    → All (R x) xs
AllPairs-head R x xs pairs = λ k d within. pairs 0 (suc k) d (omega arith) (omega arith)

-- ---- what passes two tests, where one passes at most once

-- what was found, if it passes a test
abbrev pub passed : {X : Type 0} → (X → Bool) → X → Option X
passed test x = if test x then Some x else None

passed-cons : {X : Type 0} (test : X → Bool) (x : X) (here : Bool) (both those : Option X)
    → both ≡ option_and_then (passed test) those → (here ≡ true → both ≡ None)
    → cond (test x && here) (Some x) both
    ≡ option_and_then (passed test) (cond here (Some x) those)
passed-cons test x true both those rest alone =
    elim (test x) as (λ b. cond (b && true) (Some x) both ≡ (if b then Some x else None))
    [ true ↦ refl | false ↦ alone refl ]
passed-cons test x false both those rest alone =
    elim (test x) as (λ b. cond (b && false) (Some x) both
    ≡ option_and_then (passed test) those) [ true ↦ rest | false ↦ rest ]

-- none passes behind one that does
abbrev Alone : {X : Type 0} → (X → Bool) → X → X → Type 0
Alone test a b = test a ≡ true → test b ≡ false

find-both : {X : Type 0} (scope test : X → Bool) (xs : List X) → AllPairs (Alone test) xs
    → find (λ x. scope x && test x) xs ≡ option_and_then (passed scope) (find test xs)
find-both scope test [] once = refl
find-both scope test (x ∷ xs) once =
    passed-cons scope x (test x) (find (λ x. scope x && test x) xs) (find test xs)
    (find-both scope test xs (AllPairs-tail (Alone test) x xs once))
    (λ here. find-none (λ x. scope x && test x) xs
    (λ k d within. and_right _ _ (AllPairs-head (Alone test) x xs once k d within here)))

-- ---- places

-- the element that stands where `position` says
find-position_Some : {X : Type 0} (test : X → Bool) (xs : List X) (k : ℕ) (x : X)
    → position test xs ≡ Some k → x ≡ get_or xs k x → find test xs ≡ Some x
find-position_Some test xs k x e is =
    let parts = cond_some (ltb (position_or_len test xs) (length xs))
    (position_or_len test xs) k e in
    let within : k < length xs = (position-Some test xs k x e).0 in
    find_at test xs ∙ ap (slice_get xs) parts.1 ∙ slice_get-get_or xs k x within ∙ ap Some (sym is)

all_pass_by : {X : Type 0} (test : X → Bool) (xs : List X) → position test xs ≡ None
    → length xs ≤ position_or_len test xs
all_pass_by test xs e =
    ⊎_elim
    (λ within. absurd (none-some (position_or_len test xs) (sym e
    ∙ cond-true _ _ _ (lt-ltb (position_or_len test xs) (length xs) within))))
    (λ past. past)
    (cases_lt (position_or_len test xs) (length xs))

find-position_None : {X : Type 0} (test : X → Bool) (xs : List X) → position test xs ≡ None
    → find test xs ≡ None
find-position_None test xs e = find_at test xs
    ∙ slice_get_past xs (position_or_len test xs) (all_pass_by test xs e)

pub all_fail-position_None : {X : Type 0} (test : X → Bool) (xs : List X) → position test xs ≡ None
    → All (λ x. test x ≡ false) xs
all_fail-position_None test xs e =
    let past = all_pass_by test xs e in
    λ k d within. fails_before_first test xs k d (omega arith)

-- a row is of a point that its table names
pub row_is_named : (table : Table) (p k : ℕ) (see : See) → place_of_see table p ≡ Some k
    → see ≡ get_or table.sees k see → is_some (place_of_see table see.point) ≡ true
row_is_named table p k see found is =
    let at = position-Some (λ see. see.point == p) table.sees k see found in
    let same : see.point ≡ p = ap (λ (s : See). s.point) is
    ∙ eqb-true (get_or table.sees k see).point p at.1 in
    rw (same, found) refl

-- ---- the row of the point with a name, and the point that a name of the peer stands for

module _ (t : TableInForce) (lawful : IsCentre t.rows)
    (own : IsTable (length t.rows.points) t.table) where
  -- a name that no point of the centre has
  pub row_named-no_point : (name : List ℕ) → place_of_point t.rows name ≡ None
      → row_named t name ≡ None
  row_named-no_point name e =
      let fails = all_fail-position_None (λ row. bytes_eq row.name name) t.rows.points e in
      find-none (λ (see : See). bytes_eq (point_of t.rows see.point).name name) t.table.sees
      (λ k d within. fails (get_or t.table.sees k d).point no_point (own.known k d within))

  -- that of a point: the row with its number
  row_named-point : (name : List ℕ) (p : ℕ) → place_of_point t.rows name ≡ Some p
      → row_named t name ≡ find (λ see. see.point == p) t.table.sees
  row_named-point name p e =
      let at = position-Some (λ row. bytes_eq row.name name) t.rows.points p no_point e in
      let item : (point_of t.rows p).name ≡ name =
      (bytes_eq-Decides (point_of t.rows p).name name).0 at.1 in
      find_alike (λ (see : See). bytes_eq (point_of t.rows see.point).name name)
      (λ see. see.point == p) t.table.sees
      (λ k d within. ap (bytes_eq (point_of t.rows (get_or t.table.sees k d).point).name) (sym item)
      ∙ bytes_eq-names t.rows (get_or t.table.sees k d).point p lawful (own.known k d within) at.0)

  pub row_named-no_row : (name : List ℕ) (p : ℕ) → place_of_point t.rows name ≡ Some p
      → place_of_see t.table p ≡ None → row_named t name ≡ None
  row_named-no_row name p e none =
      row_named-point name p e ∙ find-position_None (λ see. see.point == p) t.table.sees none

  pub row_named-row : (name : List ℕ) (p k : ℕ) (see : See) → place_of_point t.rows name ≡ Some p
      → place_of_see t.table p ≡ Some k → see ≡ get_or t.table.sees k see
      → row_named t name ≡ Some see
  row_named-row name p k see e found is =
      row_named-point name p e
      ∙ find-position_Some (λ see. see.point == p) t.table.sees k see found is

  -- no two rows are of a point with one name
  rows_alone : (name : List ℕ)
      → AllPairs (Alone (λ see. bytes_eq (point_of t.rows see.point).name name)) t.table.sees
  rows_alone name = λ i j d below within here.
      let a = (get_or t.table.sees i d).point in
      let b = (get_or t.table.sees j d).point in
      false_from_ne_true _ (λ there.
      let same : (point_of t.rows a).name ≡ (point_of t.rows b).name =
      (bytes_eq-Decides (point_of t.rows a).name name).0 here
      ∙ sym ((bytes_eq-Decides (point_of t.rows b).name name).0 there) in
      let one : (a == b) ≡ true =
      sym (bytes_eq-names t.rows a b lawful (own.known i d (omega arith)) (own.known j d within))
      ∙ (bytes_eq-Decides (point_of t.rows a).name (point_of t.rows b).name).1 same in
      own.once i j d below within (eqb-true a b one))

  -- a name of the peer stands for the point of the row with its item, in the right scope
  pub point_named-row : (name : ObjectName) (found : Option See) → found ≡ row_named t name.item
      → point_named (offered t) name
      ≡ option_map (own_point t.rows) (option_and_then
      (passed (λ see. is_scope_of (offered t) name.scope see.vmd)) found)
  point_named-row name found is =
      let scope : See → Bool = λ see. is_scope_of (offered t) name.scope see.vmd in
      let item : See → Bool = λ see. bytes_eq (point_of t.rows see.point).name name.item in
      find-map (own_point t.rows)
      (λ (p : OwnPoint). is_scope_of (offered t) name.scope p.vmd && bytes_eq p.name name.item)
      (λ see. scope see && item see) t.table.sees (λ k d within. refl)
      ∙ ap (option_map (own_point t.rows))
      (find-both scope item t.table.sees (rows_alone name.item)
      ∙ ap (option_and_then (passed scope)) (sym is))

-- what a row that is given only where a test passes says
pub row_if : (found : Bool) (row : Bor See) (named : Option OwnPoint) (own : See → OwnPoint)
    → named ≡ option_map own (if found then Some row.now else None)
    → option_map (λ (see : Bor See). own see.now) (then_some found row) ≡ named
row_if true row named own e = sym e
row_if false row named own e = sym e
