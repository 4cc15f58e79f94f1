-- The names that stand in a list: those of the protocol's own objects, of the devices, the transfer
-- sets and the rows of a table and of the data sets of a book, each of them an identifier.
use Rattle.std.proofs.Common.{◌≡◌, ◌==◌, ℕ, zero, suc, ◌+◌, ◌<◌, ◌≤◌, min, Bool, true, false, not}
use Rattle.std.proofs.Common.{◌&&◌, List, [], ◌∷◌, ◌++◌, map, take, length, get_or, Bor}
use Rattle.std.proofs.Common.{Option, Some, None, refl, sym, ap, ◌∙◌, arith, ⊎_elim, take_all}
use Rattle.std.proofs.Common.{append-nil, append_assoc, subst}
use Rattle.std.specs.Prelude.{if◌then◌else◌, filter, IsPermutation, ℤ, Result, IfOk}
use Rattle.std.specs.Prelude.{codes}
use Rattle.std.specs.Ordering.{int_eq}
use Rattle.std.specs.Fmt.{digits}
use Rattle.std.specs.List.{All, filter_map, flat_map, cons_option, list_all, range_with_len}
use Rattle.std.proofs.lemmas.Bool.{cases_lt, false≢true, and_parts}
use Rattle.std.proofs.lemmas.List.{get_or-map, take-map, length-map, take_more, map_push}
use Rattle.std.proofs.lemmas.List.{map-append}
use Rattle.std.proofs.lemmas.List.Elements.{All-head, All-tail, All-nil, All-cons, All-append}
use Rattle.std.proofs.lemmas.List.Elements.{All-filter, All-map, filter-append, filter_map-append}
use Rattle.std.proofs.lemmas.Map.Views.{All-map-IsPermutation}
use Rattle.mms_data.specs.declared.object_name.Scope.{Scope}
use Rattle.mms_data.specs.ObjectName.{IsIdentifier}
use Rattle.data_sets.specs.declared.book.DataSet.{DataSet}
use Rattle.data_sets.specs.Books.{Book}
use Rattle.bilateral.specs.declared.rows.See.{See}
use Rattle.bilateral.specs.Words.Words.{is_name, is_identifier}
use Rattle.bilateral.specs.declared.rows.TheConstants.{SLOT_LIMIT}
use Rattle.bilateral.specs.Rows.{CentreRows, IsCentre, IsTable, IsControlling, no_point}
use Rattle.bilateral.proofs.OfWords.VisibleWords.{IsVisible-from_name, IsVisible-from_identifier}
use Rattle.tase_views.specs.declared.call.TheConstants.{NAMED_VARIABLES, NAMED_VARIABLE_LISTS}
use Rattle.tase_views.specs.declared.call.TheConstants.{DOMAINS}
use Rattle.tase_views.specs.declared.reply.ReplyKind.{ReplyKind}
use Rattle.tase_views.specs.declared.reply.ReplyKind.TheVariants.{Error}
use Rattle.tase_views.specs.declared.reply.TheConstants.{NAMES_LIMIT, ACCESS_ERRORS, ACCESS_DENIED}
use Rattle.tase_views.specs.OwnTables.{OwnTable, OwnTables, own_point, is_scope_of}
use Rattle.tase_views.specs.Objects.{NamedObject, special_objects, point_object, objects}
use Rattle.tase_views.specs.Objects.{objects_of_slot}
use Rattle.tase_views.specs.View.{View, held}
use Rattle.tase_views.specs.Answers.{set_names}
use Rattle.tase_views.specs.NameLists.{is_after, variables_in, is_foreign, is_vmd, in_order}
use Rattle.tase_views.specs.NameLists.{first_of, names_listed}
use Rattle.node_core.specs.Objects.Found.{TableInForce, offered, device_objects, slot_objects}
use Rattle.node_core.specs.Objects.Found.{domain_objects}
use Rattle.node_core.specs.Slots.SetsKept.{IsBook}
use Rattle.node_core.proofs.OfObjects.SetNames.{book_names, names_ordered}
use Rattle.node_core.proofs.OfObjects.OwnObjects.{specials_in, objects_parted}
use Rattle.node_core.proofs.OfObjects.SlotNames.{next_object, slot_object, status_object}
use Rattle.node_core.proofs.OfObjects.SlotNames.{some_slots}
use Rattle.node_core.proofs.OfObjects.DeviceNames.{IsIdentifier-devices}

abbrev pub names_of : List (Bor (List ℕ)) → List (List ℕ)
names_of names = map (λ name. name.now) names

-- a row's name, if it stands in the list
abbrev pub row_listed : CentreRows → OwnTable → Scope → Option (List ℕ) → See → Option (List ℕ)
row_listed rows table scope after see =
    if is_scope_of table scope see.vmd && is_after after (own_point rows see).name
    then Some (own_point rows see).name else None

listed_cons : (test : List ℕ → Bool) (here : Bool) (object : NamedObject)
    (objects : List NamedObject) (more : List (List ℕ))
    → filter test (map (λ o. o.item) objects) ≡ more
    → filter test (map (λ o. o.item) (if here then object ∷ objects else objects))
    ≡ cons_option (if here && test object.item then Some object.item else None) more
listed_cons test true object objects more rest =
    passed (test object.item)
  where
    passed : (b : Bool) → (if b then object.item ∷ filter test (map (λ o. o.item) objects)
        else filter test (map (λ o. o.item) objects))
        ≡ cons_option (if b then Some object.item else None) more
    passed true = ap (λ (names : List (List ℕ)). object.item ∷ names) rest
    passed false = rest
listed_cons test false object objects more rest = rest

-- the points of rows, as objects
abbrev points_of : CentreRows → List See → List NamedObject
points_of rows sees = map point_object (map (own_point rows) sees)

listed_rows : (rows : CentreRows) (table : OwnTable) (scope : Scope) (after : Option (List ℕ))
    (sees : List See)
    → filter (is_after after) (variables_in table (points_of rows sees) scope)
    ≡ filter_map (row_listed rows table scope after) sees
listed_rows rows table scope after [] = refl
listed_rows rows table scope after (see ∷ sees) =
    listed_cons (is_after after) (is_scope_of table scope see.vmd)
    (point_object (own_point rows see))
    (filter (λ o. is_scope_of table scope o.vmd) (points_of rows sees))
    (filter_map (row_listed rows table scope after) sees)
    (listed_rows rows table scope after sees)

variables-append : (table : OwnTable) (scope : Scope) (some more : List NamedObject)
    → variables_in table (some ++ more) scope
    ≡ variables_in table some scope ++ variables_in table more scope
variables-append table scope some more =
    ap (map (λ (o : NamedObject). o.item))
    (filter-append (λ o. is_scope_of table scope o.vmd) some more)
    ∙ map-append (λ (o : NamedObject). o.item)
    (filter (λ o. is_scope_of table scope o.vmd) some)
    (filter (λ o. is_scope_of table scope o.vmd) more)

-- the names of the protocol's own objects in a scope that stand in the list, and those of others in
-- the domain but points
abbrev pub specials_listed : OwnTable → Scope → Option (List ℕ) → List (List ℕ)
specials_listed table scope after = filter (is_after after) (specials_in table scope)

abbrev pub domain_listed : OwnTable → Scope → Option (List ℕ) → List (List ℕ)
domain_listed table scope after =
    filter (is_after after) (variables_in table (domain_objects table) scope)

abbrev pub front_listed : OwnTable → Scope → Option (List ℕ) → List (List ℕ)
front_listed table scope after =
    specials_listed table scope after ++ domain_listed table scope after

-- the variables of a scope that stand in the list: those two, and row by row
pub variables-listed : (t : TableInForce) (scope : Scope) (after : Option (List ℕ))
    → filter (is_after after) (variables_in (offered t) (objects (offered t)) scope)
    ≡ front_listed (offered t) scope after
    ++ filter_map (row_listed t.rows (offered t) scope after) t.table.sees
variables-listed t scope after =
    let table = offered t in
    let rows = points_of t.rows t.table.sees in
    let specials = special_objects table in
    let own = domain_objects table in
    let test = is_after after in
    ap (λ (all : List NamedObject). filter test (variables_in table all scope))
    (objects_parted table)
    ∙ ap (filter test) (variables-append table scope (specials ++ own) rows)
    ∙ filter-append test (variables_in table (specials ++ own) scope)
    (variables_in table rows scope)
    ∙ ap (λ (names : List (List ℕ)). filter test names ++ filter test
    (variables_in table rows scope)) (variables-append table scope specials own)
    ∙ ap (λ (names : List (List ℕ)). names ++ filter test (variables_in table rows scope))
    (filter-append test (specials_in table scope) (variables_in table own scope))
    ∙ ap (λ (names : List (List ℕ)). front_listed table scope after ++ names)
    (listed_rows t.rows table scope after t.table.sees)

-- names that were appended, where they stand in the list
pub filtered_twice : (test : List ℕ → Bool) (some more names all : List (List ℕ))
    → names ≡ filter test some → all ≡ names ++ filter test more
    → all ≡ filter test (some ++ more)
filtered_twice test some more names all before appended =
    appended ∙ ap (λ (ns : List (List ℕ)). ns ++ filter test more) before
    ∙ sym (filter-append test some more)

-- the same behind names that stand there already
pub filtered_behind : (test : List ℕ → Bool) (first some more names all : List (List ℕ))
    → names ≡ first ++ filter test some → all ≡ names ++ filter test more
    → all ≡ first ++ filter test (some ++ more)
filtered_behind test first some more names all before appended =
    appended ∙ ap (λ (ns : List (List ℕ)). ns ++ filter test more) before
    ∙ append_assoc first (filter test some) (filter test more)
    ∙ ap (λ (ns : List (List ℕ)). first ++ ns) (sym (filter-append test some more))

-- one row more
pub filter_map-more : {X Y : Type 0} (f : X → Option Y) (xs : List X) (i : ℕ) (d : X)
    → i < length xs → filter_map f (take (i + 1) xs)
    ≡ filter_map f (take i xs) ++ cons_option (f (get_or xs i d)) []
filter_map-more f xs i d within =
    rw (take_more xs i d within) (filter_map-append f (take i xs) (get_or xs i d ∷ []))

-- a row that stands in the list, and one that doesn't, behind names that stand there already
pub row_pushed : {X : Type 0} (f : X → Option (List ℕ)) (first : List (List ℕ)) (xs : List X)
    (i : ℕ) (d : X) (names : List (Bor (List ℕ))) (name : Bor (List ℕ)) → i < length xs
    → f (get_or xs i d) ≡ Some name.now → names_of names ≡ first ++ filter_map f (take i xs)
    → names_of (names ++ name ∷ []) ≡ first ++ filter_map f (take (i + 1) xs)
row_pushed f first xs i d names name within is so_far =
    map_push (λ (n : Bor (List ℕ)). n.now) names name
    ∙ ap (λ (ns : List (List ℕ)). ns ++ name.now ∷ []) so_far
    ∙ append_assoc first (filter_map f (take i xs)) (name.now ∷ [])
    ∙ ap (λ (ns : List (List ℕ)). first ++ ns)
    (ap (λ (found : Option (List ℕ)). filter_map f (take i xs) ++ cons_option found []) (sym is)
    ∙ sym (filter_map-more f xs i d within))

pub row_passed : {X : Type 0} (f : X → Option (List ℕ)) (first : List (List ℕ)) (xs : List X)
    (i : ℕ) (d : X) (names : List (Bor (List ℕ))) → i < length xs
    → f (get_or xs i d) ≡ None → names_of names ≡ first ++ filter_map f (take i xs)
    → names_of names ≡ first ++ filter_map f (take (i + 1) xs)
row_passed f first xs i d names within is so_far =
    so_far ∙ ap (λ (ns : List (List ℕ)). first ++ ns)
    (sym (filter_map-more f xs i d within
    ∙ ap (λ (found : Option (List ℕ)). filter_map f (take i xs) ++ cons_option found []) is
    ∙ append-nil (filter_map f (take i xs))))

-- ---- names are identifiers

not_zero : (n : ℕ) → not (n == 0) ≡ true → 0 < n
not_zero zero e = absurd (false≢true e)
not_zero (suc n) e = omega arith

IsIdentifier-name : (name : List ℕ) → is_name name ≡ true → IsIdentifier name
IsIdentifier-name [] e = absurd (false≢true e)
IsIdentifier-name (c ∷ cs) e = (omega arith, IsVisible-from_name (c ∷ cs) e)

pub IsIdentifier-word : (word : List ℕ) → is_identifier word ≡ true → IsIdentifier word
IsIdentifier-word word e =
    (not_zero (length word) (and_parts _ _ (and_parts _ _ e).0).0, IsVisible-from_identifier word e)

row_name : (rows : CentreRows) (see : See) → IsCentre rows → see.point < length rows.points
    → IsIdentifier (own_point rows see).name
row_name rows see lawful there =
    IsIdentifier-name (own_point rows see).name (lawful.named see.point no_point there)

listed_name : (rows : CentreRows) (table : OwnTable) (scope : Scope) (after : Option (List ℕ))
    (see : See) (more : List (List ℕ)) → IsIdentifier (own_point rows see).name
    → All IsIdentifier more
    → All IsIdentifier (cons_option (row_listed rows table scope after see) more)
listed_name rows table scope after see more named all =
    chosen (is_scope_of table scope see.vmd && is_after after (own_point rows see).name)
  where
    chosen : (b : Bool) → All IsIdentifier
        (cons_option (if b then Some (own_point rows see).name else None) more)
    chosen true = All-cons IsIdentifier (own_point rows see).name more named all
    chosen false = all

rows_named : (rows : CentreRows) (table : OwnTable) (scope : Scope) (after : Option (List ℕ))
    (sees : List See) → IsCentre rows → All (λ see. see.point < length rows.points) sees
    → All IsIdentifier (filter_map (row_listed rows table scope after) sees)
rows_named rows table scope after [] lawful there = λ k d within. absurd (omega (arith, within))
rows_named rows table scope after (see ∷ sees) lawful there =
    listed_name rows table scope after see (filter_map (row_listed rows table scope after) sees)
    (row_name rows see lawful (All-head (λ s. s.point < length rows.points) see sees there))
    (rows_named rows table scope after sees lawful
    (All-tail (λ s. s.point < length rows.points) see sees there))

abbrev NamedWell : NamedObject → Type 0
NamedWell o = IsIdentifier o.item

named_by_test : (objects : List NamedObject) → list_all (λ o. is_identifier o.item) objects ≡ true
    → All NamedWell objects
named_by_test [] e = All-nil NamedWell
named_by_test (o ∷ objects) e =
    let both = and_parts (is_identifier o.item) (list_all (λ o. is_identifier o.item) objects) e in
    All-cons NamedWell o objects (IsIdentifier-word o.item both.0) (named_by_test objects both.1)

-- the protocol's own names are identifiers
specials_named : (table : OwnTable) → All NamedWell (special_objects table)
specials_named table = named_by_test (special_objects table) refl

-- so are those of transfer sets
most_slots_named : All NamedWell (slot_objects SLOT_LIMIT)
unfolding digits
most_slots_named = named_by_test (slot_objects SLOT_LIMIT) refl

fewer_named : (first few many : ℕ) → few ≤ many
    → All NamedWell (flat_map objects_of_slot (range_with_len first many))
    → All NamedWell (flat_map objects_of_slot (range_with_len first few))
fewer_named first zero many fits named = All-nil NamedWell
fewer_named first (suc few) zero fits named = absurd (omega (arith, fits))
fewer_named first (suc few) (suc many) fits named =
    let item = slot_object first in
    let status = status_object first in
    let all = flat_map objects_of_slot (range_with_len (first + 1) many) in
    let more = flat_map objects_of_slot (range_with_len (first + 1) few) in
    let rest = All-tail NamedWell item (status ∷ all) named in
    All-cons NamedWell item (status ∷ more) (All-head NamedWell item (status ∷ all) named)
    (All-cons NamedWell status more (All-head NamedWell status all rest)
    (fewer_named (first + 1) few many (omega (arith, fits)) (All-tail NamedWell status all rest)))

-- and all those in the domain but points
domain_named : (t : TableInForce) → IsCentre t.rows → IsTable (length t.rows.points) t.table
    → IsControlling (length t.rows.devices) t.table
    → All NamedWell (domain_objects (offered t))
domain_named t lawful own controls =
    let table = offered t in
    let devices = device_objects table.devices in
    let slots = slot_objects table.slots in
    rw (some_slots table own.slots_least)
    (All-cons NamedWell next_object (devices ++ slots)
    (IsIdentifier-word (codes "Next_DSTransfer_Set") refl)
    (All-append NamedWell devices slots
    (IsIdentifier-devices t.rows t.table.controls lawful controls.known)
    (fewer_named 0 table.slots SLOT_LIMIT own.slots most_slots_named)))

-- the objects of a scope that stand in the list, where all are named well
listed-named : (table : OwnTable) (scope : Scope) (after : Option (List ℕ))
    (objects : List NamedObject) → All NamedWell objects
    → All IsIdentifier (filter (is_after after) (variables_in table objects scope))
listed-named table scope after objects named =
    All-filter (is_after after) IsIdentifier (variables_in table objects scope)
    (All-map IsIdentifier (λ (o : NamedObject). o.item)
    (filter (λ o. is_scope_of table scope o.vmd) objects)
    (All-filter (λ o. is_scope_of table scope o.vmd) NamedWell objects named))

-- each of the variables that stand in the list has an identifier
pub variables-named : (t : TableInForce) (scope : Scope) (after : Option (List ℕ))
    → IsCentre t.rows → IsTable (length t.rows.points) t.table
    → IsControlling (length t.rows.devices) t.table
    → All IsIdentifier (filter (is_after after)
    (variables_in (offered t) (objects (offered t)) scope))
variables-named t scope after lawful own controls =
    let table = offered t in
    subst (λ (names : List (List ℕ)). All IsIdentifier names)
    (sym (variables-listed t scope after))
    (All-append IsIdentifier (front_listed table scope after)
    (filter_map (row_listed t.rows table scope after) t.table.sees)
    (All-append IsIdentifier (specials_listed table scope after)
    (domain_listed table scope after)
    (listed-named table scope after (special_objects table) (specials_named table))
    (listed-named table scope after (domain_objects table)
    (domain_named t lawful own controls)))
    (rows_named t.rows table scope after t.table.sees lawful own.known))

-- so has each data set of a book, where its scope is the domain
pub sets-named : (here : Bool) (sets : List DataSet) (after : Option (List ℕ))
    → All (λ set. IsIdentifier set.name) sets
    → All IsIdentifier (if here then filter (is_after after) (book_names sets) else [])
sets-named true sets after named =
    All-filter (is_after after) IsIdentifier (book_names sets)
    (All-map IsIdentifier (λ (s : DataSet). s.name) sets named)
sets-named false sets after named = All-nil IsIdentifier

-- so has the domain
pub domain-named : (domain : List ℕ) (after : Option (List ℕ)) → is_identifier domain ≡ true
    → All IsIdentifier (filter (is_after after) (domain ∷ []))
domain-named domain after named = chosen (is_after after domain)
  where
    chosen : (b : Bool) → All IsIdentifier (if b then domain ∷ [] else [])
    chosen true = All-cons IsIdentifier domain [] (IsIdentifier-word domain named)
        (All-nil IsIdentifier)
    chosen false = All-nil IsIdentifier

-- ---- the first names of a list

pub identifier_here : (names : List (Bor (List ℕ))) (i : ℕ) (d : Bor (List ℕ))
    → All IsIdentifier (names_of names) → i < length names → IsIdentifier (get_or names i d).now
identifier_here names i d all within =
    let here : get_or (names_of names) i [] ≡ (get_or names i d).now =
    get_or-map (λ n. n.now) names i d [] within in
    let there : i < length (names_of names) = omega (
      arith,
      within,
      length-map names
          (λ n. n.now),
    ) in
    rw here at (all i [] there)

identifiers_taken : (n : ℕ) (names : List (List ℕ)) → All IsIdentifier names
    → All IsIdentifier (take n names)
identifiers_taken zero names all = λ k d within. absurd (omega (arith, within))
identifiers_taken (suc n) [] all = all
identifiers_taken (suc n) (name ∷ names) all =
    All-cons IsIdentifier name (take n names) (All-head IsIdentifier name names all)
    (identifiers_taken n names (All-tail IsIdentifier name names all))

-- the first of sorted names are identifiers
pub sorted_identifiers : (before after : List (Bor (List ℕ))) (n : ℕ) → IsPermutation before after
    → All IsIdentifier (names_of before) → All IsIdentifier (names_of (take n after))
sorted_identifiers before after n moved all =
    rw (← (take-map (λ (name : Bor (List ℕ)). name.now) n after))
    (identifiers_taken n (names_of after)
    (All-map-IsPermutation (λ name. name.now) IsIdentifier before after moved all))

-- as many as there are, up to the limit
pub shown_names : (names : List (Bor (List ℕ))) (n : ℕ) → n ≡ min NAMES_LIMIT (length names)
    → names_of (take n names) ≡ take NAMES_LIMIT (names_of names)
shown_names names n is =
    ⊎_elim
    (λ few. let all : n ≡ length names = omega (arith, is, few) in
    let there : length (names_of names) ≤ NAMES_LIMIT =
    omega (arith, length-map names (λ (m : Bor (List ℕ)). m.now), few) in
    ap names_of (take_all n names (omega (arith, all)))
    ∙ sym (take_all NAMES_LIMIT (names_of names) there))
    (λ many. let most : n ≡ NAMES_LIMIT = omega (arith, is, many) in
    rw most (sym (take-map (λ (name : Bor (List ℕ)). name.now) NAMES_LIMIT names)))
    (cases_lt (length names) NAMES_LIMIT)

-- ---- the classes that may be listed

module _ (table : OwnTable) (objects : List NamedObject) (sets : List (List ℕ)) (class : ℤ)
    (scope : Scope) (after : Option (List ℕ)) (own : is_foreign table scope ≡ false) where
  pub listed_variables : int_eq class NAMED_VARIABLES ≡ true
      → names_listed table objects sets class scope after
      ≡ first_of (in_order (filter (is_after after) (variables_in table objects scope)))
  listed_variables here = rw (own, here) refl

  pub listed_domain : int_eq class NAMED_VARIABLES ≡ false
      → int_eq class DOMAINS ≡ true → is_vmd scope ≡ true
      → names_listed table objects sets class scope after
      ≡ first_of (in_order (filter (is_after after) (table.domain ∷ [])))
  listed_domain other here whole = rw (own, other, here, whole) refl

  pub listed_nothing : int_eq class NAMED_VARIABLES ≡ false
      → (int_eq class DOMAINS && is_vmd scope) ≡ false → int_eq class NAMED_VARIABLE_LISTS ≡ false
      → names_listed table objects sets class scope after ≡ Error ACCESS_ERRORS ACCESS_DENIED
  listed_nothing other apart away = rw (own, other, apart, away) refl

  listed_lists : int_eq class NAMED_VARIABLES ≡ false
      → (int_eq class DOMAINS && is_vmd scope) ≡ false → int_eq class NAMED_VARIABLE_LISTS ≡ true
      → names_listed table objects sets class scope after
      ≡ first_of (in_order (filter (is_after after)
      (if is_scope_of table scope false then sets else [])))
  listed_lists other apart here = rw (own, other, apart, here) refl

-- what is listed by the table in force
pub listed_in_force : {E : Type 0} (result : Result ReplyKind E) (told : ReplyKind)
    (t : TableInForce) (tables : OwnTables) (view : View) (class : ℤ) (scope : Scope)
    (after : Option (List ℕ)) → offered t ≡ held tables view
    → told
    ≡ names_listed (offered t) (objects (offered t)) (set_names tables view) class scope after
    → IfOk result (λ reply. reply ≡ told)
    → IfOk result (λ reply. reply
    ≡ names_listed (held tables view) (objects (held tables view)) (set_names tables view) class
    scope after)
listed_in_force result told t tables view class scope after in_force is given =
    subst (λ (kind : ReplyKind). IfOk result (λ reply. reply ≡ kind))
    (is ∙ ap (λ (table : OwnTable). names_listed table (objects table) (set_names tables view) class
    scope after) in_force) given

-- the data sets that a book has are listed as those that the view shows
pub listed_sets : (table : OwnTable) (tables : OwnTables) (view : View) (book : Book)
    (objects : List NamedObject) (class : ℤ) (scope : Scope) (after : Option (List ℕ))
    → IsBook tables view book
    → is_foreign table scope ≡ false → int_eq class NAMED_VARIABLES ≡ false
    → (int_eq class DOMAINS && is_vmd scope) ≡ false → int_eq class NAMED_VARIABLE_LISTS ≡ true
    → names_listed table objects (set_names tables view) class scope after
    ≡ first_of (in_order (if is_scope_of table scope false
    then filter (is_after after) (book_names book.sets) else []))
listed_sets table tables view book objects class scope after b own other apart here =
    listed_lists table objects (set_names tables view) class scope after own other apart here
    ∙ sym (by (is_scope_of table scope false))
  where
    by : (found : Bool)
        → first_of (in_order (if found then filter (is_after after) (book_names book.sets) else []))
        ≡ first_of (in_order (filter (is_after after)
        (if found then set_names tables view else [])))
    by true = ap first_of (names_ordered tables view book (is_after after) b)
    by false = refl
