-- The types of all names of a table, told by the table itself, and that nothing differs then.
use Rattle.std.proofs.Common.{◌≡◌, ℕ, Bool, true, false, not, ◌&&◌, ◌||◌}
use Rattle.std.proofs.Common.{List, [], ◌∷◌, ◌++◌, length, map, Option, Some, None, is_some, flat_map}
use Rattle.std.proofs.Common.{refl, sym, ap, ◌∙◌, arith, append_assoc, append-nil, bytes_eq}
use Rattle.std.specs.Prelude.{if◌then◌else◌, filter, find, nat_lt, option_map}
use Rattle.std.proofs.lemmas.Bool.{le-ltb}
use Rattle.std.proofs.lemmas.List.{length-map}
use Rattle.std.proofs.lemmas.Slice.Eq.{bytes_eq-Decides}
use Rattle.mms_data.specs.declared.object_name.Scope.{Scope}
use Rattle.mms_data.specs.declared.object_name.Scope.TheVariants.{Vmd, Domain, Association}
use Rattle.mms_data.specs.ObjectName.{ObjectName, same_scope, same_name}
use Rattle.tase_views.specs.OwnTables.{OwnTable, is_scope_of}
use Rattle.tase_views.specs.Objects.{NamedObject, objects, object_named, is_named}
use Rattle.tase_views.specs.NameLists.{variables_in, in_order, with_name, is_below}
use Rattle.tase_discover.specs.declared.end.Stage.TheVariants as stages
use Rattle.tase_discover.specs.Listings.{ListingSeen, named_in}
use Rattle.tase_discover.specs.Listings.{came_alike, missing_in, missing, extra, items_in}
use Rattle.tase_discover.specs.Listings.{differences, nothing_differs, is_same, is_empty, missing_line}
use Rattle.tase_discover.specs.Listings.{extra_line, listed_names}
use Rattle.tase_discover.proofs.Rising.{if_elim}
use Rattle.tase_discover.proofs.Paged.{so_far}

-- ---- every name of a table stands for something

abbrev pub Every : {A : Type 0} → (A → Type 0) → List A → Type 0
Every P [] = Unit {0}
Every P (x ∷ xs) = P x × Every P xs

abbrev pub HasObject : OwnTable → ObjectName → Type 0
HasObject table name = is_some (object_named table name) ≡ true

every-with : (P : List ℕ → Type 0) (n : List ℕ) (ns : List (List ℕ)) → P n → Every P ns
    → Every P (with_name n ns)
every-with P n [] p e = (p, tt)
every-with P n (f ∷ r) p e =
    if_elim (Every P) (is_below f n) (f ∷ with_name n r) (n ∷ f ∷ r)
    (λ _. (e.0, every-with P n r p e.1)) (λ _. (p, e))

every-in_order : (P : List ℕ → Type 0) (ns : List (List ℕ)) → Every P ns → Every P (in_order ns)
every-in_order P [] e = tt
every-in_order P (n ∷ ns) e = every-with P n (in_order ns) e.0 (every-in_order P ns e.1)

pub every-map : {A B : Type 0} (P : B → Type 0) (f : A → B) (xs : List A)
    → Every (λ x. P (f x)) xs → Every P (map f xs)
every-map P f [] e = tt
every-map P f (x ∷ xs) e = (e.0, every-map P f xs e.1)

pub every-append : {A : Type 0} (P : A → Type 0) (xs ys : List A) → Every P xs → Every P ys
    → Every P (xs ++ ys)
every-append P [] ys e f = f
every-append P (x ∷ xs) ys e f = (e.0, every-append P xs ys e.1 f)

pub same_octets : (a : List ℕ) → bytes_eq a a ≡ true
same_octets a = (bytes_eq-Decides a a).1 refl

find-some : {A : Type 0} (p : A → Bool) (some : List A) (x : A) (more : List A) → p x ≡ true
    → is_some (find p (some ++ (x ∷ more))) ≡ true
find-some {A = A} p [] x more e =
    ap (λ (b : Bool). is_some (if b then Some x else find p more)) e
find-some {A = A} p (s ∷ some) x more e =
    if_elim (λ (o : Option A). is_some o ≡ true) (p s) (Some s) (find p (some ++ (x ∷ more)))
    (λ _. refl) (λ _. find-some p some x more e)

mapped-some : {A B : Type 0} (f : A → B) (o : Option A) → is_some o ≡ true
    → is_some (option_map f o) ≡ true
mapped-some f (Some x) e = refl
mapped-some f None e = e

objects_found : (table : OwnTable) (scope : Scope) (some more : List NamedObject)
    → objects table ≡ some ++ more
    → Every (λ item. HasObject table (named_in scope item)) (variables_in table more scope)
objects_found table scope some [] is = tt
objects_found table scope some (o ∷ more) is =
    let rest = objects_found table scope (some ++ (o ∷ [])) more
    (is ∙ sym (append_assoc some (o ∷ []) more)) in
    one_found (is_scope_of table scope o.vmd) refl rest
  where
    one_found : (b : Bool) → is_scope_of table scope o.vmd ≡ b
        → Every (λ item. HasObject table (named_in scope item)) (variables_in table more scope)
        → Every (λ item. HasObject table (named_in scope item))
        (map (λ (x : NamedObject). x.item)
        (if b then o ∷ filter (λ x. is_scope_of table scope x.vmd) more
        else filter (λ x. is_scope_of table scope x.vmd) more))
    one_found true e rest =
        let name = named_in scope o.item in
        let named : is_named table name o ≡ true =
        ap (λ (b : Bool). b && bytes_eq o.item o.item) e ∙ same_octets o.item in (
          mapped-some (λ (x : NamedObject). x.object) (find (is_named table name) (objects table))
              (ap (λ (os : List NamedObject). is_some (find (is_named table name) os)) is
              ∙ find-some (is_named table name) some o more named),
          rest,
        )
    one_found false e rest = rest

scope_found : (table : OwnTable) (scope : Scope)
    → Every (HasObject table) (map (named_in scope) (items_in table scope))
scope_found table scope =
    every-map (HasObject table) (named_in scope) (items_in table scope)
    (every-in_order (λ item. HasObject table (named_in scope item))
    (variables_in table (objects table) scope)
    (objects_found table scope [] (objects table) refl))

pub all_found : (table : OwnTable) → Every (HasObject table) (listed_names table)
all_found table =
    every-append (HasObject table) (map (named_in Vmd) (items_in table Vmd))
    (map (named_in (Domain table.domain)) (items_in table (Domain table.domain)))
    (scope_found table Vmd) (scope_found table (Domain table.domain))

-- ---- nothing differs where all names came alike

abbrev pub alike : List ObjectName → List Bool
alike names = map (λ name. true) names

same_self : (scope : Scope) → same_scope scope scope ≡ true
same_self Vmd = refl
same_self (Domain domain) = same_octets domain
same_self Association = refl

name_self : (name : ObjectName) → same_name name name ≡ true
name_self name =
    ap (λ (b : Bool). b && bytes_eq name.item name.item) (same_self name.scope)
    ∙ same_octets name.item

or_true : (b : Bool) → (b || true) ≡ true
or_true true = refl
or_true false = refl

came : (some : List ObjectName) (name : ObjectName) (more : List ObjectName)
    → came_alike (some ++ (name ∷ more)) (alike (some ++ (name ∷ more))) name ≡ true
came [] name more =
    ap (λ (b : Bool). b || came_alike more (alike more) name) (name_self name)
came (s ∷ some) name more =
    ap (λ (b : Bool). same_name name s || b) (came some name more)
    ∙ or_true (same_name name s)

none_missing : (scope : Scope) (names some : List ObjectName) (items : List (List ℕ))
    (more : List ObjectName) → names ≡ some ++ (map (named_in scope) items ++ more)
    → filter (λ item. not (came_alike names (alike names) (named_in scope item))) items ≡ []
none_missing scope names some [] more is = refl
none_missing scope names some (item ∷ items) more is =
    let name = named_in scope item in
    let here : came_alike names (alike names) name ≡ true =
    ap (λ (ns : List ObjectName). came_alike ns (alike ns) name) is
    ∙ came some name (map (named_in scope) items ++ more) in
    ap (λ (b : Bool). if not b
    then item ∷ filter (λ x. not (came_alike names (alike names) (named_in scope x))) items
    else filter (λ x. not (came_alike names (alike names) (named_in scope x))) items) here
    ∙ none_missing scope names (some ++ (name ∷ [])) items more
    (is ∙ sym (append_assoc some (name ∷ []) (map (named_in scope) items ++ more)))

none_extra : (table : OwnTable) (names : List ObjectName) → Every (HasObject table) names
    → filter (λ name. not (is_some (object_named table name))) names ≡ []
none_extra table [] e = refl
none_extra table (name ∷ names) e =
    ap (λ (b : Bool). if not b
    then name ∷ filter (λ x. not (is_some (object_named table x))) names
    else filter (λ x. not (is_some (object_named table x))) names) e.0
    ∙ none_extra table names e.1

abbrev pub all_alike : OwnTable → ListingSeen
all_alike table = so_far stages.Types (listed_names table) (alike (listed_names table))

pub nothing_missing : (table : OwnTable) → missing table (all_alike table) ≡ []
nothing_missing table =
    let vmd = items_in table Vmd in
    let own = Domain table.domain in
    let first : missing_in table (all_alike table) Vmd ≡ [] =
    ap (map (named_in Vmd)) (none_missing Vmd (listed_names table) [] vmd
    (map (named_in own) (items_in table own)) refl) in
    let second : missing_in table (all_alike table) own ≡ [] =
    ap (map (named_in own)) (none_missing own (listed_names table) (map (named_in Vmd) vmd)
    (items_in table own) [] (ap (λ (ns : List ObjectName). map (named_in Vmd) vmd ++ ns)
    (sym (append-nil (map (named_in own) (items_in table own)))))) in
    ap (λ (ns : List ObjectName). ns ++ missing_in table (all_alike table) own) first ∙ second

pub nothing_extra : (table : OwnTable) → extra table (all_alike table) ≡ []
nothing_extra table = none_extra table (listed_names table) (all_found table)

pub nothing_shown : (table : OwnTable) → differences table (all_alike table) ≡ []
nothing_shown table =
    ap (λ (ns : List ObjectName). flat_map missing_line ns
    ++ flat_map extra_line (extra table (all_alike table))) (nothing_missing table)
    ∙ ap (λ (ns : List ObjectName). flat_map extra_line ns) (nothing_extra table)

judged_all : (names : List ObjectName) → not (nat_lt (length (alike names)) (length names)) ≡ true
judged_all names =
    ap not (ap (λ (n : ℕ). nat_lt n (length names)) (length-map names (λ _. true))
    ∙ le-ltb (length names) (length names) (omega arith))

pub all_same : (table : OwnTable) → is_same table (all_alike table) ≡ true
all_same table =
    ap (λ (b : Bool). b && nothing_differs table (all_alike table)) (judged_all (listed_names table))
    ∙ ap (λ (ns : List ObjectName). is_empty ns && is_empty (extra table (all_alike table)))
    (nothing_missing table)
    ∙ ap (λ (ns : List ObjectName). is_empty ns) (nothing_extra table)
