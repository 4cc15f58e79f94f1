-- The call that words spell.
use Rattle.std.specs.Prelude.{ℕ, ℤ, ◌+◌, ◌^◌, ◌-◌, ◌==◌, if◌then◌else◌, Bool, true, false, pos}
use Rattle.std.specs.Prelude.{negsuc, List, [], ◌∷◌, length, map, slice_index, Option, Some, None}
use Rattle.std.specs.Prelude.{option_map, option_and_then, codes, bytes_eq}
use Rattle.std.proofs.Common.{take, drop}
use Rattle.std.specs.List.{position}
use Rattle.std.specs.Ordering.{int_eq}
use Rattle.plain_text.specs.Numbers.{integer_word_within}
use Rattle.plain_text.specs.Words.{each_in}
use Rattle.mms_data.specs.Datum.{Datum}
use Rattle.mms_data.specs.ObjectName.{ObjectName}
use Rattle.mms_data.specs.declared.object_name.Scope.{Scope}
use Rattle.mms_data.specs.Text.NameIn.{identifier_in, is_separator, scope_in, name_in}
use Rattle.mms_data.specs.Text.DatumIn.{datum_in}
use Rattle.tase_views.specs.declared.call.CallKind.{CallKind}
use Rattle.tase_views.specs.declared.call.CallKind.TheVariants.{Identify, Read, ReadSet, Write}
use Rattle.tase_views.specs.declared.call.CallKind.TheVariants.{WriteSet, NameList, TypeOf, Define}
use Rattle.tase_views.specs.declared.call.CallKind.TheVariants.{MembersOf, Delete, DeleteScope, Odd}

-- a name before a place, and a datum behind it
abbrev pub assigned_at : List ℕ → ℕ → Option (ObjectName × Datum)
assigned_at word place =
    option_and_then (λ name. option_map (λ value. (name, value)) (datum_in (drop (place + 1) word)))
    (name_in (take place word))

-- `NAME=DATA`
abbrev pub assigned_in : List ℕ → Option (ObjectName × Datum)
assigned_in word = option_and_then (assigned_at word) (position (λ octet. octet == 61) word)

-- a list with something in it
abbrev pub if_some : {A : Type 0} → List A → Option (List A)
if_some [] = None
if_some (x ∷ xs) = Some (x ∷ xs)

-- what one word or more stand for
abbrev pub some_in : {A : Type 0} → (List ℕ → Option A) → List (List ℕ) → Option (List A)
some_in read words = option_and_then if_some (each_in read words)

-- `NAME ..` behind `read` or `read+`
abbrev pub read_in : Bool → List (List ℕ) → Option CallKind
read_in echo words = option_map (λ names. Read names echo) (some_in name_in words)

-- `NAME=DATA ..` behind `write`
abbrev pub write_in : List (List ℕ) → Option CallKind
write_in words =
    option_map (λ pairs. Write (map (λ p. p.0) pairs) (map (λ p. p.1) pairs))
    (some_in assigned_in words)

-- a number of 64 bits
abbrev pub signed_64_in : List ℕ → Option ℤ
signed_64_in word = integer_word_within (negsuc (2 ^ 63 - 1)) (pos (2 ^ 63 - 1)) word

-- a scope that ends with the separator at a place
abbrev pub scope_at : List ℕ → ℕ → Option Scope
scope_at word place =
    if place + 1 == length word then scope_in (take place word) (slice_index word place) else None

-- `vmd:`, `DOMAIN/` or `aa:`
abbrev pub scope_of_word : List ℕ → Option Scope
scope_of_word word = option_and_then (scope_at word) (position is_separator word)

-- nothing, or the name after which a list goes on
abbrev pub after_in : List (List ℕ) → Option (Option (List ℕ))
after_in [] = Some None
after_in (word ∷ []) = option_map Some (identifier_in word)
after_in (word ∷ next ∷ more) = None

-- `CLASS SCOPE` or `CLASS SCOPE AFTER` behind `names`
abbrev pub names_call_in : List (List ℕ) → Option CallKind
names_call_in [] = None
names_call_in (class ∷ []) = None
names_call_in (class ∷ scope ∷ more) =
    option_and_then (λ c. option_and_then (λ s. option_map (λ a. NameList c s a) (after_in more))
    (scope_of_word scope)) (signed_64_in class)

-- nothing behind `identify`
abbrev pub identify_in : List (List ℕ) → Option CallKind
identify_in [] = Some Identify
identify_in (word ∷ words) = None

-- a name, and nothing behind it
abbrev pub sole_in : List (List ℕ) → Option ObjectName
sole_in [] = None
sole_in (word ∷ []) = name_in word
sole_in (word ∷ next ∷ more) = None

-- `NAME` behind `readset` or `readset+`
abbrev pub read_set_in : Bool → List (List ℕ) → Option CallKind
read_set_in echo words = option_map (λ set. ReadSet set echo) (sole_in words)

-- `NAME` behind `type`
abbrev pub type_in : List (List ℕ) → Option CallKind
type_in words = option_map (λ name. TypeOf name) (sole_in words)

-- `NAME DATA ..` behind `writeset`
abbrev pub write_set_in : List (List ℕ) → Option CallKind
write_set_in [] = None
write_set_in (set ∷ values) =
    option_and_then (λ s. option_map (λ vs. WriteSet s vs) (some_in datum_in values)) (name_in set)

-- `NAME MEMBER ..` behind `define`
abbrev pub define_in : List (List ℕ) → Option CallKind
define_in [] = None
define_in (set ∷ members) =
    option_and_then (λ s. option_map (λ ms. Define s ms) (some_in name_in members)) (name_in set)

-- `NAME ..` behind `delete`
abbrev pub delete_in : List (List ℕ) → Option CallKind
delete_in words = option_map (λ sets. Delete sets) (some_in name_in words)

-- a scope of deletion other than 0
abbrev pub if_other : ℤ → Option CallKind
if_other scope = if int_eq scope (pos 0) then None else Some (DeleteScope scope)

-- `SCOPE` behind `deletescope`
abbrev pub delete_scope_in : List (List ℕ) → Option CallKind
delete_scope_in [] = None
delete_scope_in (word ∷ []) = option_and_then if_other (signed_64_in word)
delete_scope_in (word ∷ next ∷ more) = None

-- the call of data sets that a verb and the words behind it spell
abbrev pub set_call_in : List ℕ → List (List ℕ) → Option CallKind
set_call_in verb words =
    if bytes_eq verb (codes "readset") then read_set_in false words
    else (if bytes_eq verb (codes "readset+") then read_set_in true words
    else (if bytes_eq verb (codes "writeset") then write_set_in words
    else (if bytes_eq verb (codes "define") then define_in words
    else (if bytes_eq verb (codes "members") then option_map (λ set. MembersOf set) (sole_in words)
    else (if bytes_eq verb (codes "delete") then delete_in words
    else (if bytes_eq verb (codes "deletescope") then delete_scope_in words else None))))))

-- the kind of an odd call
abbrev pub odd_kind : List ℕ → Option ℕ
odd_kind word =
    if bytes_eq word (codes "1") then Some 1
    else (if bytes_eq word (codes "5") then Some 5 else None)

-- `1 1` or `5 1` behind `odd`
abbrev pub odd_in : List (List ℕ) → Option CallKind
odd_in [] = None
odd_in (kind ∷ []) = None
odd_in (kind ∷ code ∷ []) =
    if bytes_eq code (codes "1") then option_map (λ k. Odd k 1) (odd_kind kind) else None
odd_in (kind ∷ code ∷ next ∷ more) = None

-- the call that words spell, where they are those of a call
abbrev pub call_in : List (List ℕ) → Option CallKind
call_in [] = None
call_in (verb ∷ words) =
    if bytes_eq verb (codes "read") then read_in false words
    else (if bytes_eq verb (codes "read+") then read_in true words
    else (if bytes_eq verb (codes "write") then write_in words
    else (if bytes_eq verb (codes "names") then names_call_in words
    else (if bytes_eq verb (codes "identify") then identify_in words
    else (if bytes_eq verb (codes "odd") then odd_in words
    else (if bytes_eq verb (codes "type") then type_in words
    else set_call_in verb words))))))
