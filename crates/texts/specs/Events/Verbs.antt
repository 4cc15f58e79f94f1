-- The first word of a call, and the words that may stand behind it.
use Rattle.std.specs.Prelude.{◌≡◌, ◌≢◌, ℕ, ◌⊎◌, ◌==◌, ◌+◌, ◌-◌, if◌then◌else◌, List, [], ◌∷◌}
use Rattle.std.specs.Prelude.{length}
use Rattle.std.specs.Prelude.{slice_index, not, option_and_then}
use Rattle.std.specs.Ordering.{int_eq}
use Rattle.std.specs.Prelude.{Option, Some, None, option_map, IfSome, codes, bytes_eq, ℤ, pos}
use Rattle.std.specs.Prelude.{negsuc, ◌^◌}
use Rattle.std.proofs.Common.{take}
use Rattle.std.specs.Fmt.{signed_decimal}
use Rattle.std.specs.Int.{w64}
use Rattle.std.specs.Int.RustNames.{FitsSigned}
use Rattle.plain_text.specs.Escaped.{escaped_text}
use Rattle.plain_text.specs.Numbers.{integer_word_within, if_passes}
use Rattle.mms_data.specs.Datum.{Datum}
use Rattle.mms_data.specs.Lawful.{IsLawful}
use Rattle.mms_data.specs.ObjectName.{ObjectName, IsName, IsScope, IsIdentifier}
use Rattle.mms_data.specs.declared.object_name.Scope.{Scope}
use Rattle.mms_data.specs.declared.object_name.Scope.TheVariants as scopes
use Rattle.mms_data.specs.Text.NameIn.{identifier_in}
use Rattle.mms_data.specs.Text.Texts.{name_text, scope_text, data_text}
use Rattle.mms_data.specs.Text.TextRead.{HasText}
use Rattle.texts.specs.Events.CallWords.{assigned_word, after_words}
use Rattle.texts.specs.declared.events.reading.verbs.Verb.{Verb}
use Rattle.texts.specs.declared.events.reading.verbs.Verb.TheVariants as verbs
use Rattle.texts.specs.declared.events.reading.halt.Halt.{Halt}
use Rattle.texts.specs.declared.events.reading.halt.Halt.TheVariants as halts

-- a reading stopped because of the words, and so many of them may begin
abbrev pub HaltsAtWords : Halt → (ℕ → Type 0) → Type 0
HaltsAtWords halts.Memory P = Unit {0}
HaltsAtWords (halts.Bad count) P = P count

-- where a reading stopped, counted with one word more in front of what it read
abbrev pub one_more : Halt → Halt
one_more halts.Memory = halts.Memory
one_more (halts.Bad count) = halts.Bad (count + 1)

-- a verb as a word
abbrev pub verb_text : Verb → List ℕ
verb_text verbs.Identify = codes "identify"
verb_text verbs.Read = codes "read"
verb_text verbs.ReadEcho = codes "read+"
verb_text verbs.ReadSet = codes "readset"
verb_text verbs.ReadSetEcho = codes "readset+"
verb_text verbs.Write = codes "write"
verb_text verbs.WriteSet = codes "writeset"
verb_text verbs.NameList = codes "names"
verb_text verbs.TypeOf = codes "type"
verb_text verbs.Define = codes "define"
verb_text verbs.MembersOf = codes "members"
verb_text verbs.Delete = codes "delete"
verb_text verbs.DeleteScope = codes "deletescope"
verb_text verbs.Odd = codes "odd"

-- the verb of data sets that a word is
abbrev pub set_verb_in : List ℕ → Option Verb
set_verb_in word =
    if bytes_eq word (codes "readset") then Some verbs.ReadSet
    else (if bytes_eq word (codes "readset+") then Some verbs.ReadSetEcho
    else (if bytes_eq word (codes "writeset") then Some verbs.WriteSet
    else (if bytes_eq word (codes "define") then Some verbs.Define
    else (if bytes_eq word (codes "members") then Some verbs.MembersOf
    else (if bytes_eq word (codes "delete") then Some verbs.Delete
    else (if bytes_eq word (codes "deletescope") then Some verbs.DeleteScope else None))))))

-- the verb that a word is
abbrev pub verb_in : List ℕ → Option Verb
verb_in word =
    if bytes_eq word (codes "identify") then Some verbs.Identify
    else (if bytes_eq word (codes "read") then Some verbs.Read
    else (if bytes_eq word (codes "read+") then Some verbs.ReadEcho
    else (if bytes_eq word (codes "write") then Some verbs.Write
    else (if bytes_eq word (codes "names") then Some verbs.NameList
    else (if bytes_eq word (codes "odd") then Some verbs.Odd
    else (if bytes_eq word (codes "type") then Some verbs.TypeOf
    else set_verb_in word))))))

-- a word is a name
pub record IsNameWord (word : List ℕ) : Type 0 where
  pub name : ObjectName
  pub spelled : word ≡ name_text name
  pub named : IsName name

-- a word is a name and a value
pub record IsAssignedWord (word : List ℕ) : Type 0 where
  pub name : ObjectName
  pub value : Datum
  pub spelled : word ≡ assigned_word name value
  pub named : IsName name
  pub lawful : IsLawful value
  pub textual : HasText value

-- a word is a value
pub record IsValueWord (word : List ℕ) : Type 0 where
  pub value : Datum
  pub spelled : word ≡ data_text value
  pub lawful : IsLawful value
  pub textual : HasText value

-- a word is a scope of deletion, which isn't 0
pub record IsDeletionWord (word : List ℕ) : Type 0 where
  pub scope : ℤ
  pub spelled : word ≡ signed_decimal scope
  pub fits : FitsSigned w64 scope
  pub other : scope ≢ pos 0

-- a word is a class
pub record IsClassWord (word : List ℕ) : Type 0 where
  pub class : ℤ
  pub spelled : word ≡ signed_decimal class
  pub fits : FitsSigned w64 class

-- a word is a scope
pub record IsScopeWord (word : List ℕ) : Type 0 where
  pub scope : Scope
  pub spelled : word ≡ scope_text scope
  pub named : IsScope scope

-- a word is a name after which a list goes on
pub record IsAfterWord (word : List ℕ) : Type 0 where
  pub after : List ℕ
  pub spelled : word ≡ escaped_text after
  pub named : IsIdentifier after

-- a word is the kind of a reject
abbrev pub IsOddKind : List ℕ → Type 0
IsOddKind word = (word ≡ codes "1") ⊎ (word ≡ codes "5")

-- a word is the code of a reject
abbrev pub IsOddCode : List ℕ → Type 0
IsOddCode word = word ≡ codes "1"

-- no word
abbrev pub NoWord : List (List ℕ) → Type 0
NoWord [] = Unit {0}
NoWord (word ∷ words) = ⊥

-- each word is such
abbrev pub EachWord : (List ℕ → Type 0) → List (List ℕ) → Type 0
EachWord W [] = Unit {0}
EachWord W (word ∷ words) = W word × EachWord W words

-- a word, and others behind it
abbrev pub Then : (List ℕ → Type 0) → (List (List ℕ) → Type 0) → List (List ℕ) → Type 0
Then W P [] = ⊥
Then W P (word ∷ words) = W word × P words

-- one word or none
abbrev pub AtMostOne : (List ℕ → Type 0) → List (List ℕ) → Type 0
AtMostOne W [] = Unit {0}
AtMostOne W (word ∷ words) = W word × NoWord words

-- one word or more
abbrev pub OneOrMore : (List ℕ → Type 0) → List (List ℕ) → Type 0
OneOrMore W words = Then W (EachWord W) words

-- what may stand behind a verb
abbrev pub Behind : Verb → List (List ℕ) → Type 0
Behind verbs.Identify words = NoWord words
Behind verbs.Read words = OneOrMore IsNameWord words
Behind verbs.ReadEcho words = OneOrMore IsNameWord words
Behind verbs.ReadSet words = Then IsNameWord NoWord words
Behind verbs.ReadSetEcho words = Then IsNameWord NoWord words
Behind verbs.Write words = OneOrMore IsAssignedWord words
Behind verbs.WriteSet words = Then IsNameWord (OneOrMore IsValueWord) words
Behind verbs.NameList words = Then IsClassWord (Then IsScopeWord (AtMostOne IsAfterWord)) words
Behind verbs.TypeOf words = Then IsNameWord NoWord words
Behind verbs.Define words = Then IsNameWord (OneOrMore IsNameWord) words
Behind verbs.MembersOf words = Then IsNameWord NoWord words
Behind verbs.Delete words = OneOrMore IsNameWord words
Behind verbs.DeleteScope words = Then IsDeletionWord NoWord words
Behind verbs.Odd words = Then IsOddKind (Then IsOddCode NoWord) words

-- the class that a word is
abbrev pub class_in : List ℕ → Option ℤ
class_in word = integer_word_within (negsuc (2 ^ 63 - 1)) (pos (2 ^ 63 - 1)) word

-- the scope of deletion that a word is
abbrev pub deletion_in : List ℕ → Option ℤ
deletion_in word = option_and_then (if_passes (λ scope. not (int_eq scope (pos 0)))) (class_in word)

-- the scope that a word without a slash at its end is
abbrev pub bare_scope_in : List ℕ → Option Scope
bare_scope_in word =
    if bytes_eq word (codes "vmd:") then Some scopes.Vmd
    else (if bytes_eq word (codes "aa:") then Some scopes.Association else None)

-- the scope that a word is: a domain before a slash, or one of the others
abbrev pub scope_word_in : List ℕ → Option Scope
scope_word_in word =
    if slice_index word (length word - 1) == 47
    then option_map scopes.Domain (identifier_in (take (length word - 1) word))
    else bare_scope_in word

-- the kind of a reject that a word is
abbrev pub odd_kind_in : List ℕ → Option ℕ
odd_kind_in word =
    if bytes_eq word (codes "1") then Some 1
    else (if bytes_eq word (codes "5") then Some 5 else None)

-- words are a scope, and the name after which a list goes on where there is one
pub record IsScopeAfter (words : List (List ℕ)) (scope : Scope) (after : Option (List ℕ))
    : Type 0 where
  pub spelled : words ≡ scope_text scope ∷ after_words after
  pub named : IsScope scope
  pub after_named : IfSome after IsIdentifier
