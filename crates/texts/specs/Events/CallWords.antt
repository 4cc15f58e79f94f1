-- The words of calls.
use Rattle.std.specs.Prelude.{◌≡◌, ℕ, List, [], ◌∷◌, ◌++◌, map, Option, Some, None, codes, decimal}
use Rattle.std.specs.Fmt.{signed_decimal}
use Rattle.std.specs.List.{All}
use Rattle.std.specs.Int.{w64}
use Rattle.std.specs.Int.RustNames.{FitsSigned}
use Rattle.plain_text.specs.Escaped.{escaped_text}
use Rattle.mms_data.specs.Datum.{Datum}
use Rattle.mms_data.specs.ObjectName.{ObjectName, IsName}
use Rattle.mms_data.specs.Text.Texts.{data_text, name_text, scope_text}
use Rattle.mms_data.specs.Text.TextRead.{HasText}
use Rattle.tase_views.specs.declared.call.CallKind.{CallKind}
use Rattle.tase_views.specs.declared.call.CallKind.TheVariants.{Identify, Read, ReadSet, Write}
use Rattle.tase_views.specs.declared.call.CallKind.TheVariants.{WriteSet, NameList, TypeOf, Define}
use Rattle.tase_views.specs.declared.call.CallKind.TheVariants.{MembersOf, Delete, DeleteScope, Odd}
use Rattle.tase_views.specs.Calls.{IsCall}
use Rattle.tase_views.specs.EventTexts.{read_verb, read_set_verb}

-- a name, and the value that it is to have
abbrev pub assigned_word : ObjectName → Datum → List ℕ
assigned_word name value = name_text name ++ 61 ∷ data_text value

-- each name with the value at its place
abbrev pub assigned_words : List ObjectName → List Datum → List (List ℕ)
assigned_words [] values = []
assigned_words (name ∷ names) [] = []
assigned_words (name ∷ names) (value ∷ values) =
    assigned_word name value ∷ assigned_words names values

-- the name after which a list of names goes on
abbrev pub after_words : Option (List ℕ) → List (List ℕ)
after_words None = []
after_words (Some after) = escaped_text after ∷ []

-- the words of what each call is spelled as
abbrev pub call_words : CallKind → List (List ℕ)
call_words Identify = codes "identify" ∷ []
call_words (Read names echo) = read_verb echo ∷ map name_text names
call_words (ReadSet set echo) = read_set_verb echo ∷ name_text set ∷ []
call_words (Write names values) = codes "write" ∷ assigned_words names values
call_words (WriteSet set values) = codes "writeset" ∷ name_text set ∷ map data_text values
call_words (NameList class scope after) =
    codes "names" ∷ signed_decimal class ∷ scope_text scope ∷ after_words after
call_words (TypeOf name) = codes "type" ∷ name_text name ∷ []
call_words (Define set members) = codes "define" ∷ name_text set ∷ map name_text members
call_words (MembersOf set) = codes "members" ∷ name_text set ∷ []
call_words (Delete sets) = codes "delete" ∷ map name_text sets
call_words (DeleteScope scope) = codes "deletescope" ∷ signed_decimal scope ∷ []
call_words (Odd kind code) = codes "odd" ∷ decimal kind ∷ decimal code ∷ []

-- each part is one that a word spells: names of identifiers, data within their ranges, a class and
-- a scope of deletion of 64 bits
abbrev pub HasWords : CallKind → Type 0
HasWords Identify = Unit {0}
HasWords (Read names echo) = All IsName names
HasWords (ReadSet set echo) = IsName set
HasWords (Write names values) = All IsName names × All HasText values
HasWords (WriteSet set values) = IsName set × All HasText values
HasWords (NameList class scope after) = FitsSigned w64 class
HasWords (TypeOf name) = IsName name
HasWords (Define set members) = IsName set × All IsName members
HasWords (MembersOf set) = IsName set
HasWords (Delete sets) = All IsName sets
HasWords (DeleteScope scope) = FitsSigned w64 scope
HasWords (Odd kind code) = Unit {0}

-- words spell a call
pub record SpellsCall (words : List (List ℕ)) (call : CallKind) : Type 0 where
  pub spelled : words ≡ call_words call
  pub lawful : IsCall call
  pub textual : HasWords call

-- words spell some call
abbrev pub AreCallWords : List (List ℕ) → Type 0
AreCallWords words = (call : CallKind) × SpellsCall words call
