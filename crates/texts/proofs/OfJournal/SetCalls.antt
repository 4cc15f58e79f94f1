-- The calls of data sets that words spell are those that are read.
use Rattle.std.proofs.Common.{◌≡◌, ℕ, ℤ, ◌<◌, Bool, true, false, List, [], ◌∷◌, length, map}
use Rattle.std.proofs.Common.{Some, None, pos, option_map, refl, sym, ap, ◌∙◌, subst, codes}
use Rattle.std.specs.Fmt.{signed_decimal}
use Rattle.std.specs.Int.{w64}
use Rattle.std.specs.Int.RustNames.{FitsSigned}
use Rattle.std.specs.List.{All}
use Rattle.std.specs.Option.{option_and_then}
use Rattle.std.specs.Ordering.{int_eq}
use Rattle.std.specs.Str.{bytes_eq}
use Rattle.std.proofs.lemmas.Bool.Decides.{Decides-int_eq}
use Rattle.std.proofs.lemmas.List.Elements.{All-nil, All-cons, All-head, All-tail}
use Rattle.std.proofs.lemmas.Option.{option_and_then_some, none-some, same_Some}
use Rattle.std.proofs.lemmas.Slice.Eq.{bytes_eq-Decides}
use Rattle.plain_text.specs.Words.{each_in}
use Rattle.plain_text.proofs.EscapedText.{option_map-found}
use Rattle.mms_data.specs.Datum.{Datum}
use Rattle.mms_data.specs.Lawful.{IsLawful}
use Rattle.mms_data.specs.ObjectName.{ObjectName, IsName}
use Rattle.mms_data.specs.Text.DatumIn.{datum_in}
use Rattle.mms_data.specs.Text.NameIn.{name_in}
use Rattle.mms_data.specs.Text.Texts.{name_text, data_text}
use Rattle.mms_data.specs.Text.TextRead.{HasText}
use Rattle.mms_data.proofs.OfText.ReadName.{name_in-found, name_in-name_text}
use Rattle.mms_data.proofs.OfText.TextReading.{datum_in-found, datum_in-text}
use Rattle.mms_data.proofs.OfText.TextBreaks as breaks
use Rattle.mms_data.proofs.OfText.WordText.{chosen}
use Rattle.tase_views.specs.declared.call.CallKind.{CallKind}
use Rattle.tase_views.specs.declared.call.CallKind.TheVariants.{ReadSet, WriteSet, TypeOf, Define}
use Rattle.tase_views.specs.declared.call.CallKind.TheVariants.{MembersOf, Delete, DeleteScope}
use Rattle.tase_views.specs.EventTexts.{read_set_verb}
use Rattle.texts.specs.Events.CallWords.{SpellsCall}
use Rattle.texts.specs.Journal.CallIn.{some_in, signed_64_in, sole_in, read_set_in}
use Rattle.texts.specs.Journal.CallIn.{write_set_in, define_in, delete_in, if_other, delete_scope_in}
use Rattle.texts.specs.Journal.CallIn.{type_in, set_call_in}
use Rattle.texts.proofs.OfJournal.CallParts.{class_in-found, class_in-text, each_in-found}
use Rattle.texts.proofs.OfJournal.CallParts.{each_in-words}
use Rattle.texts.proofs.OfJournal.CallParts.{if_some-found, if_some-whole}

sole-found : (words : List (List ℕ)) (name : ObjectName) → sole_in words ≡ Some name
    → (words ≡ name_text name ∷ []) × IsName name
sole-found [] name e = absurd (none-some name e)
sole-found (word ∷ []) name e =
    let found = name_in-found word name e in (ap (λ w. w ∷ []) found.0, found.1)
sole-found (word ∷ next ∷ more) name e = absurd (none-some name e)

read_set_in-found : (echo : Bool) (words : List (List ℕ)) (call : CallKind)
    → read_set_in echo words ≡ Some call → SpellsCall (read_set_verb echo ∷ words) call
read_set_in-found echo words call e =
    option_map-found (λ set. ReadSet set echo) (sole_in words) call e
    (λ set is whole.
    let found = sole-found words set is in
    subst (λ (c : CallKind). SpellsCall (read_set_verb echo ∷ words) c) (sym whole) (record {
      spelled = ap (λ ws. read_set_verb echo ∷ ws) found.0;
      lawful = tt;
      textual = found.1;
    }))

members_in-found : (words : List (List ℕ)) (call : CallKind)
    → option_map (λ set. MembersOf set) (sole_in words) ≡ Some call
    → SpellsCall (codes "members" ∷ words) call
members_in-found words call e =
    option_map-found (λ set. MembersOf set) (sole_in words) call e
    (λ set is whole.
    let found = sole-found words set is in
    subst (λ (c : CallKind). SpellsCall (codes "members" ∷ words) c) (sym whole) (record {
      spelled = ap (λ ws. codes "members" ∷ ws) found.0;
      lawful = tt;
      textual = found.1;
    }))

pub type_in-found : (words : List (List ℕ)) (call : CallKind) → type_in words ≡ Some call
    → SpellsCall (codes "type" ∷ words) call
type_in-found words call e =
    option_map-found (λ name. TypeOf name) (sole_in words) call e
    (λ name is whole.
    let found = sole-found words name is in
    subst (λ (c : CallKind). SpellsCall (codes "type" ∷ words) c) (sym whole) (record {
      spelled = ap (λ ws. codes "type" ∷ ws) found.0;
      lawful = tt;
      textual = found.1;
    }))

delete_in-found : (words : List (List ℕ)) (call : CallKind) → delete_in words ≡ Some call
    → SpellsCall (codes "delete" ∷ words) call
delete_in-found words call e =
    option_map-found (λ sets. Delete sets) (some_in name_in words) call e
    (λ sets is whole.
    let some = if_some-found (each_in name_in words) sets is in
    let found = each_in-found name_in name_text IsName name_in-found words sets some.0 in
    subst (λ (c : CallKind). SpellsCall (codes "delete" ∷ words) c) (sym whole) (record {
      spelled = ap (λ ws. codes "delete" ∷ ws) found.0;
      lawful = some.1;
      textual = found.1;
    }))

define_in-found : (words : List (List ℕ)) (call : CallKind) → define_in words ≡ Some call
    → SpellsCall (codes "define" ∷ words) call
define_in-found [] call e = absurd (none-some call e)
define_in-found (set ∷ members) call e =
    option_and_then_some (λ s. option_map (λ ms. Define s ms) (some_in name_in members))
    (name_in set) call e
    (λ s is_s k.
    option_map-found (λ ms. Define s ms) (some_in name_in members) call k
    (λ ms is whole.
    let first = name_in-found set s is_s in
    let some = if_some-found (each_in name_in members) ms is in
    let found = each_in-found name_in name_text IsName name_in-found members ms some.0 in
    subst (λ (c : CallKind). SpellsCall (codes "define" ∷ set ∷ members) c) (sym whole) (record {
      spelled = λ i. codes "define" ∷ first.0 i ∷ found.0 i;
      lawful = some.1;
      textual = (first.1, found.1);
    })))

-- data keep what all data that are read keep
all_lawful : (values : List Datum) → All HasText values → All IsLawful values
all_lawful [] all = All-nil IsLawful
all_lawful (value ∷ values) all =
    All-cons IsLawful value values (breaks.lawful value (All-head HasText value values all))
    (all_lawful values (All-tail HasText value values all))

value-found : (word : List ℕ) (value : Datum) → datum_in word ≡ Some value
    → (word ≡ data_text value) × HasText value
value-found word value e = let found = datum_in-found word value e in (found.1, found.0)

write_set_in-found : (words : List (List ℕ)) (call : CallKind) → write_set_in words ≡ Some call
    → SpellsCall (codes "writeset" ∷ words) call
write_set_in-found [] call e = absurd (none-some call e)
write_set_in-found (set ∷ values) call e =
    option_and_then_some (λ s. option_map (λ vs. WriteSet s vs) (some_in datum_in values))
    (name_in set) call e
    (λ s is_s k.
    option_map-found (λ vs. WriteSet s vs) (some_in datum_in values) call k
    (λ vs is whole.
    let first = name_in-found set s is_s in
    let some = if_some-found (each_in datum_in values) vs is in
    let found = each_in-found datum_in data_text HasText value-found values vs some.0 in
    subst (λ (c : CallKind). SpellsCall (codes "writeset" ∷ set ∷ values) c) (sym whole) (record {
      spelled = λ i. codes "writeset" ∷ first.0 i ∷ found.0 i;
      lawful = (some.1, all_lawful vs found.1);
      textual = (first.1, found.1);
    })))

other-found : (scope : ℤ) (b : Bool) (call : CallKind) → int_eq scope (pos 0) ≡ b
    → if_other scope ≡ Some call → (call ≡ DeleteScope scope) × (scope ≡ pos 0 → ⊥)
other-found scope true call same e =
    let none : None ≡ Some call = rw same at e in absurd (none-some call none)
other-found scope false call other e =
    let is : Some (DeleteScope scope) ≡ Some call = rw other at e in
    let apart : scope ≡ pos 0 → ⊥ =
    λ k. let t : int_eq scope (pos 0) ≡ true = (Decides-int_eq scope (pos 0)).1 k in absurd cc in
    (sym (same_Some (DeleteScope scope) call is), apart)

delete_scope_in-found : (words : List (List ℕ)) (call : CallKind)
    → delete_scope_in words ≡ Some call → SpellsCall (codes "deletescope" ∷ words) call
delete_scope_in-found [] call e = absurd (none-some call e)
delete_scope_in-found (word ∷ []) call e =
    option_and_then_some if_other (signed_64_in word) call e
    (λ scope is k.
    let found = class_in-found word scope is in
    let other = other-found scope (int_eq scope (pos 0)) call refl k in
    subst (λ (c : CallKind). SpellsCall (codes "deletescope" ∷ word ∷ []) c) (sym other.0) (record {
      spelled = ap (λ w. codes "deletescope" ∷ w ∷ []) found.0;
      lawful = other.1;
      textual = found.1;
    }))
delete_scope_in-found (word ∷ next ∷ more) call e = absurd (none-some call e)

-- a verb, and what stands behind it
pub verb_is : (verb word : List ℕ) (words : List (List ℕ)) (call : CallKind)
    → bytes_eq verb word ≡ true → SpellsCall (word ∷ words) call → SpellsCall (verb ∷ words) call
verb_is verb word words call e said =
    subst (λ (v : List ℕ). SpellsCall (v ∷ words) call) (sym ((bytes_eq-Decides verb word).0 e))
    said

pub set_call_in-found : (verb : List ℕ) (words : List (List ℕ)) (call : CallKind)
    → set_call_in verb words ≡ Some call → SpellsCall (verb ∷ words) call
set_call_in-found verb words call e =
    chosen (SpellsCall (verb ∷ words) call) call (bytes_eq verb (codes "readset")) _ _
    (λ is k. verb_is verb (codes "readset") words call is (read_set_in-found false words call k))
    (λ other k. chosen (SpellsCall (verb ∷ words) call) call (bytes_eq verb (codes "readset+")) _ _
    (λ is m. verb_is verb (codes "readset+") words call is (read_set_in-found true words call m))
    (λ other m. chosen (SpellsCall (verb ∷ words) call) call (bytes_eq verb (codes "writeset")) _ _
    (λ is n. verb_is verb (codes "writeset") words call is (write_set_in-found words call n))
    (λ other n. chosen (SpellsCall (verb ∷ words) call) call (bytes_eq verb (codes "define")) _ _
    (λ is o. verb_is verb (codes "define") words call is (define_in-found words call o))
    (λ other o. chosen (SpellsCall (verb ∷ words) call) call (bytes_eq verb (codes "members")) _ _
    (λ is p. verb_is verb (codes "members") words call is (members_in-found words call p))
    (λ other p. chosen (SpellsCall (verb ∷ words) call) call (bytes_eq verb (codes "delete")) _ _
    (λ is q. verb_is verb (codes "delete") words call is (delete_in-found words call q))
    (λ other q. chosen (SpellsCall (verb ∷ words) call) call
    (bytes_eq verb (codes "deletescope")) _ _
    (λ is r. verb_is verb (codes "deletescope") words call is (delete_scope_in-found words call r))
    (λ other r. absurd (none-some call r)) q) p) o) n) m) k) e

-- ---- what is spelled is read

pub read_set_in-words : (echo : Bool) (set : ObjectName) → IsName set
    → read_set_in echo (name_text set ∷ []) ≡ Some (ReadSet set echo)
read_set_in-words echo set named = rw (name_in-name_text set named) refl

pub members_in-words : (set : ObjectName) → IsName set
    → option_map (λ s. MembersOf s) (sole_in (name_text set ∷ [])) ≡ Some (MembersOf set)
members_in-words set named = rw (name_in-name_text set named) refl

pub type_in-words : (name : ObjectName) → IsName name
    → type_in (name_text name ∷ []) ≡ Some (TypeOf name)
type_in-words name named = rw (name_in-name_text name named) refl

pub delete_in-words : (sets : List ObjectName) → 0 < length sets → All IsName sets
    → delete_in (map name_text sets) ≡ Some (Delete sets)
delete_in-words sets some all =
    rw (
      each_in-words name_in name_text IsName name_in-name_text sets all,
      if_some-whole sets some,
    ) refl

pub define_in-words : (set : ObjectName) (members : List ObjectName) → IsName set
    → 0 < length members → All IsName members
    → define_in (name_text set ∷ map name_text members) ≡ Some (Define set members)
define_in-words set members named some all =
    rw (
      name_in-name_text set named,
      each_in-words name_in name_text IsName name_in-name_text members all,
      if_some-whole members some,
    ) refl

pub write_set_in-words : (set : ObjectName) (values : List Datum) → IsName set
    → 0 < length values → All HasText values
    → write_set_in (name_text set ∷ map data_text values) ≡ Some (WriteSet set values)
write_set_in-words set values named some all =
    rw (
      name_in-name_text set named,
      each_in-words datum_in data_text HasText datum_in-text values all,
      if_some-whole values some,
    ) refl

pub delete_scope_in-words : (scope : ℤ) → FitsSigned w64 scope → (scope ≡ pos 0 → ⊥)
    → delete_scope_in (signed_decimal scope ∷ []) ≡ Some (DeleteScope scope)
delete_scope_in-words scope fits other =
    ap (option_and_then if_other) (class_in-text scope fits) ∙ by (int_eq scope (pos 0)) refl
  where
    by : (b : Bool) → int_eq scope (pos 0) ≡ b → if_other scope ≡ Some (DeleteScope scope)
    by true same = absurd (other ((Decides-int_eq scope (pos 0)).0 same))
    by false apart = rw apart refl
