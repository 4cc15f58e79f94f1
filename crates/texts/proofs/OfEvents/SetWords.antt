-- Words of calls of data sets that are read as nothing are nothing.
use Rattle.std.proofs.Common.{◌≡◌, ℕ, suc, ◌+◌, ◌<◌, ◌≤◌, ℤ, Bool, true, false, List, [], ◌∷◌}
use Rattle.std.proofs.Common.{◌++◌, length, map, Some, None, pos, refl, sym, ap, ◌∙◌, arith}
use Rattle.std.proofs.Common.{append_assoc, not}
use Rattle.std.specs.Prelude.{option_and_then}
use Rattle.std.specs.Fmt.{signed_decimal}
use Rattle.std.specs.Int.{w64}
use Rattle.std.specs.Int.RustNames.{FitsSigned}
use Rattle.std.specs.List.{All}
use Rattle.std.specs.Ordering.{int_eq}
use Rattle.std.proofs.lemmas.List.{length-append}
use Rattle.std.proofs.lemmas.List.Elements.{All-nil, All-cons, All-append}
use Rattle.std.proofs.lemmas.Bool.Decides.{Decides-int_eq}
use Rattle.plain_text.specs.Numbers.{if_passes}
use Rattle.plain_text.specs.Words.{words}
use Rattle.mms_data.specs.Datum.{Datum, boolean}
use Rattle.mms_data.specs.Lawful.{IsLawful}
use Rattle.mms_data.specs.Text.NameIn.{name_in}
use Rattle.mms_data.specs.Text.Texts.{name_text, data_text}
use Rattle.mms_data.specs.Text.TextRead.{HasText}
use Rattle.mms_data.proofs.OfText.LeafRead.{integer-read}
use Rattle.mms_data.proofs.OfText.TextBreaks.{lawful}
use Rattle.mms_data.proofs.OfText.WordText.{passes}
use Rattle.texts.specs.Events.Assigned.{IsValue}
use Rattle.texts.specs.Events.Breaks.{Breaks}
use Rattle.texts.specs.Events.Verbs.{IsNameWord, IsValueWord, IsDeletionWord, Then, NoWord, OneOrMore}
use Rattle.texts.specs.Events.Verbs.{class_in, deletion_in}
use Rattle.texts.proofs.OfEvents.Breaking.{breaks-none, breaks-first, breaks-behind, breaks-among}
use Rattle.texts.proofs.OfEvents.WordsRead.{class_in-found}
use Rattle.texts.proofs.OfEvents.Behind.{values_each}
use Rattle.texts.proofs.OfEvents.Wrong.{some_name, fine_name, wrong_name}

abbrev Words : Type 0
Words = List (List ℕ)

-- no word stands where one has to, with others behind it
pub no_first : (W : List ℕ → Type 0) (P : Words → Type 0) (fine : List ℕ) (others : Words)
    → W fine → P others → Breaks (Then W P) [] 0
no_first W P fine others w p = breaks-none (Then W P) (fine ∷ others) (w, p) (λ none. none)

-- the first word is wrong
pub bad_first : (W : List ℕ → Type 0) (P : Words → Type 0) (fine : List ℕ) (others : Words)
    (word : List ℕ) (words : Words) → W fine → P others → (W word → ⊥)
    → Breaks (Then W P) (word ∷ words) 0
bad_first W P fine others word words w p wrong =
    breaks-first (Then W P) word words (fine ∷ others) (w, p) (λ more q. wrong q.0)

-- a word too many
pub behind_sole : (W : List ℕ → Type 0) (word next : List ℕ) (words : Words) → W word
    → Breaks (Then W NoWord) (word ∷ next ∷ words) 1
behind_sole W word next words w =
    breaks-behind NoWord (Then W NoWord) word (next ∷ words) 0 (λ more n. (w, n)) (λ more q. q.1)
    (breaks-first NoWord next words [] tt (λ more q. q))

pub fine_value : IsValueWord (data_text (boolean true))
fine_value = record {
  value = boolean true;
  spelled = refl;
  lawful = lawful (boolean true) (record { shallow = omega arith; parts = tt });
  textual = record { shallow = omega arith; parts = tt };
}

pub fine_deletion : IsDeletionWord (signed_decimal (pos 1))
fine_deletion = record { scope = pos 1; spelled = refl; fits = omega arith; other = λ e. absurd cc }

-- a name alone
pub no_name : Breaks (Then IsNameWord NoWord) [] 0
no_name = no_first IsNameWord NoWord (name_text some_name) [] fine_name tt

pub bad_name : (word : List ℕ) (words : Words) → None ≡ name_in word
    → Breaks (Then IsNameWord NoWord) (word ∷ words) 0
bad_name word words e =
    bad_first IsNameWord NoWord (name_text some_name) [] word words fine_name tt (wrong_name word e)

-- a name, and names behind it
pub no_set : Breaks (Then IsNameWord (OneOrMore IsNameWord)) [] 0
no_set =
    no_first IsNameWord (OneOrMore IsNameWord) (name_text some_name) (name_text some_name ∷ [])
    fine_name (fine_name, tt)

pub bad_set : (word : List ℕ) (words : Words) → None ≡ name_in word
    → Breaks (Then IsNameWord (OneOrMore IsNameWord)) (word ∷ words) 0
bad_set word words e =
    bad_first IsNameWord (OneOrMore IsNameWord) (name_text some_name) (name_text some_name ∷ [])
    word words fine_name (fine_name, tt) (wrong_name word e)

-- a name, and values behind it
pub no_written : Breaks (Then IsNameWord (OneOrMore IsValueWord)) [] 0
no_written =
    no_first IsNameWord (OneOrMore IsValueWord) (name_text some_name)
    (data_text (boolean true) ∷ []) fine_name (fine_value, tt)

pub bad_written : (word : List ℕ) (words : Words) → None ≡ name_in word
    → Breaks (Then IsNameWord (OneOrMore IsValueWord)) (word ∷ words) 0
bad_written word words e =
    bad_first IsNameWord (OneOrMore IsValueWord) (name_text some_name)
    (data_text (boolean true) ∷ []) word words fine_name (fine_value, tt) (wrong_name word e)

-- a scope of deletion
abbrev is_other : ℤ → Bool
is_other scope = not (int_eq scope (pos 0))

other_passes : (scope : ℤ) (b : Bool) → int_eq scope (pos 0) ≡ b → (scope ≡ pos 0 → ⊥)
    → if_passes is_other scope ≡ Some scope
other_passes scope true e other = absurd (other ((Decides-int_eq scope (pos 0)).0 e))
other_passes scope false e other = rw e refl

none_some : {A : Type 0} (x : A) → None ≡ Some x → ⊥
none_some x e = absurd cc

pub wrong_deletion : (word : List ℕ) → None ≡ deletion_in word → IsDeletionWord word → ⊥
wrong_deletion word e w =
    none_some w.scope (e ∙ ap deletion_in w.spelled
    ∙ ap (option_and_then (if_passes is_other)) (integer-read w.scope w.fits)
    ∙ other_passes w.scope (int_eq w.scope (pos 0)) refl w.other)

pub deletion-found : (word : List ℕ) (scope : ℤ) → deletion_in word ≡ Some scope
    → (word ≡ signed_decimal scope) × FitsSigned w64 scope × (scope ≡ pos 0 → ⊥)
deletion-found word scope e =
    let p = passes is_other (class_in word) scope e in
    let s = class_in-found word scope p.0 in
    (s.0, s.1, λ none. other_not scope p.1 none)
  where
    other_not : (scope : ℤ) → is_other scope ≡ true → scope ≡ pos 0 → ⊥
    other_not scope e none =
        let same : int_eq scope (pos 0) ≡ true = (Decides-int_eq scope (pos 0)).1 none in
        let wrong : false ≡ true = rw same at e in absurd cc

pub no_deletion : Breaks (Then IsDeletionWord NoWord) [] 0
no_deletion = no_first IsDeletionWord NoWord (signed_decimal (pos 1)) [] fine_deletion tt

pub bad_deletion : (word : List ℕ) (words : Words) → None ≡ deletion_in word
    → Breaks (Then IsDeletionWord NoWord) (word ∷ words) 0
bad_deletion word words e =
    bad_first IsDeletionWord NoWord (signed_decimal (pos 1)) [] word words fine_deletion tt
    (wrong_deletion word e)

pub word-value : (word : List ℕ) (w : IsValueWord word) → IsValue word w.value
word-value word w = record { spelled = w.spelled; lawful = w.lawful; textual = w.textual }

-- values that were read, and the words that are still to be read
pub record ValuesSoFar (text : List ℕ) (values : List Datum) (rest : List ℕ) : Type 0 where
  pub parts : words text ≡ map data_text values ++ words rest
  pub lawful : All IsLawful values
  pub textual : All HasText values
  pub within : length values + length rest ≤ length text

pub values-none : (text : List ℕ) (values : List Datum) → values ≡ [] → ValuesSoFar text values text
values-none text values e = rw e (record {
  parts = refl;
  lawful = All-nil IsLawful;
  textual = All-nil HasText;
  within = omega arith;
})

map-push : (values : List Datum) (value : Datum)
    → map data_text (values ++ value ∷ []) ≡ map data_text values ++ data_text value ∷ []
map-push [] value = refl
map-push (v ∷ values) value = ap (λ t. data_text v ∷ t) (map-push values value)

pub values-more : (text rest after word : List ℕ) (values : List Datum) (value : Datum)
    → ValuesSoFar text values rest → words rest ≡ word ∷ words after
    → length after < length rest → IsValue word value
    → ValuesSoFar text (values ++ value ∷ []) after
values-more text rest after word values value s e shorter v = record {
  parts = s.parts ∙ ap (λ t. map data_text values ++ t) e
      ∙ ap (λ w. map data_text values ++ w ∷ words after) v.spelled
      ∙ sym (append_assoc (map data_text values) (data_text value ∷ []) (words after))
      ∙ ap (λ t. t ++ words after) (sym (map-push values value));
  lawful = All-append IsLawful values (value ∷ []) s.lawful
      (All-cons IsLawful value [] v.lawful (All-nil IsLawful));
  textual = All-append HasText values (value ∷ []) s.textual
      (All-cons HasText value [] v.textual (All-nil HasText));
  within = rw (length-append values (value ∷ [])) (omega (arith, s.within, shorter));
}

many : (values : List Datum) → length (map data_text values) ≡ length values
many [] = refl
many (value ∷ values) = ap suc (many values)

-- values, and a word that is none
pub values-break : (text rest after word : List ℕ) (values : List Datum) (count : ℕ)
    → ValuesSoFar text values rest → words rest ≡ word ∷ words after → count ≡ length values
    → (IsValueWord word → ⊥) → Breaks (OneOrMore IsValueWord) (words text) count
values-break text rest after word values count s e count_is wrong =
    rw (s.parts ∙ ap (λ t. map data_text values ++ t) e, count_is ∙ sym (many values))
    (breaks-among IsValueWord (data_text (boolean true)) fine_value (map data_text values) word
    (words after) (values_each values s.lawful s.textual) wrong)

pub values-empty : (text rest : List ℕ) (values : List Datum) → ValuesSoFar text values rest
    → words rest ≡ [] → length values ≡ 0 → Breaks (OneOrMore IsValueWord) (words text) 0
values-empty text rest [] s none few =
    rw (s.parts ∙ none) (breaks-none (OneOrMore IsValueWord) (data_text (boolean true) ∷ [])
    (fine_value, tt) (λ q. q))
values-empty text rest (value ∷ values) s none few = absurd (omega (arith, few))
