-- The parts of calls: each is read from its own text, and from no other.
use Rattle.std.proofs.Common.{◌≡◌, ℕ, ℤ, ◌+◌, ◌<◌, ◌==◌, Bool, true, List, [], ◌∷◌, ◌++◌}
use Rattle.std.proofs.Common.{length, take, drop, map, slice_index, Option, Some, None, option_map}
use Rattle.std.proofs.Common.{refl, sym, ap, ◌∙◌, subst, arith, add-one, length-append}
use Rattle.std.specs.Prelude.{IfSome}
use Rattle.std.specs.Fmt.{signed_decimal}
use Rattle.std.specs.Int.{w64}
use Rattle.std.specs.Int.RustNames.{FitsSigned}
use Rattle.std.specs.List.{All, position}
use Rattle.std.specs.Option.{option_and_then}
use Rattle.std.proofs.Math.Seq.{take-append_seam, get_or-append_seam, drop-append-add, split_at}
use Rattle.std.proofs.lemmas.Bool.{eq-eqb}
use Rattle.std.proofs.lemmas.List.{drop_all}
use Rattle.std.proofs.lemmas.List.Elements.{All-cons, All-head, All-tail}
use Rattle.std.proofs.lemmas.List.Quantifiers.{position-Some}
use Rattle.std.proofs.lemmas.Option.{option_and_then_some, none-some, same_Some}
use Rattle.plain_text.specs.Escaped.{escaped_text}
use Rattle.plain_text.specs.Words.{each_in}
use Rattle.plain_text.proofs.EscapedText.{option_map-found}
use Rattle.mms_data.specs.Datum.{Datum, integer}
use Rattle.mms_data.specs.ObjectName.{ObjectName, IsIdentifier, IsScope, IsName}
use Rattle.mms_data.specs.declared.object_name.Scope.{Scope}
use Rattle.mms_data.specs.declared.object_name.Scope.TheVariants.{Vmd, Domain, Association}
use Rattle.mms_data.specs.Text.DatumIn.{datum_in}
use Rattle.mms_data.specs.Text.NameIn.{identifier_in, is_separator, scope_in, name_in}
use Rattle.mms_data.specs.Text.Texts.{data_text, scope_text, name_text}
use Rattle.mms_data.specs.Text.TextRead.{HasText}
use Rattle.mms_data.proofs.OfText.LeafRead.{integer-read}
use Rattle.mms_data.proofs.OfText.ReadName.{identifier_in-found, identifier_in-escaped_text}
use Rattle.mms_data.proofs.OfText.ReadName.{scope_in-found, name_in-found, name_in-name_text}
use Rattle.mms_data.proofs.OfText.ReadName.{position-append}
use Rattle.mms_data.proofs.OfText.TextReading.{datum_in-found, datum_in-text}
use Rattle.mms_data.proofs.OfText.WordText.{word-found, is_same, chosen}
use Rattle.texts.specs.Events.CallWords.{assigned_word, after_words}
use Rattle.texts.specs.Journal.CallIn.{assigned_at, assigned_in, if_some}
use Rattle.texts.specs.Journal.CallIn.{signed_64_in, scope_at, scope_of_word, after_in}
use Rattle.texts.proofs.OfJournal.Foreign.{name_foreign, identifier_foreign, separator_foreign}

-- a name and the value that it is to have
abbrev pub Assigned : Type 0
Assigned = ObjectName × Datum

abbrev pub IsAssigned : Assigned → Type 0
IsAssigned p = IsName p.0 × HasText p.1

abbrev pub word_of_pair : Assigned → List ℕ
word_of_pair p = assigned_word p.0 p.1

abbrev pub is_sign : ℕ → Bool
is_sign octet = octet == 61

split_word : (word : List ℕ) (place : ℕ) → place < length word
    → word ≡ take place word ++ slice_index word place ∷ drop (place + 1) word
split_word word place h = rw add-one (split_at word place 0 h)

pub assigned_in-found : (word : List ℕ) (p : Assigned) → assigned_in word ≡ Some p
    → (word ≡ word_of_pair p) × IsAssigned p
assigned_in-found word p e =
    option_and_then_some (assigned_at word) (position is_sign word) p e
    (λ place is_place k.
    let at = position-Some is_sign word place 0 is_place in
    let sign : slice_index word place ≡ 61 = is_same (slice_index word place) 61 at.1 in
    option_and_then_some
    (λ name. option_map (λ value. (name, value)) (datum_in (drop (place + 1) word)))
    (name_in (take place word)) p k
    (λ name is_name m.
    option_map-found (λ value. (name, value)) (datum_in (drop (place + 1) word)) p m
    (λ value is_value whole.
    let first = name_in-found (take place word) name is_name in
    let second = datum_in-found (drop (place + 1) word) value is_value in
    subst (λ (q : Assigned). (word ≡ word_of_pair q) × IsAssigned q) (sym whole) (
      split_word word place at.0
          ∙ ap (λ c. take place word ++ c ∷ drop (place + 1) word) sign
          ∙ ap (λ t. t ++ 61 ∷ drop (place + 1) word) first.0
          ∙ ap (λ t. name_text name ++ 61 ∷ t) second.1,
      (first.1, second.0),
    ))))

pub assigned_in-word : (p : Assigned) → IsAssigned p → assigned_in (word_of_pair p) ≡ Some p
assigned_in-word p h =
    rw (
      position-append is_sign (name_text p.0) 61 (data_text p.1) (name_foreign p.0 h.0) refl,
      take-append_seam (name_text p.0) (61 ∷ data_text p.1),
      drop-append-add (name_text p.0) (61 ∷ data_text p.1) 1,
      name_in-name_text p.0 h.0,
      datum_in-text p.1 h.1,
    ) refl

pub class_in-found : (word : List ℕ) (class : ℤ) → signed_64_in word ≡ Some class
    → (word ≡ signed_decimal class) × FitsSigned w64 class
class_in-found word class e =
    let found = word-found (105 ∷ word) (integer class) (ap (option_map integer) e) in
    (ap (drop 1) found.spelled, found.parts)

pub class_in-text : (class : ℤ) → FitsSigned w64 class
    → signed_64_in (signed_decimal class) ≡ Some class
class_in-text class fits = integer-read class fits

pub scope_of_word-found : (word : List ℕ) (scope : Scope) → scope_of_word word ≡ Some scope
    → (word ≡ scope_text scope) × IsScope scope
scope_of_word-found word scope e =
    option_and_then_some (scope_at word) (position is_separator word) scope e
    (λ place is_place k.
    let at = position-Some is_separator word place 0 is_place in
    chosen ((word ≡ scope_text scope) × IsScope scope) scope (place + 1 == length word)
    (scope_in (take place word) (slice_index word place)) None
    (λ last f.
    let found = scope_in-found (take place word) (slice_index word place) scope at.1 f in
    let end : place + 1 ≡ length word = is_same (place + 1) (length word) last in
    let none : drop (place + 1) word ≡ [] = drop_all (place + 1) word (omega (arith, end)) in (
      split_word word place at.0
          ∙ ap (λ t. take place word ++ slice_index word place ∷ t) none ∙ found.0,
      found.1,
    ))
    (λ other f. absurd (none-some scope f)) k)

pub scope_of_word-text : (scope : Scope) → IsScope scope
    → scope_of_word (scope_text scope) ≡ Some scope
scope_of_word-text Vmd h = refl
scope_of_word-text (Domain domain) h =
    let name : List ℕ = escaped_text domain in
    let last : (length name + 1 == length (name ++ 47 ∷ [])) ≡ true =
    eq-eqb (length name + 1) (length (name ++ 47 ∷ []))
    (omega (arith, length-append name (47 ∷ []))) in
    rw (
      position-append is_separator name 47 []
          (identifier_foreign is_separator separator_foreign domain h) refl,
      last,
      take-append_seam name (47 ∷ []),
      get_or-append_seam name 47 [] 0,
      identifier_in-escaped_text domain h,
    ) refl
scope_of_word-text Association h = refl

pub after_in-found : (words : List (List ℕ)) (after : Option (List ℕ))
    → after_in words ≡ Some after → (words ≡ after_words after) × IfSome after IsIdentifier
after_in-found [] after e =
    subst (λ (a : Option (List ℕ)). ([] ≡ after_words a) × IfSome a IsIdentifier)
    (same_Some None after e) (refl, tt)
after_in-found (word ∷ []) after e =
    option_map-found Some (identifier_in word) after e
    (λ octets is_octets whole.
    let found = identifier_in-found word octets is_octets in
    subst (λ (a : Option (List ℕ)). (word ∷ [] ≡ after_words a) × IfSome a IsIdentifier)
    (sym whole) (ap (λ t. t ∷ []) found.0, found.1))
after_in-found (word ∷ next ∷ more) after e = absurd (none-some after e)

pub after_in-words : (after : Option (List ℕ)) → IfSome after IsIdentifier
    → after_in (after_words after) ≡ Some after
after_in-words None h = refl
after_in-words (Some octets) h = rw (identifier_in-escaped_text octets h) refl

module _ {A : Type 0} (read : List ℕ → Option A) (spell : A → List ℕ) (P : A → Type 0) where
  -- words of which each stands for something
  pub each_in-found : ((word : List ℕ) (x : A) → read word ≡ Some x → (word ≡ spell x) × P x)
      → (words : List (List ℕ)) (xs : List A) → each_in read words ≡ Some xs
      → (words ≡ map spell xs) × All P xs
  each_in-found each [] xs e =
      subst (λ (ys : List A). ([] ≡ map spell ys) × All P ys) (same_Some [] xs e)
      (refl, λ k d h. absurd (omega arith))
  each_in-found each (word ∷ words) xs e =
      option_and_then_some (λ item. option_map (λ items. item ∷ items) (each_in read words))
      (read word) xs e
      (λ x is_x k.
      option_map-found (λ items. x ∷ items) (each_in read words) xs k
      (λ rest is_rest whole.
      let head = each word x is_x in
      let tail = each_in-found each words rest is_rest in
      subst (λ (ys : List A). (word ∷ words ≡ map spell ys) × All P ys) (sym whole) (
        ap (λ t. t ∷ words) head.0 ∙ ap (λ ts. spell x ∷ ts) tail.0,
        All-cons P x rest head.1 tail.1,
      )))

  pub each_in-words : ((x : A) → P x → read (spell x) ≡ Some x) → (xs : List A) → All P xs
      → each_in read (map spell xs) ≡ Some xs
  each_in-words each [] all = refl
  each_in-words each (x ∷ xs) all =
      rw (each x (All-head P x xs all), each_in-words each xs (All-tail P x xs all)) refl

pub if_some-found : {A : Type 0} (o : Option (List A)) (xs : List A)
    → option_and_then if_some o ≡ Some xs → (o ≡ Some xs) × (0 < length xs)
if_some-found None xs e = absurd (none-some xs e)
if_some-found (Some []) xs e = absurd (none-some xs e)
if_some-found {A} (Some (y ∷ ys)) xs e = (
  e,
  subst (λ (zs : List A). 0 < length zs) (same_Some (y ∷ ys) xs e) (omega arith),
)

pub if_some-whole : {A : Type 0} (xs : List A) → 0 < length xs → if_some xs ≡ Some xs
if_some-whole [] h = absurd (omega (arith, h))
if_some-whole (x ∷ xs) h = refl
