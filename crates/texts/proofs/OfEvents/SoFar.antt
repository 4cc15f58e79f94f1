-- Names with values that were read, and the words that are still to be read.
use Rattle.std.proofs.Common.{◌≡◌, ℕ, suc, ◌+◌, ◌<◌, ◌≤◌, List, [], ◌∷◌, ◌++◌, length, refl, sym}
use Rattle.std.proofs.Common.{true}
use Rattle.std.proofs.Common.{ap, ◌∙◌, arith, append_assoc}
use Rattle.std.specs.List.{All}
use Rattle.std.proofs.lemmas.List.{length-append}
use Rattle.std.proofs.lemmas.List.Elements.{All-nil, All-cons, All-append}
use Rattle.plain_text.specs.Words.{words}
use Rattle.mms_data.specs.Datum.{Datum, boolean}
use Rattle.mms_data.specs.Lawful.{IsLawful}
use Rattle.mms_data.specs.ObjectName.{ObjectName, IsName}
use Rattle.mms_data.specs.Text.TextRead.{HasText}
use Rattle.texts.specs.Events.CallWords.{assigned_word, assigned_words}
use Rattle.texts.specs.Events.Assigned.{IsAssignment}
use Rattle.texts.specs.Events.Breaks.{Breaks}
use Rattle.texts.specs.Events.Verbs.{OneOrMore, IsAssignedWord}
use Rattle.texts.proofs.OfEvents.Breaking.{breaks-among, breaks-none}
use Rattle.texts.proofs.OfEvents.Behind.{assigned_each}
use Rattle.texts.proofs.OfEvents.Wrong.{some_name, fine_assigned}

-- words are names with values, and then those of the rest
pub record AssignedSoFar (text : List ℕ) (names : List ObjectName) (values : List Datum)
    (rest : List ℕ) : Type 0 where
  pub parts : words text ≡ assigned_words names values ++ words rest
  pub many : length values ≡ length names
  pub named : All IsName names
  pub lawful : All IsLawful values
  pub textual : All HasText values
  pub within : length names + length rest ≤ length text

pub assigned-none : (text : List ℕ) (names : List ObjectName) (values : List Datum) → names ≡ []
    → values ≡ [] → AssignedSoFar text names values text
assigned-none text names values e k = rw (e, k) (record {
  parts = refl;
  many = refl;
  named = All-nil IsName;
  lawful = All-nil IsLawful;
  textual = All-nil HasText;
  within = omega arith;
})

assigned_words-push : (names : List ObjectName) (values : List Datum) (name : ObjectName)
    (value : Datum) → length values ≡ length names
    → assigned_words (names ++ name ∷ []) (values ++ value ∷ [])
    ≡ assigned_words names values ++ assigned_word name value ∷ []
assigned_words-push [] [] name value e = refl
assigned_words-push [] (v ∷ values) name value e = absurd (omega (arith, e))
assigned_words-push (n ∷ names) [] name value e = absurd (omega (arith, e))
assigned_words-push (n ∷ names) (v ∷ values) name value e =
    ap (λ t. assigned_word n v ∷ t) (assigned_words-push names values name value (omega (arith, e)))

pub assigned-more : (text rest after word : List ℕ) (names : List ObjectName)
    (values : List Datum) (name : ObjectName) (value : Datum)
    → AssignedSoFar text names values rest → words rest ≡ word ∷ words after
    → length after < length rest → IsAssignment word name value
    → AssignedSoFar text (names ++ name ∷ []) (values ++ value ∷ []) after
assigned-more text rest after word names values name value s e shorter a = record {
  parts = s.parts ∙ ap (λ t. assigned_words names values ++ t) e
      ∙ ap (λ w. assigned_words names values ++ w ∷ words after) a.spelled
      ∙ sym (append_assoc (assigned_words names values) (assigned_word name value ∷ [])
      (words after))
      ∙ ap (λ t. t ++ words after) (sym (assigned_words-push names values name value s.many));
  many = rw (length-append values (value ∷ []), length-append names (name ∷ []))
      (omega (arith, s.many));
  named = All-append IsName names (name ∷ []) s.named
      (All-cons IsName name [] a.named (All-nil IsName));
  lawful = All-append IsLawful values (value ∷ []) s.lawful
      (All-cons IsLawful value [] a.lawful (All-nil IsLawful));
  textual = All-append HasText values (value ∷ []) s.textual
      (All-cons HasText value [] a.textual (All-nil HasText));
  within = rw (length-append names (name ∷ [])) (omega (arith, s.within, shorter));
}

pub length-assigned_words : (names : List ObjectName) (values : List Datum)
    → length values ≡ length names → length (assigned_words names values) ≡ length names
length-assigned_words [] values e = refl
length-assigned_words (n ∷ names) [] e = absurd (omega (arith, e))
length-assigned_words (n ∷ names) (v ∷ values) e =
    ap suc (length-assigned_words names values (omega (arith, e)))

-- words of names with values, and one that is none
pub assigned-break : (text rest after word : List ℕ) (names : List ObjectName)
    (values : List Datum) (count : ℕ) → AssignedSoFar text names values rest
    → words rest ≡ word ∷ words after → count ≡ length names → (IsAssignedWord word → ⊥)
    → Breaks (OneOrMore IsAssignedWord) (words text) count
assigned-break text rest after word names values count s e count_is wrong =
    rw (
      s.parts ∙ ap (λ t. assigned_words names values ++ t) e,
      count_is ∙ sym (length-assigned_words names values s.many),
    )
    (breaks-among IsAssignedWord (assigned_word some_name (boolean true)) fine_assigned
    (assigned_words names values) word (words after)
    (assigned_each names values s.named s.lawful s.textual) wrong)

pub assigned-empty : (text rest : List ℕ) (names : List ObjectName) (values : List Datum)
    → AssignedSoFar text names values rest → words rest ≡ [] → length names ≡ 0
    → Breaks (OneOrMore IsAssignedWord) (words text) 0
assigned-empty text rest [] values s none few =
    rw (s.parts ∙ none) (breaks-none (OneOrMore IsAssignedWord)
    (assigned_word some_name (boolean true) ∷ []) (fine_assigned, tt) (λ q. q))
assigned-empty text rest (name ∷ names) values s none few = absurd (omega (arith, few))
