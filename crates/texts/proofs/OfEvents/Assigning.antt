-- A word is parted at its first equals sign, into a name and a value.
use Rattle.std.proofs.Common.{◌≡◌, ℕ, zero, suc, ◌+◌, ◌<◌, ◌==◌, List, [], ◌∷◌, ◌++◌, length, take}
use Rattle.std.proofs.Common.{drop}
use Rattle.std.proofs.Common.{get_or, position, Option, Some, None, refl, sym, ap, ◌∙◌, arith}
use Rattle.std.specs.Prelude.{Result, Ok, Err, IfOk, IfSome}
use Rattle.std.proofs.lemmas.List.Quantifiers.{position-Some}
use Rattle.mms_data.specs.Datum.{Datum}
use Rattle.mms_data.specs.ObjectName.{ObjectName}
use Rattle.mms_data.specs.Text.Texts.{name_text}
use Rattle.mms_data.proofs.OfText.WordText.{is_same}
use Rattle.texts.specs.Events.Assigned.{equals_in, IsAssignment, AreParts}
use Rattle.texts.specs.Events.Verbs.{IsAssignedWord}
use Rattle.texts.proofs.OfEvents.WordsRead.{parted, some_same}

-- what holds of what was read
pub read-as : {A E : Type 0} (read : Result (Option A) E) (P Q : A → Type 0)
    → ((a : A) → P a → Q a) → IfOk read (λ r. IfSome r P) → IfOk read (λ r. IfSome r Q)
read-as (Err e) P Q as_well h = tt
read-as (Ok None) P Q as_well h = tt
read-as (Ok (Some a)) P Q as_well h = as_well a h

split_get : (xs : List ℕ) (i : ℕ) → i < length xs
    → xs ≡ take i xs ++ get_or xs i 0 ∷ drop (suc i) xs
split_get [] i h = absurd (omega arith)
split_get (x ∷ xs) zero h = refl
split_get (x ∷ xs) (suc i) h = ap (λ t. x ∷ t) (split_get xs i (omega arith))

next : (i : ℕ) → suc i ≡ i + 1
next i = omega arith

split_at : (c : ℕ) (xs : List ℕ) (i : ℕ) → position (λ x. x == c) xs ≡ Some i
    → xs ≡ take i xs ++ c ∷ drop (i + 1) xs
split_at c xs i e =
    let there = position-Some (λ x. x == c) xs i 0 e in
    split_get xs i there.0
    ∙ ap (λ y. take i xs ++ y ∷ drop (suc i) xs) (is_same (get_or xs i 0) c there.1)
    ∙ ap (λ j. take i xs ++ c ∷ drop j xs) (next i)

pub parts-assigned : (word before after : List ℕ) (place : ℕ) (name : ObjectName) (value : Datum)
    → Some place ≡ equals_in word → before ≡ take place word → after ≡ drop (place + 1) word
    → AreParts before after name value → IsAssignment word name value
parts-assigned word before after place name value e h k p = record {
  spelled = split_at 61 word place (sym e)
      ∙ (λ i. (sym h ∙ p.first) i ++ 61 ∷ (sym k ∙ p.second) i);
  named = p.named;
  lawful = p.lawful;
  textual = p.textual;
}

pub assigned-parts : (word before after : List ℕ) (place : ℕ) (name : ObjectName) (value : Datum)
    → Some place ≡ equals_in word → before ≡ take place word → after ≡ drop (place + 1) word
    → IsAssignment word name value → AreParts before after name value
assigned-parts word before after place name value e h k a =
    let p = parted name value a.named in
    let place_is : place ≡ length (name_text name) =
    some_same _ _ (e ∙ ap equals_in a.spelled ∙ p.0) in
    record {
      first = h ∙ ap (λ n. take n word) place_is ∙ ap (take (length (name_text name))) a.spelled
          ∙ p.1;
      second = k ∙ ap (λ n. drop (n + 1) word) place_is
          ∙ ap (drop (length (name_text name) + 1)) a.spelled ∙ p.2;
      named = a.named;
      lawful = a.lawful;
      textual = a.textual;
    }

pub no_equals : (word : List ℕ) (name : ObjectName) (value : Datum) → None ≡ equals_in word
    → IsAssignment word name value → ⊥
no_equals word name value e a =
    let p = parted name value a.named in
    let same : None ≡ Some (length (name_text name)) = e ∙ ap equals_in a.spelled ∙ p.0 in
    absurd cc

pub assigned-word : (word : List ℕ) (w : IsAssignedWord word) → IsAssignment word w.name w.value
assigned-word word w = record {
  spelled = w.spelled;
  named = w.named;
  lawful = w.lawful;
  textual = w.textual;
}
