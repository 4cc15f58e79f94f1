-- The words of outcomes and of names with their outcomes are read back.
use Rattle.std.proofs.Common.{◌≡◌, ℕ, ◌+◌, ◌<◌, ◌^◌, ◌==◌, true, false, List, ◌∷◌}
use Rattle.std.proofs.Common.{length, take, drop, position, Option, Some, None, decimal, refl}
use Rattle.std.proofs.Common.{sym, ap, ◌∙◌}
use Rattle.std.proofs.Math.Seq.{take-append_seam, drop-append-add}
use Rattle.mms_data.specs.declared.outcome.Outcome.{Outcome}
use Rattle.mms_data.specs.declared.outcome.Outcome.TheVariants.{Good, Fail}
use Rattle.mms_data.specs.Datum.{Datum, boolean}
use Rattle.mms_data.specs.ObjectName.{IsName}
use Rattle.mms_data.specs.Text.Texts.{name_text, data_text, outcome_text}
use Rattle.mms_data.specs.Text.TextRead.{HasText, begins_with}
use Rattle.mms_data.proofs.OfText.ReadName.{position-append}
use Rattle.texts.specs.declared.reports.reading.outcomes.Told.{Told}
use Rattle.texts.specs.Reports.ReportWords.{told_word, HasOutcomeText, IsTold}
use Rattle.texts.proofs.OfReports.Unspaced.{equals, name_none}

-- ---- outcomes: a datum has no `!` first

unmarked : (d : Datum) → begins_with 33 (data_text d) ≡ false
unmarked (boolean true) = refl
unmarked (boolean false) = refl
unmarked _ = refl

pub marked_read : (digits : List ℕ) (read : Option Outcome)
    → ((reason : ℕ) → reason < 2 ^ 8 → digits ≡ decimal reason → read ≡ Some (Fail reason))
    → (outcome : Outcome) → HasOutcomeText outcome → 33 ∷ digits ≡ outcome_text outcome
    → read ≡ Some outcome
marked_read digits read only (Good d) h e =
    let wrong : true ≡ false = ap (begins_with 33) e ∙ unmarked d in absurd cc
marked_read digits read only (Fail reason) h e = only reason h (ap (drop 1) e)

pub unmarked_read : (P : Outcome → Type 0) (word : List ℕ) → begins_with 33 word ≡ false
    → ((d : Datum) → HasText d → word ≡ data_text d → P (Good d))
    → (outcome : Outcome) → HasOutcomeText outcome → word ≡ outcome_text outcome → P outcome
unmarked_read P word other only (Good d) h e = only d h e
unmarked_read P word other only (Fail reason) h e =
    let wrong : false ≡ true = sym other ∙ ap (begins_with 33) e in absurd cc

-- ---- a word is parted at its first equals sign, since names have none

equals_place : (told : Told) → IsName told.name
    → position (λ c. c == 61) (told_word told) ≡ Some (length (name_text told.name))
equals_place told h =
    position-append (λ c. c == 61) (name_text told.name) 61 (outcome_text told.outcome)
    (name_none 61 equals told.name h) refl

same_place : (a b : ℕ) → Some a ≡ Some b → a ≡ b
same_place a b e = cc

pub parted : (word before after : List ℕ) (place : ℕ) (told : Told)
    → Some place ≡ position (λ c. c == 61) word → before ≡ take place word
    → after ≡ drop (place + 1) word → IsTold told → word ≡ told_word told
    → (before ≡ name_text told.name) × (after ≡ outcome_text told.outcome)
parted word before after place told e h k is same =
    let name = name_text told.name in
    let place_is : place ≡ length name =
    same_place _ _ (e ∙ ap (position (λ c. c == 61)) same ∙ equals_place told is.0) in (
      h ∙ (λ i. take (place_is i) (same i))
          ∙ take-append_seam name (61 ∷ outcome_text told.outcome),
      k ∙ (λ i. drop (place_is i + 1) (same i))
          ∙ drop-append-add name (61 ∷ outcome_text told.outcome) 1,
    )

pub no_equals : (word : List ℕ) (told : Told) → None ≡ position (λ c. c == 61) word
    → IsTold told → word ≡ told_word told → ⊥
no_equals word told e is same =
    let wrong : None ≡ Some (length (name_text told.name)) =
    e ∙ ap (position (λ c. c == 61)) same ∙ equals_place told is.0 in absurd cc
