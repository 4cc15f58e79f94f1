-- Names with values, as words.
use Rattle.std.specs.Prelude.{◌≡◌, ℕ, ◌==◌, List, length, Option}
use Rattle.std.specs.List.{All, position}
use Rattle.mms_data.specs.Datum.{Datum}
use Rattle.mms_data.specs.Lawful.{IsLawful}
use Rattle.mms_data.specs.ObjectName.{ObjectName, IsName}
use Rattle.mms_data.specs.Text.Texts.{name_text, data_text}
use Rattle.mms_data.specs.Text.TextRead.{HasText}
use Rattle.texts.specs.Events.CallWords.{assigned_word, assigned_words}

-- the place of the first `=`
abbrev pub equals_in : List ℕ → Option ℕ
equals_in word = position (λ octet. octet == 61) word

-- one text is a name's, the other a value's
pub record AreParts (before after : List ℕ) (name : ObjectName) (value : Datum) : Type 0 where
  pub first : before ≡ name_text name
  pub second : after ≡ data_text value
  pub named : IsName name
  pub lawful : IsLawful value
  pub textual : HasText value

-- a word is this name with this value
pub record IsAssignment (word : List ℕ) (name : ObjectName) (value : Datum) : Type 0 where
  pub spelled : word ≡ assigned_word name value
  pub named : IsName name
  pub lawful : IsLawful value
  pub textual : HasText value

-- a word is this value
pub record IsValue (word : List ℕ) (value : Datum) : Type 0 where
  pub spelled : word ≡ data_text value
  pub lawful : IsLawful value
  pub textual : HasText value

-- words are these names with these values
pub record AreAssignments (words : List (List ℕ)) (names : List ObjectName)
    (values : List Datum) : Type 0 where
  pub spelled : words ≡ assigned_words names values
  pub many : length values ≡ length names
  pub named : All IsName names
  pub lawful : All IsLawful values
  pub textual : All HasText values
