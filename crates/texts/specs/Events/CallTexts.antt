-- Calls in a text, and where a text breaks that spells no call.
use Rattle.std.specs.Prelude.{◌≡◌, ℕ, false, ◌⊎◌, List, IsTrue}
use Rattle.plain_text.specs.Words.{words, is_spaced}
use Rattle.tase_views.specs.declared.call.CallKind.{CallKind}
use Rattle.texts.specs.Events.CallWords.{SpellsCall, AreCallWords}
use Rattle.texts.specs.Events.Breaks.{Breaks}
use Rattle.texts.specs.Events.WordPlaces.{word_place, blank_place}

-- a text with no tab, no space in front and none at its end, whose words spell a call
pub record IsCallText (text : List ℕ) (call : CallKind) : Type 0 where
  pub spaced : IsTrue (is_spaced text)
  pub words : SpellsCall (words text) call

-- the text has a blank that may not stand there, and the first one stands at this place
pub record StrayBlankAt (text : List ℕ) (place : ℕ) : Type 0 where
  pub spaced : is_spaced text ≡ false
  pub first : place ≡ blank_place text

-- the first word with which the words of no call go on stands at this place, or the text ends here
-- where all its words may begin a call
pub record WrongWordAt (text : List ℕ) (place : ℕ) : Type 0 where
  pub spaced : IsTrue (is_spaced text)
  pub count : ℕ
  pub breaks : Breaks AreCallWords (words text) count
  pub first : place ≡ word_place text count

-- the first bad place of a text that spells no call: blanks are judged before words
abbrev pub CallBreaksAt : List ℕ → ℕ → Type 0
CallBreaksAt text place = StrayBlankAt text place ⊎ WrongWordAt text place
