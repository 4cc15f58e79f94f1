-- Short visible texts, and names made of them.
use Rattle.std.specs.Prelude.{ℕ, List, Option, option_and_then}
use Rattle.arrayvec.specs.ArrayVec.{ArrayVec}
use Rattle.plain_text.specs.Numbers.{if_passes}
use Rattle.plain_text.specs.Escaped.{unescaped}
use Rattle.mms_data.specs.Text.WordValue.{is_visible}

abbrev pub short_items : ArrayVec ℕ → List ℕ
short_items text = text.items

-- the visible text that an escaped word stands for
abbrev pub short_text_in : List ℕ → Option (List ℕ)
short_text_in word = option_and_then (if_passes is_visible) (unescaped word)
