-- What a printed text shows for the peer of a seat's link: the octets of its `out` lines, and the
-- words of its `ended` line.
use Rattle.std.specs.Prelude.{ℕ, ◌==◌, if◌then◌else◌, List, [], ◌∷◌, ◌++◌, map, flat_map, Option}
use Rattle.std.specs.Prelude.{Some, None, option_and_then, codes, decimal}
use Rattle.std.specs.Result.{result_ok}
use Rattle.std.specs.Str.Lines.{lines}
use Rattle.hex.specs.Hex.{decode_of}
use Rattle.conn_service.specs.TaseConn.declared.stage.ConnEnd.{ConnEnd}
use Rattle.tase_replay.specs.Links.{end_text}
use Rattle.tase_replay.specs.Play.{Step}

-- an octet that is shown for the peer of a link, or the words of the end of its connection
pub data ShownToPeer : Type 0 where
  sent_octet : ℕ → ShownToPeer
  end_words : List ℕ → ShownToPeer

-- ---- what a text shows

-- what stands behind this front in a line that begins with it
abbrev pub behind_front : List ℕ → List ℕ → Option (List ℕ)
behind_front [] line = Some line
behind_front (code ∷ front) [] = None
behind_front (code ∷ front) (octet ∷ line) =
    if code == octet then behind_front front line else None

-- `out W ` and `ended W `
abbrev pub out_front : ℕ → List ℕ
out_front who = codes "out " ++ decimal who ++ 32 ∷ []

abbrev pub ended_front : ℕ → List ℕ
ended_front who = codes "ended " ++ decimal who ++ 32 ∷ []

-- the octets that pairs of hexadecimal digits are
abbrev pub digits_shown : List ℕ → Option (List ℕ)
digits_shown digits = result_ok (decode_of digits)

abbrev pub octets_shown : Option (List ℕ) → List ShownToPeer
octets_shown None = []
octets_shown (Some octets) = map sent_octet octets

abbrev pub words_shown : Option (List ℕ) → List ShownToPeer
words_shown None = []
words_shown (Some words) = end_words words ∷ []

-- what a line shows: behind `out W ` the octets of its digits, behind `ended W ` the words of the
-- end, and else nothing
abbrev pub line_shows : ℕ → List ℕ → List ShownToPeer
line_shows who line =
    octets_shown (option_and_then digits_shown (behind_front (out_front who) line))
    ++ words_shown (behind_front (ended_front who) line)

-- all that the lines of a text show, in order
abbrev pub shown_to : ℕ → List ℕ → List ShownToPeer
shown_to who text = flat_map (line_shows who) (lines text)

-- ---- what steps show

abbrev pub end_shown : Option ConnEnd → List ShownToPeer
end_shown None = []
end_shown (Some end) = end_words (end_text end) ∷ []

-- these octets, and behind them the words of the end, if it has come
abbrev pub all_shown : List ℕ → Option ConnEnd → List ShownToPeer
all_shown octets end = map sent_octet octets ++ end_shown end

abbrev pub step_shows : ℕ → Step → List ShownToPeer
step_shows who step = if step.who == who then all_shown step.octets step.end else []

-- all that these steps show for the peer of a seat's link, in order
abbrev pub shown_by : ℕ → List Step → List ShownToPeer
shown_by who steps = flat_map (step_shows who) steps

-- the octets alone
abbrev pub octets_to : ℕ → List Step → List ℕ
octets_to who steps = flat_map (λ step. if step.who == who then step.octets else []) steps
