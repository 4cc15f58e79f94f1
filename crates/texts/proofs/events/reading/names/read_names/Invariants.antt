-- The names so far stand before the words that are still to be read.
use Rattle.std.proofs.Common.{◌≡◌, ◌+◌, ◌≤◌, ◌++◌, length, map}
use Rattle.std.specs.List.{All}
use Rattle.plain_text.specs.Words.{words}
use Rattle.mms_data.specs.ObjectName.{IsName}
use Rattle.mms_data.specs.Text.Texts.{name_text}
use Rattle.texts.proofs.events.reading.names.read_names.Given as goal

abbrev pub invariant-loop-word : goal.invariant-loop-word
invariant-loop-word l =
    (words l.fn.text ≡ map name_text l.names ++ words l.rest) × All IsName l.names
    × (length l.names + length l.rest ≤ length l.fn.text)

abbrev pub decreases-loop-word : goal.decreases-loop-word
decreases-loop-word l = length l.rest
