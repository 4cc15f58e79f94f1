-- The values so far are of parts that a text spells; a value is deeper than its members.
use Rattle.std.proofs.Common.{◌+◌, ◌*◌, take}
use Rattle.std.specs.List.{All}
use Rattle.mms_data.specs.Datum.{Datum, data_of, depth, deepest}
use Rattle.mms_data.specs.Lawful.{KeepsUnsigned}
use Rattle.mms_data.specs.Text.TextRead.{IsTextual}
use Rattle.texts.proofs.journal.parts.+depth.Given as goal

abbrev pub decreases-is_textual : goal.decreases-is_textual
decreases-is_textual l = 2 * depth l.value.now

abbrev pub decreases-are_textual : goal.decreases-are_textual
decreases-are_textual l = 2 * deepest (data_of l.values.now) + 1

abbrev pub invariant-are_textual-loop-value : goal.invariant-are_textual-loop-value
invariant-are_textual-loop-value l =
    All (λ (d : Datum). KeepsUnsigned d → IsTextual d) (take l.value-index l.values)
