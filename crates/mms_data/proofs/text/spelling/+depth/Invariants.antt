-- The members so far are written; a value is deeper than its members.
use Rattle.std.proofs.Common.{◌≡◌, ◌+◌, ◌*◌, ◌++◌, take}
use Rattle.mms_data.specs.Datum.{data_of, depth, deepest}
use Rattle.mms_data.specs.Text.Texts.{members_text}
use Rattle.mms_data.proofs.text.spelling.+depth.Given as goal

abbrev pub decreases-spell : goal.decreases-spell
decreases-spell l = 2 * depth l.value.now

abbrev pub decreases-spell_members : goal.decreases-spell_members
decreases-spell_members l = 2 * deepest (data_of l.members.now) + 1

abbrev pub invariant-spell_members-loop-index : goal.invariant-spell_members-loop-index
invariant-spell_members-loop-index l =
    l.out.items ≡ l.fn.out.items ++ members_text (data_of (take l.index l.members))
