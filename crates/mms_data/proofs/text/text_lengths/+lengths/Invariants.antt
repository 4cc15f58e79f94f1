-- The length of the members so far; a value is deeper than its members.
use Rattle.std.proofs.Common.{◌≡◌, ◌+◌, ◌*◌, length, take}
use Rattle.plain_text.specs.Lengths.{capped_len}
use Rattle.mms_data.specs.Datum.{data_of, depth, deepest}
use Rattle.mms_data.specs.Text.Texts.{members_text}
use Rattle.mms_data.proofs.text.text_lengths.+lengths.Given as goal

abbrev pub decreases-text_len : goal.decreases-text_len
decreases-text_len l = 2 * depth l.value.now

abbrev pub decreases-members_len : goal.decreases-members_len
decreases-members_len l = 2 * deepest (data_of l.members.now) + 1

abbrev pub invariant-members_len-loop-index : goal.invariant-members_len-loop-index
invariant-members_len-loop-index l =
    l.len ≡ capped_len (length (members_text (data_of (take l.index l.members))))
