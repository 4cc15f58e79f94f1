-- The length of the members so far.
use Rattle.std.proofs.Common.{◌≡◌, length, take}
use Rattle.ber_values.specs.Lengths.{capped}
use Rattle.mms_data.specs.Datum.{data_of}
use Rattle.mms_data.specs.DataWritten.{members_octets}
use Rattle.mms_data.proofs.data.octets.+lengths.Given as goal

abbrev pub invariant-len_of_members-loop-member : goal.invariant-len_of_members-loop-member
invariant-len_of_members-loop-member l = l.len ≡ capped (length (members_octets (data_of (take l.member-index l.member-items))))
