-- The members so far have been written.
use Rattle.std.proofs.Common.{◌≡◌, ◌++◌, take}
use Rattle.mms_data.specs.Datum.{data_of}
use Rattle.mms_data.specs.DataWritten.{members_octets}
use Rattle.mms_data.proofs.data.octets.+writing.Given as goal

abbrev pub invariant-put_members-loop-member : goal.invariant-put_members-loop-member
invariant-put_members-loop-member l =
    l.out.items ≡ l.initial.out.items ++ members_octets (data_of (take l.member-index l.member-items))
