use Rattle.std.proofs.Common.{◌≡◌, ◌++◌, flat_map, take}
use Rattle.mms_services.specs.Access.Writes.{one_written_octets}
use Rattle.mms_services.proofs.access.write.put_all_written.Given as goal

abbrev pub invariant-loop-written : goal.invariant-loop-written
invariant-loop-written l =
    l.out.items ≡ l.initial.out.items ++ flat_map one_written_octets (take l.written-index l.results)
