use Rattle.std.proofs.Common.{◌≡◌, ◌++◌, flat_map, take}
use Rattle.mms_data.specs.DataWritten.{datum_octets}
use Rattle.mms_services.proofs.access.write.put_values.Given as goal

abbrev pub invariant-loop-value : goal.invariant-loop-value
invariant-loop-value l =
    l.out.items ≡ l.initial.out.items ++ flat_map datum_octets (take l.value-index l.values)
