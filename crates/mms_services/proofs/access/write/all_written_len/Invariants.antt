use Rattle.std.proofs.Common.{◌≡◌, length, flat_map, take}
use Rattle.ber_values.specs.Lengths.{capped}
use Rattle.mms_services.specs.Access.Writes.{one_written_octets}
use Rattle.mms_services.proofs.access.write.all_written_len.Given as goal

abbrev pub invariant-loop-written : goal.invariant-loop-written
invariant-loop-written l = l.len ≡ capped (length (flat_map one_written_octets (take l.written-index l.results)))
