use Rattle.std.proofs.Common.{◌≡◌, length, flat_map, take}
use Rattle.ber_values.specs.Lengths.{capped}
use Rattle.mms_data.specs.DataWritten.{datum_octets}
use Rattle.mms_services.proofs.access.write.values_len.Given as goal

abbrev pub invariant-loop-value : goal.invariant-loop-value
invariant-loop-value l = l.len ≡ capped (length (flat_map datum_octets (take l.value-index l.values)))
