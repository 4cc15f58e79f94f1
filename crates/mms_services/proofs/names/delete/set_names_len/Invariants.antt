use Rattle.std.proofs.Common.{◌≡◌, length, flat_map, take}
use Rattle.ber_values.specs.Lengths.{capped}
use Rattle.mms_data.specs.NameOctets.{name_octets}
use Rattle.mms_services.proofs.names.delete.set_names_len.Given as goal

abbrev pub invariant-loop-set : goal.invariant-loop-set
invariant-loop-set l = l.len ≡ capped (length (flat_map name_octets (take l.set-index l.sets)))
