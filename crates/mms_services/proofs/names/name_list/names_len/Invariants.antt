use Rattle.std.proofs.Common.{◌≡◌, length, flat_map, take}
use Rattle.ber_values.specs.Lengths.{capped}
use Rattle.mms_services.specs.Names.NameLists.{listed_octets}
use Rattle.mms_services.proofs.names.name_list.names_len.Given as goal

abbrev pub invariant-loop-name : goal.invariant-loop-name
invariant-loop-name l = l.len ≡ capped (length (flat_map listed_octets (take l.name-index l.names)))
