use Rattle.std.proofs.Common.{◌≡◌, ◌++◌, flat_map, take}
use Rattle.mms_data.specs.NameOctets.{name_octets}
use Rattle.mms_services.proofs.names.delete.put_set_names.Given as goal

abbrev pub invariant-loop-set : goal.invariant-loop-set
invariant-loop-set l = l.out.items ≡ l.initial.out.items ++ flat_map name_octets (take l.set-index l.sets)
