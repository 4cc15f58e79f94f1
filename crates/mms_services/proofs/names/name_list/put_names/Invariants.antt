use Rattle.std.proofs.Common.{◌≡◌, ◌++◌, flat_map, take}
use Rattle.mms_services.specs.Names.NameLists.{listed_octets}
use Rattle.mms_services.proofs.names.name_list.put_names.Given as goal

abbrev pub invariant-loop-name : goal.invariant-loop-name
invariant-loop-name l =
    l.out.items ≡ l.initial.out.items ++ flat_map listed_octets (take l.name-index l.names)
