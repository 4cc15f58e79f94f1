use Rattle.std.proofs.Common.{◌≡◌, ◌++◌, flat_map, take}
use Rattle.mms_services.specs.Access.Specifications.{variable_octets}
use Rattle.mms_services.proofs.access.spec.put_variables.Given as goal

abbrev pub invariant-loop-name : goal.invariant-loop-name
invariant-loop-name l =
    l.out.items ≡ l.initial.out.items ++ flat_map variable_octets (take l.name-index l.names)
