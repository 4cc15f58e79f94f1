use Rattle.std.proofs.Common.{◌≡◌, length, flat_map, take}
use Rattle.ber_values.specs.Lengths.{capped}
use Rattle.mms_services.specs.Access.Specifications.{variable_octets}
use Rattle.mms_services.proofs.access.spec.variables_len.Given as goal

abbrev pub invariant-loop-name : goal.invariant-loop-name
invariant-loop-name l = l.len ≡ capped (length (flat_map variable_octets (take l.name-index l.names)))
