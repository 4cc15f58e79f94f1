use Rattle.std.proofs.Common.{◌≡◌, ◌+◌, ◌^◌, ◌<◌, length}
use Rattle.session_profile.specs.Rules.{rest_in, all_parameters_in}
use Rattle.session_profile.specs.Connections.{item}
use Rattle.session_profile.proofs.connection.read_item.Given as goal

-- what the item is, is what the rest makes of what came
abbrev pub invariant-loop-rest : goal.invariant-loop-rest
invariant-loop-rest l = (all_parameters_in item l.fn.at l.fn.octets ≡ rest_in item l.versioned l.place l.rest) × (l.place + length l.rest < 2 ^ 64)

abbrev pub decreases-loop-rest : goal.decreases-loop-rest
decreases-loop-rest l = length l.rest
