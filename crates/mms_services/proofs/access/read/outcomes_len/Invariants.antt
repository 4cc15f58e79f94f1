use Rattle.std.proofs.Common.{◌≡◌, length, flat_map, take}
use Rattle.ber_values.specs.Lengths.{capped}
use Rattle.mms_data.specs.OutcomeOctets.{outcome_octets}
use Rattle.mms_services.proofs.access.read.outcomes_len.Given as goal

abbrev pub invariant-loop-outcome : goal.invariant-loop-outcome
invariant-loop-outcome l = l.len ≡ capped (length (flat_map outcome_octets (take l.outcome-index l.outcomes)))
