use Rattle.std.proofs.Common.{◌≡◌, ◌++◌, flat_map, take}
use Rattle.mms_data.specs.OutcomeOctets.{outcome_octets}
use Rattle.mms_services.proofs.access.read.put_outcomes.Given as goal

abbrev pub invariant-loop-outcome : goal.invariant-loop-outcome
invariant-loop-outcome l =
    l.out.items ≡ l.initial.out.items ++ flat_map outcome_octets (take l.outcome-index l.outcomes)
