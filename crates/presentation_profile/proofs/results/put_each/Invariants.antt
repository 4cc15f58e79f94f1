use Rattle.std.proofs.Common.{◌≡◌, ◌++◌, flat_map, take}
use Rattle.presentation_profile.specs.Written.{result_octets}
use Rattle.presentation_profile.proofs.results.put_each.Given as goal

abbrev pub invariant-loop-one : goal.invariant-loop-one
invariant-loop-one l =
    l.out.items ≡ l.initial.out.items ++ flat_map result_octets (take l.one-index l.results)
