use Rattle.std.proofs.Common.{◌≡◌, ◌*◌, ◌≤◌, length, flat_map, take}
use Rattle.presentation_profile.specs.Written.{result_octets}
use Rattle.presentation_profile.proofs.results.each_len.Given as goal

abbrev pub invariant-loop-one : goal.invariant-loop-one
invariant-loop-one l =
    (l.len ≡ length (flat_map result_octets (take l.one-index l.results)))
    × (l.len ≤ 9 * l.one-index)
