-- The octets that are left, and what is still passed over.
use Rattle.std.proofs.Common.{◌+◌, ◌*◌, length}
use Rattle.ber_values.specs.Extents.{is_element}
use Rattle.ber_values.specs.Heads.{element_by, extent_within}
use Rattle.ber_values.proofs.Passed.{PassedSoFar}
use Rattle.ber_values.proofs.extent.+extents.Given as goal

abbrev pub decreases-read_extent : goal.decreases-read_extent
decreases-read_extent l = 4 * l.room

abbrev pub decreases-read_closed : goal.decreases-read_closed
decreases-read_closed l = 4 * l.room + 3

abbrev pub decreases-pass_elements : goal.decreases-pass_elements
decreases-pass_elements l = 4 * l.room + 2

abbrev pub decreases-head_within : goal.decreases-head_within
decreases-head_within l = 4 * l.room + 1

abbrev pub invariant-pass_elements-loop-rest : goal.invariant-pass_elements-loop-rest
invariant-pass_elements-loop-rest l =
    PassedSoFar (element_by (extent_within l.room)) is_element l.at l.octets l.place l.rest

abbrev pub decreases-pass_elements-loop-rest : goal.decreases-pass_elements-loop-rest
decreases-pass_elements-loop-rest l = length l.rest
