-- The members so far have so many octets.
use Rattle.std.proofs.Common.{◌+◌, ◌*◌}
use Rattle.centre_client.proofs.MembersSized.{SoSized}
use Rattle.centre_client.proofs.call_lines.data.+levels.Given as goal

abbrev pub decreases-datum_at : goal.decreases-datum_at
decreases-datum_at l = 2 * l.levels

abbrev pub decreases-members_at : goal.decreases-members_at
decreases-members_at l = 2 * l.levels + 1

abbrev pub invariant-members_at-loop-turn : goal.invariant-members_at-loop-turn
invariant-members_at-loop-turn l = SoSized l.levels l.close l.text l.turn l.len l.rest
