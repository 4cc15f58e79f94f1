use Rattle.std.proofs.Common.{◌≡◌, ◌+◌, ◌^◌, ◌<◌, ◌≤◌, length, IfSome}
use Rattle.session_profile.specs.Rules.{rest_in, all_parameters_in}
use Rattle.session_profile.specs.Connections.{connection}
use Rattle.session_profile.specs.Seen.{seen_of, IsOptionalSpanWithin}
use Rattle.session_profile.proofs.connection.read_connection.Given as goal

-- what the parameters are, is what the rest makes of what came
abbrev pub invariant-loop-rest : goal.invariant-loop-rest
invariant-loop-rest l = (all_parameters_in connection l.fn.at l.fn.octets ≡ rest_in connection (seen_of l.seen) l.place l.rest) × (l.place + length l.rest < 2 ^ 64) × IfSome l.seen.called (λ octets. length octets.now ≤ 32) × ((l.fn.at ≤ l.place) × (l.place + length l.rest ≡ l.fn.at + length l.fn.octets)) × IsOptionalSpanWithin l.fn.at (l.fn.at + length l.fn.octets) l.seen.user_data

abbrev pub decreases-loop-rest : goal.decreases-loop-rest
decreases-loop-rest l = length l.rest
