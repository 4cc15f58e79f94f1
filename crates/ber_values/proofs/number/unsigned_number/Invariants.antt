use Rattle.std.proofs.Common.{◌≡◌, ◌*◌, ◌^◌, ◌<◌, take}
use Rattle.ber_values.specs.Octets.{number_of}
use Rattle.ber_values.proofs.number.unsigned_number.Given as goal

abbrev pub invariant-loop-octet : goal.invariant-loop-octet
invariant-loop-octet l = (l.number ≡ number_of (take l.octet-index l.octets)) × (l.number < 2 ^ (8 * l.octet-index))
