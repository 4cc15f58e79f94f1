-- What the octets that go out for a TSDU say.
use Rattle.std.specs.Prelude.{ℕ, ◌≤◌, List, length}
use Rattle.tpkt_cotp.specs.declared.limits.TheConstants.{TSDU_LIMIT}
use Rattle.tpkt_cotp.specs.declared.turn.Turn.TheVariants.{Transfer}
use Rattle.tpkt_cotp.specs.Streams.{tsdu, stream_place, SpellsMessage}
use Rattle.tpkt_cotp.specs.Written.{wire}

-- as many octets as a TSDU may have
abbrev pub IsTsdu : List ℕ → Type 0
IsTsdu octets = (1 ≤ length octets) × (length octets ≤ TSDU_LIMIT)

-- octets are a TSDU that, cut into TPDUs of any size, spells the one message of it, at any place
pub record IsWiredMessage (octets : List ℕ) : Type 0 where
  pub fits : IsTsdu octets
  pub said : (size at : ℕ) → 128 ≤ size
      → SpellsMessage Transfer at (tsdu (stream_place at) octets) (wire size octets)
