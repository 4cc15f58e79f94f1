-- Messages of the transport that a stream begins with.
use Rattle.std.specs.Prelude.{◌≡◌, ℕ, List, ◌++◌}
use Rattle.tpkt_cotp.specs.declared.turn.Role.{Role}
use Rattle.tpkt_cotp.specs.declared.turn.Turn.TheVariants as turns
use Rattle.tpkt_cotp.specs.Streams.{Message, SpellsMessages}

-- the octets are these messages, and more octets, whatever they are
pub record StartsWith (role : Role) (octets : List ℕ) (messages : List Message) : Type 0 where
  pub whole : List ℕ
  pub more : List ℕ
  pub is : octets ≡ whole ++ more
  pub spelled : SpellsMessages (turns.Opening role) 0 messages whole
