-- What the transport gave, and what it says.
use Rattle.std.specs.Prelude.{ℕ, List, [], ◌∷◌, Option, Some, None}
use Rattle.tpkt_cotp.specs.Streams as transport
use Rattle.tpkt_cotp.specs.Streams.{Message, asks, confirms, tsdu}
use Rattle.tpkt_cotp.specs.Written.{confirm_octets, wire}
use Rattle.presentation_profile.specs.Agreements.{results_of}
use Rattle.stack_assoc.specs.declared.messages.expecting.Expecting.{Expecting}
use Rattle.stack_assoc.specs.declared.messages.expecting.Side.{Side}
use Rattle.stack_assoc.specs.declared.messages.expecting.Side.TheVariants as sides
use Rattle.stack_assoc.specs.declared.messages.heard.Heard.{Heard}
use Rattle.stack_assoc.specs.declared.messages.heard.Heard.TheVariants as heards
use Rattle.stack_assoc.specs.Messages.Meanings.{Meaning}
use Rattle.stack_assoc.specs.Messages.Messages.{message}
use Rattle.stack_assoc.specs.Wire.Tsdus.{connect_tsdu}
use Rattle.stack_assoc.specs.declared.taken.Opening.{Opening}
use Rattle.stack_assoc.specs.declared.taken.Opening.TheVariants as openings
use Rattle.stack_assoc.specs.declared.taken.Following.{Following}
use Rattle.stack_assoc.specs.declared.taken.Following.TheVariants as followings
use Rattle.stack_assoc.specs.declared.taken.Said.{Said}
use Rattle.stack_assoc.specs.declared.taken.Said.TheVariants as saids
use Rattle.stack_assoc.specs.Arrivals.{Arrival, asked, confirmed}

abbrev pub opening_seen : Opening → Message
opening_seen (openings.Request r) = asks r
opening_seen (openings.Confirm c) = confirms c

abbrev pub following_seen : Following → Message
following_seen followings.Gone = transport.gone
following_seen (followings.Tsdu place octets) = tsdu place octets.items

-- what an opening tells
abbrev pub opening_told : Opening → Arrival
opening_told (openings.Request r) = asked r
opening_told (openings.Confirm c) = confirmed c

-- what is known of it already
abbrev pub opened : Option Opening → List Arrival
opened None = []
opened (Some o) = opening_told o ∷ []

abbrev pub opening_listed : Option Opening → List Message
opening_listed None = []
opening_listed (Some o) = opening_seen o ∷ []

abbrev pub results_heard : Heard → List ℕ
results_heard (heards.Connect c) = results_of c.contexts
results_heard _ = []

-- what a TSDU says
abbrev pub SaysOf : Meaning Heard → Said → Type 0
SaysOf m (saids.Heard h results) = m.says h
SaysOf m (saids.Broken f) = m.breaks f
SaysOf m _ = ⊥

-- what a message says
abbrev pub SaysMessage : Expecting → Option Message → Said → Type 0
SaysMessage e None saids.Nothing = Unit {0}
SaysMessage e (Some transport.gone) saids.Gone = Unit {0}
SaysMessage e (Some (tsdu place octets)) said = SaysOf (message e octets) said
SaysMessage e _ _ = ⊥

-- the octets that answer an opening
abbrev pub owed_octets : Side → Option Opening → ℕ → Option (List ℕ) → List ℕ
owed_octets sides.Called (Some (openings.Request r)) size title = confirm_octets r
owed_octets sides.Calling (Some (openings.Confirm c)) size title = wire size (connect_tsdu title)
owed_octets _ _ size title = []
