-- Selectors and sizes that are read are lawful.
use Rattle.std.specs.Prelude.{ℕ, ◌≤◌, length, Option, IfSome}
use Rattle.tpkt_cotp.specs.declared.limits.TheConstants.{TSDU_LIMIT}
use Rattle.tpkt_cotp.specs.declared.tpdu.Parameters.{Parameters}
use Rattle.tpkt_cotp.specs.Selectors.{IsSelector}
use Rattle.tpkt_cotp.specs.Tpdus.{Tpdu, request, confirm, disconnect, part}
use Rattle.tpkt_cotp.specs.Streams.{Message, asks, confirms, gone, tsdu}

abbrev pub AreSelectors : Parameters → Type 0
AreSelectors p = IfSome p.calling IsSelector × IfSome p.called IsSelector

-- a size is a power of two from 2^7 to 2^13
abbrev pub IsSize : Option ℕ → Type 0
IsSize size = IfSome size (λ n. (7 ≤ n) × (n ≤ 13))

abbrev pub AreSoundParameters : Parameters → Type 0
AreSoundParameters p = AreSelectors p × IsSize p.size

abbrev pub IsSoundTpdu : Tpdu → Type 0
IsSoundTpdu (request r) = AreSoundParameters r.parameters
IsSoundTpdu (confirm c) = AreSoundParameters c.parameters
IsSoundTpdu disconnect = Unit {0}
IsSoundTpdu (part _ _) = Unit {0}

-- what is handed out may be answered, and a TSDU is within the limit
abbrev pub IsSoundMessage : Message → Type 0
IsSoundMessage (asks r) = AreSoundParameters r.parameters
IsSoundMessage (confirms c) = AreSoundParameters c.parameters
IsSoundMessage gone = Unit {0}
IsSoundMessage (tsdu _ octets) = length octets ≤ TSDU_LIMIT
