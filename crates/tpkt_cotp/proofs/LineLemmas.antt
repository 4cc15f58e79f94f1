-- Lines.
use Rattle.std.proofs.Common.{◌≡◌, ℕ, List, [], true, false, Option, Some, None, Ok}
use Rattle.std.proofs.Common.{refl, sym, ap, ◌∙◌}
use Rattle.tpkt_cotp.specs.declared.fault.CotpFault.{CotpFault}
use Rattle.tpkt_cotp.specs.declared.turn.Turn.{Turn}
use Rattle.tpkt_cotp.specs.Tpdus.{Tpdu, request, confirm, disconnect, part, Tpkt}
use Rattle.tpkt_cotp.specs.Readings.{Read, tpkt_in}
use Rattle.tpkt_cotp.specs.Streams.{part_after, Message, message_of}
use Rattle.tpkt_cotp.specs.Lines.{Line}

abbrev pub line : Turn → ℕ → ℕ → List ℕ → List ℕ → Option CotpFault → Line
line turn place start held unread fault = record
    { turn = turn; place = place; start = start; held = held; unread = unread; fault = fault }

pub line_is : (turn : Turn) (place place' start start' : ℕ) (held held' unread unread' : List ℕ)
    (fault : Option CotpFault) → place ≡ place' → start ≡ start' → held ≡ held' → unread ≡ unread'
    → line turn place start held unread fault ≡ line turn place' start' held' unread' fault
line_is turn place place' start start' held held' unread unread' fault p s h u =
    ap (λ (x : ℕ). line turn x start held unread fault) p
    ∙ ap (λ (x : ℕ). line turn place' x held unread fault) s
    ∙ ap (λ (x : List ℕ). line turn place' start' x unread fault) h
    ∙ ap (λ (x : List ℕ). line turn place' start' held' x fault) u

pub nothing_read : (turn : Turn) (total : ℕ) → tpkt_in turn total [] ≡ Ok None
unfolding tpkt_in
nothing_read turn total = refl

pub read_is : (turn : Turn) (total total' : ℕ) (octets octets' : List ℕ) (r : Read Tpkt)
    → total ≡ total' → octets ≡ octets' → tpkt_in turn total octets ≡ r
    → tpkt_in turn total' octets' ≡ r
read_is turn total total' octets octets' r t o is = ap (λ (n : ℕ). tpkt_in turn n octets') (sym t)
    ∙ ap (λ (os : List ℕ). tpkt_in turn total os) (sym o) ∙ is

-- a TPDU that ends a message leaves nothing of it
pub nothing_held : (at : ℕ) (held : List ℕ) (tpdu : Tpdu) (m : Message)
    → message_of at held tpdu ≡ Some m → part_after held tpdu ≡ []
nothing_held at held (request r) m is = refl
nothing_held at held (confirm c) m is = refl
nothing_held at held disconnect m is = refl
nothing_held at held (part true more) m is = refl
nothing_held at held (part false more) m is = absurd cc
