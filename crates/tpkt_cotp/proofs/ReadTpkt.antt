-- What a reader of a TPKT answers.
use Rattle.std.proofs.Common.{ℕ, ◌≤◌, List, length, get_or, Option, Some, None, IfOk, IfSome}
use Rattle.std.proofs.Common.{IfNone, Result, Ok, Err, ap, arith, ◌<◌}
use Rattle.std.proofs.lemmas.List.{length-append}
use Rattle.tpkt_cotp.specs.declared.fault.CotpFault.{CotpFault}
use Rattle.tpkt_cotp.specs.declared.turn.Turn.{Turn}
use Rattle.tpkt_cotp.specs.declared.tpkt.Tpkt as packet
use Rattle.tpkt_cotp.specs.Tpdus.{Tpkt}
use Rattle.tpkt_cotp.specs.Found.{tpkt_seen}
use Rattle.tpkt_cotp.specs.Readings.{GivesReading, tpkt_in}
use Rattle.tpkt_cotp.proofs.Exact.{Begins}
use Rattle.tpkt_cotp.proofs.ExactTpkt.{tpkt_found}
use Rattle.tpkt_cotp.proofs.Cuts.{tpkt_cut}

pub whole_of : (P : Tpkt → Type 0) (r : Result (Option packet.Tpkt) CotpFault) (turn : Turn)
    (total : ℕ) (octets : List ℕ) → GivesReading tpkt_seen r (tpkt_in turn total octets)
    → ((p : Tpkt) → Begins turn total octets p → P p)
    → IfOk r (λ found. IfSome found (λ q. P (tpkt_seen q)))
whole_of P (Ok (Some q)) turn total octets gives to = to (tpkt_seen q)
    (tpkt_found turn total octets (tpkt_seen q) gives)
whole_of P (Ok None) turn total octets gives to = tt
whole_of P (Err f) turn total octets gives to = tt

pub cut_of : (r : Result (Option packet.Tpkt) CotpFault) (turn : Turn) (total : ℕ)
    (octets : List ℕ) → GivesReading tpkt_seen r (tpkt_in turn total octets) → get_or octets 2 0 < 256
    → get_or octets 3 0 < 256 → IfOk r (λ found. IfNone found (length octets ≤ 65534))
cut_of (Ok (Some q)) turn total octets gives h l = tt
cut_of (Ok None) turn total octets gives h l = tpkt_cut turn total octets h l gives
cut_of (Err f) turn total octets gives h l = tt

pub within_of : (turn : Turn) (total : ℕ) (octets : List ℕ) (p : Tpkt) → Begins turn total octets p
    → p.size ≤ length octets
within_of turn total octets p b = let l = ap length b.is in let m = length-append b.spelling b.rest
    in omega (arith, l, m, b.size)
