-- Messages that a stream begins with are the first of all its messages.
use Rattle.std.proofs.Common.{◌≡◌, ℕ, List, [], ◌++◌, length, Option, Some, None, sym, ap}
use Rattle.std.proofs.Common.{◌∙◌, append_assoc, MatchOption}
use Rattle.tpkt_cotp.specs.declared.fault.CotpFault.{CotpFault}
use Rattle.tpkt_cotp.specs.declared.turn.Role.{Role}
use Rattle.tpkt_cotp.specs.declared.turn.Turn.TheVariants as turns
use Rattle.tpkt_cotp.specs.Streams.{Message, turn_after, Says, Stops}
use Rattle.tpkt_cotp.specs.Lines.{Line, Reads, Stands}
use Rattle.tpkt_cotp.proofs.OneStream.{at_zero, fault_no_message}
use Rattle.tpkt_cotp.proofs.Always.{Continues, goes_on}
use Rattle.stack_assoc.specs.Fronts.{StartsWith}

pub front_said : (role : Role) (octets rest : List ℕ) (ms all : List Message)
    → StartsWith role octets ms → Says role octets all rest → Continues ms all
front_said role octets rest ms all s t =
    goes_on (turns.Opening role) 0 ms all s.whole t.whole s.more rest s.spelled t.spelled
    (sym s.is ∙ t.is)
    (at_zero (turn_after (turns.Opening role) all) (length t.whole) rest t.remains.no_message)

pub front_stopped : (role : Role) (octets : List ℕ) (ms all : List Message) (f : CotpFault)
    → StartsWith role octets ms → Stops role octets all f → Continues ms all
front_stopped role octets ms all f s t =
    goes_on (turns.Opening role) 0 ms all s.whole t.whole s.more t.rest s.spelled t.spelled
    (sym s.is ∙ t.is)
    (at_zero (turn_after (turns.Opening role) all) (length t.whole) t.rest
    (fault_no_message (turn_after (turns.Opening role) all) (length t.whole) t.rest f t.breaks))

pub front_more : (role : Role) (octets more : List ℕ) (ms : List Message)
    → StartsWith role octets ms → StartsWith role (octets ++ more) ms
front_more role octets more ms s = record {
  whole = s.whole;
  more = s.more ++ more;
  is = ap (λ (os : List ℕ). os ++ more) s.is ∙ append_assoc s.whole s.more more;
  spelled = s.spelled;
}

pub said_front : (role : Role) (octets rest : List ℕ) (ms : List Message)
    → Says role octets ms rest → StartsWith role octets ms
said_front role octets rest ms s =
    record { whole = s.whole; more = rest; is = s.is; spelled = s.spelled }

pub stopped_front : (role : Role) (octets : List ℕ) (ms : List Message) (f : CotpFault)
    → Stops role octets ms f → StartsWith role octets ms
stopped_front role octets ms f s =
    record { whole = s.whole; more = s.rest; is = s.is; spelled = s.spelled }

stood_front : (role : Role) (octets : List ℕ) (ms : List Message) (t : Line)
    (fault : Option CotpFault) → MatchOption fault (Reads role octets ms t)
    (λ f. Stops role octets ms f × (t.unread ≡ [])) → StartsWith role octets ms
stood_front role octets ms t None s =
    record { whole = s.whole; more = s.pending; is = s.is; spelled = s.spelled }
stood_front role octets ms t (Some f) s = stopped_front role octets ms f s.0

pub stands_front : (role : Role) (octets : List ℕ) (ms : List Message) (t : Line)
    → Stands role octets ms t → StartsWith role octets ms
stands_front role octets ms t s = stood_front role octets ms t t.fault s
