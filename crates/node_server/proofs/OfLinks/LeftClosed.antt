-- A link that was served leaves no association of its seat open: what it gave ends at most once, and
-- behind all of it the connection has ended.
use Rattle.std.proofs.Common.{◌≡◌, ℕ, List, [], ◌∷◌, ◌++◌, None, refl, sym, subst, ◌∙◌}
use Rattle.std.proofs.Common.{⊎_elim, append_assoc}
use Rattle.bilateral.specs.Rows.{CentreRows}
use Rattle.outside.specs.Links.LinkAnswers.{Received, piece, idle, ended, failed, LinkAnswer}
use Rattle.outside.specs.Links.Links.{LinkTold}
use Rattle.share_turn.specs.Entries.{Each, own}
use Rattle.tase_views.specs.History.{association_in}
use Rattle.tase_conn.specs.Map.Inputs.{Item, IsLinkInput}
use Rattle.tase_conn.specs.Map.Inputs.{piece as piece_item, idle as idle_item, ended as ended_item}
use Rattle.tase_conn.specs.declared.stage.ConnEnd.{ConnEnd}
use Rattle.tase_conn.specs.declared.stage.ConnEnd.TheVariants as conn_ends
use Rattle.conn_service.proofs.EndedClosed.{ended_closed}
use Rattle.node_server.specs.declared.turn.turn_node.NodeSetup.{NodeSetup}
use Rattle.node_server.specs.Turn.Logged.{past_in}
use Rattle.node_server.specs.NodeCalls.{NodeLog, NodeSeat}
use Rattle.node_server.specs.Seats.Since.{since_here, log_since}
use Rattle.node_server.specs.Seats.Serving.{shared_setup}
use Rattle.node_server.specs.Links.GivenItems.{items_given, items_of, MayGoOn}
use Rattle.node_server.specs.Links.ServedLinks.{CameBehind, HasActedOn, ServesUpTo, ServesLink}
use Rattle.node_server.specs.Links.ServedLinks.{ServesNextLink}
use Rattle.node_server.proofs.OfSeats.Since.{unused_number, begins_here, since_on, since_alike}
use Rattle.node_server.proofs.OfSeats.Since.{since_self}

-- ---- what a link gives

abbrev MayAllGoOn : List LinkAnswer → Type 0
MayAllGoOn answers = Each (λ (answer : LinkAnswer). MayGoOn answer.received) answers

given_more : (received : Received) (items : List Item) → MayGoOn received → IsLinkInput items
    → IsLinkInput (items_given received ++ items)
given_more (piece octets) items m i = i
given_more idle items m i = i
given_more ended items m i = absurd m
given_more failed items m i = absurd m

given_last : (received : Received) → IsLinkInput (items_given received ++ [])
given_last (piece octets) = tt
given_last idle = tt
given_last ended = refl
given_last failed = tt

input_behind : (before after : List LinkAnswer) → MayAllGoOn before → IsLinkInput (items_of after)
    → IsLinkInput (items_of (before ++ after))
input_behind [] after m i = i
input_behind (answer ∷ before) after m i =
    given_more answer.received (items_of (before ++ after)) m.0
    (input_behind before after m.1 i)

-- more could come behind each answer but the last
given_input : (rows : CentreRows) (who start : ℕ) (log : NodeLog) (before given : List LinkAnswer)
    → MayAllGoOn before → CameBehind rows who start log before given
    → IsLinkInput (items_of (before ++ given))
given_input rows who start log before [] m c = input_behind before [] m tt
given_input rows who start log before (answer ∷ []) m c =
    input_behind before (answer ∷ []) m (given_last answer.received)
given_input rows who start log before (answer ∷ next ∷ given) m c =
    subst (λ (answers : List LinkAnswer). IsLinkInput (items_of answers))
    (append_assoc before (answer ∷ []) (next ∷ given))
    (given_input rows who start log (before ++ answer ∷ []) (next ∷ given) c.1.0.more c.1)

-- ---- what the connection has acted on

front_input : (front : List Item) (last : Item) → IsLinkInput (front ++ last ∷ [])
    → IsLinkInput front
front_input [] last i = tt
front_input (piece_item octets ∷ front) last i = front_input front last i
front_input (idle_item ∷ front) last i = front_input front last i
front_input (ended_item ∷ []) last i = absurd (cc i)
front_input (ended_item ∷ item ∷ front) last i = absurd (cc i)

same_input : (given acted : List Item) → given ≡ acted → IsLinkInput given → IsLinkInput acted
same_input given acted e i = subst (λ (items : List Item). IsLinkInput items) e i

acted_input : (end : ConnEnd) (given acted : List Item) → HasActedOn end given acted
    → IsLinkInput given → IsLinkInput acted
acted_input conn_ends.Finished given acted h i = same_input given acted h i
acted_input conn_ends.PeerEnd given acted h i = same_input given acted h i
acted_input conn_ends.Declined given acted h i = same_input given acted h i
acted_input (conn_ends.Refused fault) given acted h i = same_input given acted h i
acted_input (conn_ends.TooLong len detail) given acted h i = same_input given acted h i
acted_input (conn_ends.Overflow pending limit) given acted h i = same_input given acted h i
acted_input conn_ends.LinkFault given acted h i = same_input given acted h i
acted_input conn_ends.Stopped given acted h i = same_input given acted h i
acted_input (conn_ends.Full weight limit) given acted h i = same_input given acted h i
acted_input conn_ends.Memory given acted h i = ⊎_elim
    (λ (e : given ≡ acted). same_input given acted e i)
    (λ (l : (last : Item) × (given ≡ acted ++ last ∷ [])).
    front_input acted l.0 (same_input given (acted ++ l.0 ∷ []) l.1 i)) h

pub left_closed : (setup : NodeSetup) (who : ℕ) (log : NodeLog) (link used : LinkTold)
    (end : ConnEnd) → ServesUpTo setup who log link used end
    → association_in (past_in log) who ≡ None
left_closed setup who log link used end s =
    ended_closed (shared_setup setup) (past_in log) who s.acted end (s.taken ++ s.waiting)
    (acted_input end (items_of s.given) s.acted s.acted_is
    (given_input setup.centre who s.first.sent log [] s.given tt s.in_turn))
    s.sends

-- so is it over all that was seen, where the seat has served others before
pub again_closed : (setup : NodeSetup) (seat : NodeSeat) (front : NodeLog) (link later : LinkTold)
    (end : ConnEnd) → association_in (past_in seat.front) seat.number ≡ None
    → (s : ServesNextLink setup seat front link later end)
    → association_in (past_in s.seen) seat.number ≡ None
again_closed setup seat front link later end closed s =
    let u = unused_number seat.front in
    let since = since_here seat u.0 in
    let is = since_on since seat.front s.seen s.is_front (begins_here seat u.0 closed u.1) in
    sym ((since_alike since s.seen is).seats seat.number)
    ∙ left_closed setup seat.number (log_since since s.seen) link s.used end (s.served u.0 u.1)

-- a seat that had done nothing before
pub fresh_serves : (setup : NodeSetup) (seat : NodeSeat) (front : NodeLog) (link later : LinkTold)
    (end : ConnEnd) → own seat.number seat.front ≡ []
    → ServesNextLink setup seat front link later end → ServesLink setup seat front link later end
fresh_serves setup seat front link later end none s = record {
  seen = s.seen;
  is_front = s.is_front;
  used = s.used;
  served = subst (λ (log : NodeLog). ServesUpTo setup seat.number log link s.used end)
      (since_self seat s.seen) (s.served seat.number none);
  closed = s.closed;
  stop = s.stop;
  stops = s.stops;
  stopped = s.stopped;
}
