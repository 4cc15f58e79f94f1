use Rattle.std.proofs.Common.{ℕ, refl, ap, inl, inr}
use Rattle.tase_conn.specs.Talking.{Talking}
use Rattle.conn_service.specs.Attending.{IsParting}
use Rattle.conn_service.proofs.Going.{asking_placed}
use Rattle.conn_service.proofs.Memory.{unnoted_free, stays_placed}
use Rattle.node_server.specs.Seats.Serving.{shared_setup, GoesOrShuts, ClosesOverAll, IsShut}
use Rattle.node_server.proofs.OfSeats.Behind.{SeatLog, of_seat, of_first}
use Rattle.node_server.proofs.OfSeats.Behind.{at_twice, prefix_then}
use Rattle.node_server.proofs.OfSeats.Answered.{answer_told, refusal_told, told_parting, told_on}
use Rattle.node_server.proofs.OfSeats.Answered.{unnoted_parting, unnoted_shut}
use Rattle.node_server.proofs.OfSeats.Answered.{refused_parting, refused_shut}
use Rattle.node_server.specs.Seats.Peers.{HasItsPeer}
use Rattle.node_server.proofs.OfSeats.Peers.{told_peer, refused_peer, given_peer, shut_peer}
use Rattle.node_server.proofs.OfSeats.Peers.{goes_peer}
use Rattle.node_server.proofs.OfSeats.Since.{past_since, since_on, came_since}
use Rattle.node_server.proofs.seats.attending.Attendant.answer.Goals as goal

-- the node has answered
pub tell-requires-clause-right : goal.tell-requires-clause-right
tell-requires-clause-right g c =
    let h = c.requires.waits in
    answer_told (shared_setup c.args.self.now.shared.now.setup)
    (past_since h.0 c.args.seat.now.front) (past_since h.0 c.call.new.seat.front)
    c.args.seat.now.number c.args.event c.in-Ok.answer c.args.conn.now (came_since
    c.args.self.now.shared.now.setup c.args.seat.now c.args.event _ c.call.new.seat.front h.0 h.1
    c.in-Ok.ensures.one) h.2

pub tell-requires-clause-placed : goal.tell-requires-clause-placed
tell-requires-clause-placed g c =
    let h = c.requires.waits in
    asking_placed c.args.self.now.shared.now.setup.centre (past_since h.0 c.args.seat.now.front)
    c.args.seat.now.number c.args.event c.args.conn.now h.2

pub goes_on-requires-clause-left : goal.goes_on-requires-clause-left
goes_on-requires-clause-left g c =
    let h = c.requires.waits in
    λ leaving.
    let rows = c.args.self.now.shared.now.setup.centre in (
      h.0,
      since_on h.0 c.args.seat.now.front c.call.new.seat.front c.call.ensures.seen h.1,
      of_seat (λ (n : ℕ) (f : SeatLog). IsParting rows (past_since h.0 f) n c.tell.new.self)
          c.args.seat.now c.call.new.seat c.call.ensures.same (told_parting
          (shared_setup c.args.self.now.shared.now.setup) (past_since h.0 c.args.seat.now.front)
          (past_since h.0 c.call.new.seat.front) c.args.seat.now.number c.args.event c.in-Ok.answer
          c.args.conn.now c.tell.new.self (came_since c.args.self.now.shared.now.setup
          c.args.seat.now c.args.event _ c.call.new.seat.front h.0 h.1 c.in-Ok.ensures.one)
          c.tell.ensures.stands c.in-Ok-tell.ensures.told h.2 leaving),
    )

pub returns-in-Ok-tell-clause-answers : goal.returns-in-Ok-tell-clause-answers
returns-in-Ok-tell-clause-answers g c = λ since is items said s.
    let on = since_on since c.args.seat.now.front c.call.new.seat.front c.call.ensures.seen is in
    told_on c.goes_on.result (shared_setup c.args.self.now.shared.now.setup)
    (past_since since c.args.seat.now.front) (past_since since c.call.new.seat.front)
    (past_since since c.goes_on.new.seat.front) c.args.seat.now.number items said c.args.event
    c.in-Ok.answer c.args.conn.now c.tell.new.self c.goes_on.new.conn (came_since
    c.args.self.now.shared.now.setup c.args.seat.now c.args.event _ c.call.new.seat.front since is
    c.in-Ok.ensures.one) c.tell.ensures.stands c.in-Ok-tell.ensures.told (of_first (λ (n : ℕ)
    (f : SeatLog). GoesOrShuts c.goes_on.result c.args.self.now.shared.now.setup.centre n
    (past_since since f) c.tell.new.self (past_since since c.goes_on.new.seat.front)
    c.goes_on.new.conn) c.args.seat.now c.call.new.seat c.call.ensures.same (c.goes_on.ensures.goes
    since on)) s

pub returns-in-Ok-tell-clause-same : goal.returns-in-Ok-tell-clause-same
returns-in-Ok-tell-clause-same g c = at_twice c.args.seat.now c.call.new.seat c.goes_on.new.seat
    c.call.ensures.same c.goes_on.ensures.same

pub returns-in-Ok-tell-clause-seen : goal.returns-in-Ok-tell-clause-seen
returns-in-Ok-tell-clause-seen g c = prefix_then c.args.seat.now.front c.call.new.seat.front
    c.goes_on.new.seat.front c.call.ensures.seen c.goes_on.ensures.seen

-- and memory was wanting for what is said
pub give_up-requires-clause-free : goal.give_up-requires-clause-free
give_up-requires-clause-free g c =
    unnoted_free c.in-Ok.answer c.args.conn.now c.tell.new.self c.in-Err-tell.ensures.err

pub give_up-requires-clause-placed : goal.give_up-requires-clause-placed
give_up-requires-clause-placed g c =
    let h = c.requires.waits in
    stays_placed c.args.self.now.shared.now.setup.centre (past_since h.0 c.args.seat.now.front)
    c.args.seat.now.number c.args.event c.args.conn.now c.tell.new.self c.tell.ensures.stands h.2

pub close-requires-clause-left : goal.close-requires-clause-left
close-requires-clause-left g c =
    let h = c.requires.waits in
    let rows = c.args.self.now.shared.now.setup.centre in (
      h.0,
      since_on h.0 c.args.seat.now.front c.call.new.seat.front c.call.ensures.seen h.1,
      of_seat (λ (n : ℕ) (f : SeatLog). IsParting rows (past_since h.0 f) n c.give_up.new.self)
          c.args.seat.now c.call.new.seat c.call.ensures.same (unnoted_parting
          (shared_setup c.args.self.now.shared.now.setup) (past_since h.0 c.args.seat.now.front)
          (past_since h.0 c.call.new.seat.front) c.args.seat.now.number c.args.event c.in-Ok.answer
          c.args.conn.now c.tell.new.self c.give_up.new.self (came_since
          c.args.self.now.shared.now.setup c.args.seat.now c.args.event _ c.call.new.seat.front h.0
          h.1 c.in-Ok.ensures.one) c.in-Err-tell.ensures.err c.tell.ensures.stands
          c.give_up.ensures.stands c.give_up.ensures.left h.2),
    )

pub returns-in-Err-tell-clause-answers : goal.returns-in-Err-tell-clause-answers
returns-in-Err-tell-clause-answers g c = λ since is items said s.
    let on = since_on since c.args.seat.now.front c.call.new.seat.front c.call.ensures.seen is in
    inr (unnoted_shut (shared_setup c.args.self.now.shared.now.setup)
    (past_since since c.args.seat.now.front) (past_since since c.call.new.seat.front)
    (past_since since c.close.new.seat.front) c.args.seat.now.number items said c.args.event
    c.in-Ok.answer c.args.conn.now c.tell.new.self c.give_up.new.self c.close.new.conn (came_since
    c.args.self.now.shared.now.setup c.args.seat.now c.args.event _ c.call.new.seat.front since is
    c.in-Ok.ensures.one) c.in-Err-tell.ensures.err c.tell.ensures.stands c.give_up.ensures.stands
    c.give_up.ensures.left (of_first (λ (n : ℕ) (f : SeatLog). ClosesOverAll
    c.args.self.now.shared.now.setup.centre n c.give_up.new.self c.close.new.conn) c.args.seat.now
    c.call.new.seat c.call.ensures.same c.close.ensures.closes) (of_first (λ (n : ℕ) (f : SeatLog).
    IsShut n (past_since since f) (past_since since c.close.new.seat.front)) c.args.seat.now
    c.call.new.seat c.call.ensures.same (c.close.ensures.shuts since on)) s)

pub returns-in-Err-tell-clause-same : goal.returns-in-Err-tell-clause-same
returns-in-Err-tell-clause-same g c = at_twice c.args.seat.now c.call.new.seat c.close.new.seat
    c.call.ensures.same c.close.ensures.same

pub returns-in-Err-tell-clause-seen : goal.returns-in-Err-tell-clause-seen
returns-in-Err-tell-clause-seen g c = prefix_then c.args.seat.now.front c.call.new.seat.front
    c.close.new.seat.front c.call.ensures.seen c.close.ensures.seen

-- it has refused the event
pub tell-told-requires-clause-right : goal.tell-told-requires-clause-right
tell-told-requires-clause-right g c =
    let h = c.requires.waits in
    refusal_told (shared_setup c.args.self.now.shared.now.setup)
    (past_since h.0 c.args.seat.now.front) (past_since h.0 c.call.new.seat.front)
    c.args.seat.now.number c.args.event c.in-Err.fault c.args.conn.now (came_since
    c.args.self.now.shared.now.setup c.args.seat.now c.args.event _ c.call.new.seat.front h.0 h.1
    c.in-Err.ensures.one) h.2

pub tell-told-requires-clause-placed : goal.tell-told-requires-clause-placed
tell-told-requires-clause-placed g c =
    let h = c.requires.waits in
    asking_placed c.args.self.now.shared.now.setup.centre (past_since h.0 c.args.seat.now.front)
    c.args.seat.now.number c.args.event c.args.conn.now h.2

pub close-requires-in-Err-clause-left : goal.close-requires-in-Err-clause-left
close-requires-in-Err-clause-left g c =
    let h = c.requires.waits in
    let rows = c.args.self.now.shared.now.setup.centre in (
      h.0,
      since_on h.0 c.args.seat.now.front c.call.new.seat.front c.call.ensures.seen h.1,
      of_seat (λ (n : ℕ) (f : SeatLog). IsParting rows (past_since h.0 f) n c.tell-told.new.self)
          c.args.seat.now c.call.new.seat c.call.ensures.same (refused_parting
          (shared_setup c.args.self.now.shared.now.setup) (past_since h.0 c.args.seat.now.front)
          (past_since h.0 c.call.new.seat.front) c.args.seat.now.number c.args.event c.in-Err.fault
          c.args.conn.now c.tell-told.new.self (came_since c.args.self.now.shared.now.setup
          c.args.seat.now c.args.event _ c.call.new.seat.front h.0 h.1 c.in-Err.ensures.one)
          c.tell-told.ensures.stands (c.tell-told.ensures.refused c.in-Err.fault refl) h.2),
    )

pub returns-in-Err-clause-answers : goal.returns-in-Err-clause-answers
returns-in-Err-clause-answers g c = λ since is items said s.
    let on = since_on since c.args.seat.now.front c.call.new.seat.front c.call.ensures.seen is in
    inl (refused_shut (shared_setup c.args.self.now.shared.now.setup)
    (past_since since c.args.seat.now.front) (past_since since c.call.new.seat.front)
    (past_since since c.close-in-Err.new.seat.front) c.args.seat.now.number items said c.args.event
    c.in-Err.fault c.args.conn.now c.tell-told.new.self c.close-in-Err.new.conn (came_since
    c.args.self.now.shared.now.setup c.args.seat.now c.args.event _ c.call.new.seat.front since is
    c.in-Err.ensures.one) c.tell-told.ensures.stands
    (c.tell-told.ensures.refused c.in-Err.fault refl) (of_first (λ (n : ℕ) (f : SeatLog).
    ClosesOverAll c.args.self.now.shared.now.setup.centre n c.tell-told.new.self
    c.close-in-Err.new.conn) c.args.seat.now c.call.new.seat c.call.ensures.same
    c.close-in-Err.ensures.closes) (of_first (λ (n : ℕ) (f : SeatLog). IsShut n
    (past_since since f) (past_since since c.close-in-Err.new.seat.front)) c.args.seat.now
    c.call.new.seat c.call.ensures.same (c.close-in-Err.ensures.shuts since on)) s)

pub returns-in-Err-clause-same : goal.returns-in-Err-clause-same
returns-in-Err-clause-same g c = at_twice c.args.seat.now c.call.new.seat c.close-in-Err.new.seat
    c.call.ensures.same c.close-in-Err.ensures.same

pub returns-in-Err-clause-seen : goal.returns-in-Err-clause-seen
returns-in-Err-clause-seen g c = prefix_then c.args.seat.now.front c.call.new.seat.front
    c.close-in-Err.new.seat.front c.call.ensures.seen c.close-in-Err.ensures.seen

-- whose association it is
pub returns-in-Ok-tell-clause-peer : goal.returns-in-Ok-tell-clause-peer
returns-in-Ok-tell-clause-peer g c = λ since is h.
    let on = since_on since c.args.seat.now.front c.call.new.seat.front c.call.ensures.seen is in
    let middle = c.call.new.seat in
    of_seat (λ (n : ℕ) (f : SeatLog). HasItsPeer (past_since since f) n c.goes_on.new.conn) middle
    c.goes_on.new.seat c.goes_on.ensures.same (goes_peer c.goes_on.result
    c.args.self.now.shared.now.setup.centre (past_since since middle.front)
    (past_since since c.goes_on.new.seat.front) middle.number c.tell.new.self c.goes_on.new.conn
    (c.goes_on.ensures.goes since on) c.goes_on.ensures.peer (of_seat (λ (n : ℕ) (f : SeatLog).
    HasItsPeer (past_since since f) n c.tell.new.self) c.args.seat.now middle c.call.ensures.same
    (told_peer (shared_setup c.args.self.now.shared.now.setup)
    (past_since since c.args.seat.now.front) (past_since since middle.front) c.args.seat.now.number
    c.args.event c.in-Ok.answer c.args.conn.now c.tell.new.self (came_since
    c.args.self.now.shared.now.setup c.args.seat.now c.args.event _ middle.front since is
    c.in-Ok.ensures.one) c.in-Ok-tell.ensures.told.stage c.requires.waits.2.2.waits h)))

pub returns-in-Err-tell-clause-peer : goal.returns-in-Err-tell-clause-peer
returns-in-Err-tell-clause-peer g c = λ since is h.
    let on = since_on since c.args.seat.now.front c.call.new.seat.front c.call.ensures.seen is in
    let middle = c.call.new.seat in
    of_seat (λ (n : ℕ) (f : SeatLog). HasItsPeer (past_since since f) n c.close.new.conn) middle
    c.close.new.seat c.close.ensures.same (shut_peer (past_since since middle.front)
    (past_since since c.close.new.seat.front) middle.number c.give_up.new.self c.close.new.conn
    (c.close.ensures.shuts since on) c.close.ensures.peer (given_peer
    (past_since since middle.front) middle.number _ c.tell.new.self c.give_up.new.self
    c.give_up.ensures.left (of_seat (λ (n : ℕ) (f : SeatLog). HasItsPeer (past_since since f) n
    c.tell.new.self) c.args.seat.now middle c.call.ensures.same (told_peer
    (shared_setup c.args.self.now.shared.now.setup) (past_since since c.args.seat.now.front)
    (past_since since middle.front) c.args.seat.now.number c.args.event c.in-Ok.answer
    c.args.conn.now c.tell.new.self (came_since c.args.self.now.shared.now.setup c.args.seat.now
    c.args.event _ middle.front since is c.in-Ok.ensures.one)
    (ap (λ (v : Talking). v.stage) c.in-Err-tell.ensures.err) c.requires.waits.2.2.waits h))))

pub returns-in-Err-clause-peer : goal.returns-in-Err-clause-peer
returns-in-Err-clause-peer g c = λ since is h.
    let on = since_on since c.args.seat.now.front c.call.new.seat.front c.call.ensures.seen is in
    let middle = c.call.new.seat in
    let new = c.close-in-Err.new in
    of_seat (λ (n : ℕ) (f : SeatLog). HasItsPeer (past_since since f) n new.conn) middle new.seat
    c.close-in-Err.ensures.same (shut_peer (past_since since middle.front)
    (past_since since new.seat.front) middle.number c.tell-told.new.self new.conn
    (c.close-in-Err.ensures.shuts since on) c.close-in-Err.ensures.peer (of_seat (λ (n : ℕ)
    (f : SeatLog). HasItsPeer (past_since since f) n c.tell-told.new.self) c.args.seat.now middle
    c.call.ensures.same (refused_peer (shared_setup c.args.self.now.shared.now.setup)
    (past_since since c.args.seat.now.front) (past_since since middle.front) c.args.seat.now.number
    c.args.event c.in-Err.fault _ c.args.conn.now c.tell-told.new.self (came_since
    c.args.self.now.shared.now.setup c.args.seat.now c.args.event _ middle.front since is
    c.in-Err.ensures.one) (c.tell-told.ensures.refused c.in-Err.fault refl) h)))
