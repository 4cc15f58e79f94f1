use Rattle.std.proofs.Common.{◌<◌, ℕ, [], Bool, true, false, Option, Some, None}
use Rattle.std.proofs.Common.{refl, sym, subst, ◌∙◌}
use Rattle.std.proofs.lemmas.List.{append-nil}
use Rattle.tase_views.specs.declared.event.EventKind.{EventKind}
use Rattle.conn_service.specs.Attending.{IsServed, IsAsking, remaining}
use Rattle.node_server.specs.Turn.Logged.{past_in}
use Rattle.node_server.specs.Seats.Since.{Since, IsSince}
use Rattle.node_server.specs.Seats.Serving.{shared_setup}
use Rattle.node_server.proofs.OfSeats.Behind.{SeatLog, of_seat, at_twice, prefix_then, same_number}
use Rattle.node_server.proofs.OfSeats.Going.{SeatWants, SeatAnswers, serves_first, serves_on, attends_cut}
use Rattle.node_server.proofs.OfSeats.Going.{attends_through, asking_of, served_on, taken_less}
use Rattle.node_server.proofs.OfSeats.Since.{past_since, since_on, remains_since}
use Rattle.node_server.proofs.seats.attending.Attendant.attend.Goals as goal

pub loop-event-init : goal.loop-event-init
loop-event-init g c = record {
  same = refl;
  seen = ([], append-nil c.args.seat.now.front);
  served = c.requires.served;
  serves = λ since is.
      serves_first (shared_setup c.args.self.now.shared.now.setup) c.args.seat.now.number
      (past_since since c.args.seat.now.front) c.args.conn.now;
  peer = λ since is h. h;
}

pub answer-requires-clause-waits : goal.answer-requires-clause-waits
answer-requires-clause-waits g c =
    let h = c.loop-event.invariant.served in
    let seat = c.loop-event.seat in (
      h.0,
      since_on h.0 seat.front c.wanted.new.seat.front c.wanted.ensures.seen h.1,
      of_seat (λ (n : ℕ) (f : SeatLog). IsAsking c.args.self.now.shared.now.setup.centre
          (past_since h.0 f) n c.in-Some.event c.wanted.new.conn) seat c.wanted.new.seat
          c.wanted.ensures.same
          (asking_of (shared_setup c.args.self.now.shared.now.setup) seat.number
          (past_since h.0 seat.front) (past_since h.0 c.wanted.new.seat.front) c.in-Some.event
          c.loop-event.conn c.wanted.new.conn h.2 (c.in-Some.ensures.wants h.0 h.1)),
    )

pub loop-event-preserved : goal.loop-event-preserved
loop-event-preserved g c =
    let setup = shared_setup c.args.self.now.shared.now.setup in
    let start = c.args.seat.now in
    let seat = c.loop-event.seat in
    let next = c.wanted.new.seat in
    let last = c.answer.new.seat in
    let event = c.in-Some.event in
    let h = c.loop-event.invariant.served in
    let here = same_number seat next c.wanted.ensures.same in
    let first = same_number start seat c.loop-event.invariant.same in
    let both = at_twice seat next last c.wanted.ensures.same c.answer.ensures.same in
    let seen = prefix_then seat.front next.front last.front c.wanted.ensures.seen
    c.answer.ensures.seen in
    let answers : (since : Since) → IsSince since seat.front → SeatAnswers setup seat.number
    (past_since since next.front) event c.wanted.new.conn true (past_since since last.front)
    c.answer.new.conn = λ since is.
    subst (λ (n : ℕ). SeatAnswers setup n (past_since since next.front) event c.wanted.new.conn
    true (past_since since last.front) c.answer.new.conn) here
    (subst (λ (b : Bool). SeatAnswers setup next.number (past_since since next.front) event
    c.wanted.new.conn b (past_since since last.front) c.answer.new.conn) c.if-not-answer.false
    (c.answer.ensures.answers since
    (since_on since seat.front next.front c.wanted.ensures.seen is))) in
    record {
      same = at_twice start seat last c.loop-event.invariant.same both;
      seen = prefix_then start.front seat.front last.front c.loop-event.invariant.seen seen;
      served = (
        h.0,
        since_on h.0 seat.front last.front seen h.1,
        of_seat (λ (n : ℕ) (f : SeatLog). IsServed setup.centre (past_since h.0 f) n
            c.answer.new.conn) seat last both
            (served_on setup seat.number (past_since h.0 next.front) (past_since h.0 last.front)
            event c.wanted.new.conn c.answer.new.conn
            (asking_of setup seat.number (past_since h.0 seat.front) (past_since h.0 next.front)
            event c.loop-event.conn c.wanted.new.conn h.2 (c.in-Some.ensures.wants h.0 h.1))
            (answers h.0 h.1)),
      );
      serves = λ since is.
          let on = since_on since start.front seat.front c.loop-event.invariant.seen is in
          let past = past_since since seat.front in
          let later = past_since since next.front in
          let after = past_since since last.front in
          serves_on setup start.number (past_since since start.front) past later after event
          c.args.conn.now c.loop-event.conn c.wanted.new.conn c.answer.new.conn
          (c.loop-event.invariant.serves since is)
          (subst (λ (n : ℕ). SeatWants setup n past c.loop-event.conn (Some event) later
          c.wanted.new.conn) first (c.in-Some.ensures.wants since on))
          (subst (λ (n : ℕ). SeatAnswers setup n later event c.wanted.new.conn true after
          c.answer.new.conn) first (answers since on));
      peer = λ since is p.
          let on = since_on since start.front seat.front c.loop-event.invariant.seen is in
          c.answer.ensures.peer since
          (since_on since seat.front next.front c.wanted.ensures.seen on)
          (c.wanted.ensures.peer since on (c.loop-event.invariant.peer since is p));
    }

pub loop-event-smaller : goal.loop-event-smaller
loop-event-smaller g c =
    let setup = shared_setup c.args.self.now.shared.now.setup in
    let seat = c.loop-event.seat in
    let next = c.wanted.new.seat in
    let last = c.answer.new.seat in
    let event = c.in-Some.event in
    let h = c.loop-event.invariant.served in
    let later = past_since h.0 next.front in
    let after = past_since h.0 last.front in
    let here = same_number seat next c.wanted.ensures.same in
    let seen = prefix_then seat.front next.front last.front c.wanted.ensures.seen
    c.answer.ensures.seen in
    let answers : SeatAnswers setup seat.number later event c.wanted.new.conn true after
    c.answer.new.conn =
    subst (λ (n : ℕ). SeatAnswers setup n later event c.wanted.new.conn true after
    c.answer.new.conn) here
    (subst (λ (b : Bool). SeatAnswers setup next.number later event c.wanted.new.conn b
    after c.answer.new.conn) c.if-not-answer.false
    (c.answer.ensures.answers h.0
    (since_on h.0 seat.front next.front c.wanted.ensures.seen h.1))) in
    subst (λ (n : ℕ). remaining setup (past_in last.front) n
    < remaining setup (past_in seat.front) seat.number)
    (sym (same_number next last c.answer.ensures.same ∙ here))
    (subst (λ (n : ℕ). remaining setup (past_in last.front) seat.number < n)
    (remains_since setup h.0 seat.front seat.number h.1)
    (subst (λ (n : ℕ). n < remaining setup (past_since h.0 seat.front) seat.number)
    (remains_since setup h.0 last.front seat.number
    (since_on h.0 seat.front last.front seen h.1))
    (taken_less setup seat.number (past_since h.0 seat.front) later after event
    c.loop-event.conn c.wanted.new.conn c.answer.new.conn h.2 (c.in-Some.ensures.wants h.0 h.1)
    answers)))

pub returns-then-not-answer-clause-attended : goal.returns-then-not-answer-clause-attended
returns-then-not-answer-clause-attended g c = λ since is items said s.
    let setup = shared_setup c.args.self.now.shared.now.setup in
    let start = c.args.seat.now in
    let seat = c.loop-event.seat in
    let event = c.in-Some.event in
    let past = past_since since seat.front in
    let next = past_since since c.wanted.new.seat.front in
    let after = past_since since c.answer.new.seat.front in
    let on = since_on since start.front seat.front c.loop-event.invariant.seen is in
    let later = since_on since seat.front c.wanted.new.seat.front c.wanted.ensures.seen on in
    let first = same_number start seat c.loop-event.invariant.same in
    let here = same_number seat c.wanted.new.seat c.wanted.ensures.same ∙ first in
    (attends_cut setup start.number (past_since since start.front) past next after event
    c.args.conn.now c.loop-event.conn c.wanted.new.conn c.answer.new.conn
    (c.loop-event.invariant.serves since is)
    (subst (λ (n : ℕ). SeatWants setup n past c.loop-event.conn (Some event) next
    c.wanted.new.conn) first (c.in-Some.ensures.wants since on))
    (subst (λ (n : ℕ). SeatAnswers setup n next event c.wanted.new.conn false after
    c.answer.new.conn) here
    (subst (λ (b : Bool). SeatAnswers setup c.wanted.new.seat.number next event c.wanted.new.conn b
    after c.answer.new.conn) c.if-not-answer.true (c.answer.ensures.answers since later)))
    items said s).attends

pub returns-then-not-answer-clause-takes : goal.returns-then-not-answer-clause-takes
returns-then-not-answer-clause-takes g c = λ since is items said s.
    let setup = shared_setup c.args.self.now.shared.now.setup in
    let start = c.args.seat.now in
    let seat = c.loop-event.seat in
    let event = c.in-Some.event in
    let past = past_since since seat.front in
    let next = past_since since c.wanted.new.seat.front in
    let after = past_since since c.answer.new.seat.front in
    let on = since_on since start.front seat.front c.loop-event.invariant.seen is in
    let later = since_on since seat.front c.wanted.new.seat.front c.wanted.ensures.seen on in
    let first = same_number start seat c.loop-event.invariant.same in
    let here = same_number seat c.wanted.new.seat c.wanted.ensures.same ∙ first in
    (attends_cut setup start.number (past_since since start.front) past next after event
    c.args.conn.now c.loop-event.conn c.wanted.new.conn c.answer.new.conn
    (c.loop-event.invariant.serves since is)
    (subst (λ (n : ℕ). SeatWants setup n past c.loop-event.conn (Some event) next
    c.wanted.new.conn) first (c.in-Some.ensures.wants since on))
    (subst (λ (n : ℕ). SeatAnswers setup n next event c.wanted.new.conn false after
    c.answer.new.conn) here
    (subst (λ (b : Bool). SeatAnswers setup c.wanted.new.seat.number next event c.wanted.new.conn b
    after c.answer.new.conn) c.if-not-answer.true (c.answer.ensures.answers since later)))
    items said s).takes

pub returns-clause-attended : goal.returns-clause-attended
returns-clause-attended g c = λ since is items said s.
    let setup = shared_setup c.args.self.now.shared.now.setup in
    let start = c.args.seat.now in
    let seat = c.loop-event.seat in
    let past = past_since since seat.front in
    let after = past_since since c.wanted.new.seat.front in
    let on = since_on since start.front seat.front c.loop-event.invariant.seen is in
    let first = same_number start seat c.loop-event.invariant.same in
    (attends_through setup start.number (past_since since start.front) past after
    c.args.conn.now c.loop-event.conn c.wanted.new.conn (c.loop-event.invariant.serves since is)
    (subst (λ (n : ℕ). SeatWants setup n past c.loop-event.conn None after c.wanted.new.conn) first
    (subst (λ (e : Option EventKind). SeatWants setup seat.number past c.loop-event.conn e after
    c.wanted.new.conn) c.in_default.is (c.wanted.ensures.wants since on))) items said s).attends

pub returns-clause-takes : goal.returns-clause-takes
returns-clause-takes g c = λ since is items said s.
    let setup = shared_setup c.args.self.now.shared.now.setup in
    let start = c.args.seat.now in
    let seat = c.loop-event.seat in
    let past = past_since since seat.front in
    let after = past_since since c.wanted.new.seat.front in
    let on = since_on since start.front seat.front c.loop-event.invariant.seen is in
    let first = same_number start seat c.loop-event.invariant.same in
    (attends_through setup start.number (past_since since start.front) past after
    c.args.conn.now c.loop-event.conn c.wanted.new.conn (c.loop-event.invariant.serves since is)
    (subst (λ (n : ℕ). SeatWants setup n past c.loop-event.conn None after c.wanted.new.conn) first
    (subst (λ (e : Option EventKind). SeatWants setup seat.number past c.loop-event.conn e after
    c.wanted.new.conn) c.in_default.is (c.wanted.ensures.wants since on))) items said s).takes

pub returns-then-not-answer-clause-peer : goal.returns-then-not-answer-clause-peer
returns-then-not-answer-clause-peer g c = λ since is p.
    let seat = c.loop-event.seat in
    let on = since_on since c.args.seat.now.front seat.front c.loop-event.invariant.seen is in
    c.answer.ensures.peer since
    (since_on since seat.front c.wanted.new.seat.front c.wanted.ensures.seen on)
    (c.wanted.ensures.peer since on (c.loop-event.invariant.peer since is p))

pub returns-clause-peer : goal.returns-clause-peer
returns-clause-peer g c = λ since is p.
    c.wanted.ensures.peer since
    (since_on since c.args.seat.now.front c.loop-event.seat.front c.loop-event.invariant.seen is)
    (c.loop-event.invariant.peer since is p)
