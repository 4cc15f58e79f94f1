-- What waits was sent, as far as the link takes it, and how a turn ends by that.
use Rattle.std.proofs.Common.{◌≡◌, ℕ, Bool, true, false, List, [], ◌++◌}
use Rattle.std.proofs.Common.{Option, Some, None, refl, sym, ap, subst, ◌∙◌, inl, inr, append_assoc}
use Rattle.std.specs.Prelude.{◌⊎◌}
use Rattle.std.proofs.lemmas.List.{append-nil}
use Rattle.outside.specs.Links.LinkAnswers.{LinkAnswer, LinkAnswers}
use Rattle.outside.specs.Links.Links.{LinkTold}
use Rattle.tase_conn.specs.declared.stage.ConnEnd.{ConnEnd}
use Rattle.tase_conn.specs.declared.stage.ConnEnd.TheVariants as conn_ends
use Rattle.tase_conn.specs.declared.stage.PendingEvent.TheVariants as askeds
use Rattle.tase_conn.specs.declared.stage.Progress.TheVariants as progresses
use Rattle.tase_conn.specs.Talking.{Talking, pending_of, stage_peer, IsResting, IsFree}
use Rattle.tase_conn.specs.Places.{KeepsPlace}
use Rattle.tase_conn.specs.Taken.{SendsSome}
use Rattle.conn_service.specs.Courses.Serving.{Serves}
use Rattle.conn_service.proofs.OfCourses.Resumed.{sent_serves}
use Rattle.conn_service.specs.Sends.{Sends}
use Rattle.node_server.specs.declared.turn.turn_node.NodeSetup.{NodeSetup}
use Rattle.node_server.specs.Turn.Logged.{past_in}
use Rattle.node_server.specs.NodeCalls.{NodeLog}
use Rattle.node_server.specs.Seats.Serving.{shared_setup}
use Rattle.node_server.specs.Links.GivenItems.{items_of}
use Rattle.node_server.specs.Links.LinkUses.{HasHeard, UsesLink, IsUntaken}
use Rattle.node_server.specs.Links.Sending.{SendsPending, is_failed_end, IsLeftBySends}
use Rattle.node_server.specs.Links.ServedLinks.{ServesUpTo, WaitAtEnd, HasFailedFor, limit_over}
use Rattle.node_server.specs.Links.Turns.{IsToSend, IsToSendBy, IsInTurn, IsStuck, HasCome, IsOwnEnd}
use Rattle.node_server.specs.Links.Leaving.{IsToLeave}
use Rattle.node_server.specs.declared.links.sending.SendsEnd.{SendsEnd}
use Rattle.node_server.specs.declared.links.sending.SendsEnd.TheVariants.{AllTaken, NoneTaken, Failed}
use Rattle.node_server.proofs.OfLinks.Uses.{uses_then, heard_then}

-- ---- by its end

own_fails : (end : ConnEnd) (has_failed : Bool) → IsOwnEnd end → HasFailedFor end has_failed
own_fails conn_ends.LinkFault has_failed is = absurd is
own_fails (conn_ends.Overflow pending limit) has_failed is = tt
own_fails conn_ends.Finished has_failed is = tt
own_fails conn_ends.PeerEnd has_failed is = tt
own_fails conn_ends.Declined has_failed is = tt
own_fails (conn_ends.Refused fault) has_failed is = tt
own_fails (conn_ends.TooLong len detail) has_failed is = tt
own_fails conn_ends.Stopped has_failed is = tt
own_fails (conn_ends.Full weight limit) has_failed is = tt
own_fails conn_ends.Memory has_failed is = tt

own_waits : (end : ConnEnd) (most : ℕ) (link : LinkTold) (now : LinkAnswers) (waiting : List ℕ)
    → IsOwnEnd end → ((waiting ≡ []) ⊎ IsUntaken link) → WaitAtEnd end most link now waiting
own_waits conn_ends.LinkFault most link now waiting is so = absurd is
own_waits (conn_ends.Overflow pending limit) most link now waiting is so = absurd is
own_waits conn_ends.Finished most link now waiting is so = so
own_waits conn_ends.PeerEnd most link now waiting is so = so
own_waits conn_ends.Declined most link now waiting is so = so
own_waits (conn_ends.Refused fault) most link now waiting is so = so
own_waits (conn_ends.TooLong len detail) most link now waiting is so = so
own_waits conn_ends.Stopped most link now waiting is so = so
own_waits (conn_ends.Full weight limit) most link now waiting is so = so
own_waits conn_ends.Memory most link now waiting is so = so

-- how the sends have left it
waits_by : (end : SendsEnd) (link : LinkTold) (now : LinkAnswers) (v : Talking)
    → IsLeftBySends end link now v → (pending_of v ≡ []) ⊎ IsUntaken link
waits_by AllTaken link now v left = inl left
waits_by NoneTaken link now v left = inr left.0
waits_by Failed link now v left = inr left

-- what had been taken, what waited, and what was taken of that
taken_on : (taken sent waited now : List ℕ) → waited ≡ sent ++ now
    → taken ++ waited ≡ (taken ++ sent) ++ now
taken_on taken sent waited now is =
    ap (λ (l : List ℕ). taken ++ l) is ∙ sym (append_assoc taken sent now)

-- ---- the link

module _ (start used after : LinkTold) (first mid now : LinkAnswers) (given : List LinkAnswer)
    (taken more : List ℕ) (has_failed : Bool) where
  -- it was used, and then octets were sent
  pub used_on : UsesLink start used first mid given taken false
      → UsesLink used after mid now [] more has_failed
      → UsesLink start after first now given (taken ++ more) has_failed
  used_on uses then = subst (λ (l : List LinkAnswer). UsesLink start after first now l
      (taken ++ more) has_failed) (append-nil given)
      (uses_then start used after first mid now given [] taken more has_failed uses then)

-- what a turn's sends do, whatever the link has heard before
abbrev pub SendsOut : LinkTold → LinkTold → Talking → Talking → SendsEnd → Type 0
SendsOut used after v new sends =
    (first : LinkAnswers) → HasHeard used first → SendsPending used after first v new sends

-- ---- a connection that has ended

module _ (setup : NodeSetup) (who : ℕ) (log : NodeLog) (start used after : LinkTold)
    (v new : Talking) where
  come_served : (end : ConnEnd) (sends : SendsEnd) → (h : HasCome setup who log start used v end)
      → SendsPending used after h.now v new sends → ServesUpTo setup who log start after end
  come_served end sends h s = record {
    given = h.given;
    taken = h.taken ++ s.taken;
    waiting = pending_of new;
    first = h.first;
    now = s.now;
    has_failed = is_failed_end sends;
    uses = used_on start used after h.first h.now s.now h.given h.taken s.taken
        (is_failed_end sends) h.uses s.uses;
    failed = own_fails end (is_failed_end sends) h.own_end;
    acted = h.acted;
    acted_is = h.acted_is;
    sends = subst (λ (l : List ℕ). Sends (shared_setup setup) (past_in log) who h.acted (Some end)
        l) (taken_on h.taken s.taken (pending_of v) (pending_of new) s.waited) h.sends;
    in_turn = h.in_turn;
    waits = own_waits end (limit_over setup.centre (past_in log) who) after s.now (pending_of new)
        h.own_end (waits_by sends after s.now new s.left);
  }

  -- the end that has come stays, whatever the link takes of what is to be sent
  pub ended_served : (ended : Option ConnEnd) (end : ConnEnd) (sends : SendsEnd)
      → ended ≡ Some end → SendsOut used after v new sends
      → IsToSendBy ended setup who log start used v → ServesUpTo setup who log start after end
  ended_served ended end sends is out h =
      let come : HasCome setup who log start used v end =
      subst (λ (o : Option ConnEnd). IsToSendBy o setup who log start used v) is h in
      come_served end sends come (out come.now (heard_then start used come.first come.now
      come.given come.taken false come.uses))

  pub to_send : (ended : Option ConnEnd) → ended ≡ None
      → IsToSendBy ended setup who log start used v → IsToSend setup who log start used v
  to_send ended is h = subst (λ (o : Option ConnEnd). IsToSendBy o setup who log start used v) is h

-- ---- a connection that goes on

-- what waited was sent, as far as the link took it
module _ (setup : NodeSetup) (who : ℕ) (log : NodeLog) (start used after : LinkTold)
    (v new : Talking) (t : IsToSend setup who log start used v) where
  abbrev pub sends_of : (sends : SendsEnd) → SendsOut used after v new sends
      → SendsPending used after t.way.now v new sends
  sends_of sends out = out t.way.now (heard_then start used t.way.first t.way.now t.way.given
      t.way.taken false t.way.uses)

  pub serves_on : (taken : List ℕ) → pending_of v ≡ taken ++ pending_of new → KeepsPlace v new
      → SendsSome v new → Serves setup.centre (past_in log) who (items_of t.way.given)
      ((t.way.taken ++ taken) ++ pending_of new) None new
  serves_on taken waited stands same =
      let w = t.way in
      let past = past_in log in
      let items = items_of w.given in
      subst (λ (l : List ℕ). Serves setup.centre past who items l None new)
      (taken_on w.taken taken (pending_of v) (pending_of new) waited)
      (sent_serves setup.centre past who items (w.taken ++ pending_of v) None v new w.serves
      (stands setup.centre items w.serves.told w.serves.turns w.serves.stands) same)

  pub running_on : SendsSome v new → new.progress ≡ progresses.Running askeds.Nothing
  running_on same = ap (λ (x : Talking). x.progress) same ∙ t.way.running

  pub rests_on : SendsSome v new → IsResting new
  rests_on same = record {
    read = ap (λ (x : Talking). x.behind) same ∙ t.resting.read;
    acted = ap (λ (x : Talking). x.held) same ∙ t.resting.acted;
    free = subst IsFree (sym (ap (λ (x : Talking). x.progress) same)) t.resting.free;
  }

  -- none of the sends has failed
  abbrev pub to_send_on : (now : LinkAnswers) (taken : List ℕ)
      → UsesLink used after t.way.now now [] taken false
      → pending_of v ≡ taken ++ pending_of new → KeepsPlace v new → SendsSome v new
      → IsToSend setup who log start after new
  to_send_on now taken uses waited stands same =
      let w = t.way in record {
        way = record {
          given = w.given;
          taken = w.taken ++ taken;
          first = w.first;
          now = now;
          uses = used_on start used after w.first w.now now w.given w.taken taken false w.uses uses;
          has_given = w.has_given;
          serves = serves_on taken waited stands same;
          in_turn = w.in_turn;
          running = running_on same;
          peer = ap (λ (x : Talking). stage_peer x.stage) same ∙ w.peer;
        };
        more = t.more;
        resting = rests_on same;
      }

  pub all_taken : SendsOut used after v new AllTaken → IsInTurn setup who log start after new
  all_taken out =
      let s = sends_of AllTaken out in record {
        stands = to_send_on s.now s.taken s.uses s.waited s.stands s.same;
        even = inl s.left;
      }

  pub none_taken : SendsOut used after v new NoneTaken → IsStuck setup who log start after new
  none_taken out =
      let s = sends_of NoneTaken out in record {
        stands = to_send_on s.now s.taken s.uses s.waited s.stands s.same;
        nothing = s.left.1;
        untaken = s.left.0;
      }

  -- a send has failed: it is to be given up
  pub sends_failed : SendsOut used after v new Failed
      → IsToLeave setup who log start after new conn_ends.LinkFault
  sends_failed out =
      let w = t.way in
      let s = sends_of Failed out in record {
        by_server = tt;
        given = w.given;
        taken = w.taken ++ s.taken;
        first = w.first;
        now = s.now;
        has_failed = true;
        uses = used_on start used after w.first w.now s.now w.given w.taken s.taken true w.uses
            s.uses;
        failed = refl;
        acted = items_of w.given;
        acted_is = refl;
        serves = serves_on s.taken s.waited s.stands s.same;
        running = running_on s.same;
        rests = rests_on s.same;
        in_turn = w.in_turn;
        waits = tt;
      }
