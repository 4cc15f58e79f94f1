-- Each answer of a link came once all that was due before it had been taken.
use Rattle.std.proofs.Common.{◌≡◌, ℕ, ◌+◌, ◌≤◌, true, List, [], ◌∷◌, ◌++◌, length}
use Rattle.std.proofs.Common.{refl, sym, ap, subst, ◌∙◌, inl, inr, append_assoc, arith}
use Rattle.std.proofs.Common.{length-append}
use Rattle.std.specs.Prelude.{◌⊎◌}
use Rattle.std.proofs.lemmas.List.{append-nil}
use mathlib.Core.List.{IsPrefix}
use Rattle.bilateral.specs.Rows.{CentreRows}
use Rattle.outside.specs.Links.LinkAnswers.{Received, LinkAnswer, LinkAnswers, next_answer}
use Rattle.outside.specs.Links.Links.{LinkTold}
use Rattle.tase_conn.specs.Talking.{Talking, pending_of}
use Rattle.conn_service.specs.Courses.Serving.{HasServed}
use Rattle.conn_service.proofs.OfCourses.Served.{has_served}
use Rattle.tase_conn.specs.Map.Linked.{link_octets}
use Rattle.node_server.specs.declared.turn.turn_node.NodeSetup.{NodeSetup}
use Rattle.node_server.specs.Turn.Logged.{past_in}
use Rattle.node_server.specs.NodeCalls.{NodeLog}
use Rattle.node_server.proofs.Calling.{prefix-then}
use Rattle.node_server.specs.Links.GivenItems.{items_of}
use Rattle.node_server.specs.Links.ServedLinks.{HasTaken, CameInTurn, CameBehind, limit_over}
use Rattle.node_server.specs.Links.Turns.{IsInTurn}

module _ (rows : CentreRows) (who start : ℕ) where
  -- over a longer history
  pub came_later : (log longer : NodeLog) (before given : List LinkAnswer) → IsPrefix log longer
      → CameBehind rows who start log before given → CameBehind rows who start longer before given
  came_later log longer before [] more all = tt
  came_later log longer before (answer ∷ given) more all = (
    record {
      more = all.0.more;
      seen = all.0.seen;
      is_front = prefix-then all.0.seen log longer all.0.is_front more;
      asked = all.0.asked;
      taken = all.0.taken;
    },
    came_later log longer (before ++ answer ∷ []) given more all.1,
  )

  -- one answer more
  pub came_push : (log : NodeLog) (before given : List LinkAnswer) (answer : LinkAnswer)
      → CameBehind rows who start log before given
      → CameInTurn rows who start log (before ++ given) answer
      → CameBehind rows who start log before (given ++ answer ∷ [])
  came_push log before [] answer all one = (
    subst (λ (l : List LinkAnswer). CameInTurn rows who start log l answer) (append-nil before) one,
    tt,
  )
  came_push log before (first ∷ given) answer all one = (
    all.0,
    came_push log (before ++ first ∷ []) given answer all.1
        (subst (λ (l : List LinkAnswer). CameInTurn rows who start log l answer)
        (sym (append_assoc before (first ∷ []) given)) one),
  )

-- the next answer comes in turn
pub came_next : (setup : NodeSetup) (who : ℕ) (log : NodeLog) (link used : LinkTold) (v : Talking)
    (t : IsInTurn setup who log link used v) (received : Received)
    → CameInTurn setup.centre who t.stands.way.first.sent log t.stands.way.given
    (next_answer received t.stands.way.now)
came_next setup who log link used v t received =
    let w = t.stands.way in
    let past = past_in log in
    let h : HasServed setup.centre past who (items_of w.given) (w.taken ++ pending_of v) =
    has_served setup.centre past who (items_of w.given) (w.taken ++ pending_of v) v w.serves
    t.stands.resting in
    let due = length (link_octets setup.centre past who (items_of w.given)) in
    let size : length w.taken + length (pending_of v) ≡ due =
    sym (length-append w.taken (pending_of v)) ∙ ap length h.octets in record {
      more = t.stands.more;
      seen = log;
      is_front = ([], append-nil log);
      asked = h.asked;
      taken = by (next_answer received w.now) w.first.sent due (limit_over setup.centre past who)
          (length w.taken) w.now refl refl w.uses.sent (pending_of v) size t.even;
    }
  where
    by : (answer : LinkAnswer) (start due most count : ℕ) (now : LinkAnswers)
        → answer.sent ≡ now.sent → answer.after_nothing ≡ now.after_nothing
        → now.sent ≡ start + count
        → (pending : List ℕ) → count + length pending ≡ due
        → ((pending ≡ []) ⊎ ((now.after_nothing ≡ true) × (length pending ≤ most)))
        → HasTaken start due most answer
    by answer start due most count now sent nothing is pending size (inl none) =
        inl (omega (arith, sent, is, size, ap length none))
    by answer start due most count now sent nothing is pending size (inr e) =
        inr (nothing ∙ e.0, omega (arith, sent, is, size, e.1))
