-- A connection that is given up: what was said to its peer, and that its link was served so far.
use Rattle.std.proofs.Common.{◌≡◌, ℕ, Bool, true, false, List, [], ◌++◌, Some, refl, sym, ap}
use Rattle.std.proofs.Common.{subst, ◌∙◌, inr, append_assoc, Option}
use Rattle.std.specs.Prelude.{if◌then◌else◌}
use mathlib.Core.List.{IsPrefix}
use Rattle.bilateral.specs.Rows.{CentreRows}
use Rattle.sbo_device.specs.declared.key.Key.{Key}
use Rattle.outside.specs.Links.Links.{LinkTold}
use Rattle.tase_views.specs.Setup.{Setup}
use Rattle.tase_views.specs.History.{Past}
use Rattle.tase_views.specs.declared.event.EventKind.TheVariants as events
use Rattle.tase_conn.specs.Map.Inputs.{Item}
use Rattle.tase_conn.specs.Map.Sent.{with_event}
use Rattle.tase_conn.specs.Map.Linked.{opened_in, link_octets}
use Rattle.tase_conn.specs.declared.stage.ConnEnd.{ConnEnd}
use Rattle.tase_conn.specs.declared.stage.ConnEnd.TheVariants as conn_ends
use Rattle.tase_conn.specs.Talking.{Talking, pending_of}
use Rattle.conn_service.specs.Courses.Serving.{AreOthers}
use Rattle.conn_service.proofs.OfCourses.Seats.{others_opened, opened_here}
use Rattle.conn_service.specs.Sends.{Sends, IsSaidByEnd, IsFrontOf}
use Rattle.node_server.specs.declared.turn.turn_node.NodeSetup.{NodeSetup}
use Rattle.node_server.specs.Turn.Logged.{past_in}
use Rattle.node_server.specs.NodeCalls.{NodeLog}
use Rattle.node_server.specs.Seats.Serving.{shared_setup, IsCutBySeat, IsShut}
use Rattle.node_server.specs.Seats.Peers.{limit_of}
use Rattle.node_server.specs.Links.LinkUses.{UsesLink}
use Rattle.node_server.specs.Links.ServedLinks.{HasFailedFor, ServesUpTo, WaitAtEnd, limit_over}
use Rattle.node_server.specs.Links.Turns.{HasCome}
use Rattle.node_server.specs.Links.Leaving.{IsToLeave, IsLeftFor}
use Rattle.node_server.proofs.OfLinks.InTurn.{came_later}

-- ---- the octets

-- an end for its link: that has failed, or takes too little
abbrev pub IsLinksEnd : ConnEnd → Type 0
IsLinksEnd conn_ends.LinkFault = Unit {0}
IsLinksEnd (conn_ends.Overflow pending limit) = Unit {0}
IsLinksEnd end = ⊥

-- what stands in front does so with fewer octets too
front_fewer : (front more all : List ℕ) → IsFrontOf (front ++ more) all → IsFrontOf front all
front_fewer front more all f = record {
  others = more ++ f.others;
  are = f.are ∙ append_assoc front more f.others;
}

said_fewer : (items : List Item) (end : ConnEnd) (said added all : List ℕ) → IsLinksEnd end
    → IsSaidByEnd items (Some end) (said ++ added) all → IsSaidByEnd items (Some end) said all
said_fewer items conn_ends.LinkFault said added all is s = front_fewer said added all s
said_fewer items (conn_ends.Overflow pending limit) said added all is s =
    front_fewer said added all s
said_fewer items conn_ends.Finished said added all is s = absurd is
said_fewer items conn_ends.PeerEnd said added all is s = absurd is
said_fewer items conn_ends.Declined said added all is s = absurd is
said_fewer items (conn_ends.Refused fault) said added all is s = absurd is
said_fewer items (conn_ends.TooLong len detail) said added all is s = absurd is
said_fewer items conn_ends.Stopped said added all is s = absurd is
said_fewer items (conn_ends.Full weight limit) said added all is s = absurd is
said_fewer items conn_ends.Memory said added all is s = absurd is

-- what was said before it was given up for its link, and no octet of what was added then
pub left_sends : (setup : Setup) (who : ℕ) (items : List Item) (said : List ℕ) (end : ConnEnd)
    (old : Talking) (after : Past) (new : Talking) → IsLinksEnd end
    → IsCutBySeat setup who items said end old after new
    → Sends setup after who items (Some end) said
left_sends setup who items said end old after new is c = record {
  events = inr (end, refl, c.off);
  said = said_fewer items end said c.adds.added (link_octets setup.centre after who items) is
      c.said_is;
}

-- what was said before it was given up, and what was added then: what is to be said goes on
pub cut_sends : (setup : Setup) (who : ℕ) (items : List Item) (taken before : List ℕ)
    (end : ConnEnd) (old : Talking) (after : Past) (new : Talking) → pending_of old ≡ before
    → IsCutBySeat setup who items (taken ++ before) end old after new
    → Sends setup after who items (Some end) (taken ++ pending_of new)
cut_sends setup who items taken before end old after new is c = record {
  events = inr (end, refl, c.off);
  said = subst (λ (l : List ℕ). IsSaidByEnd items (Some end) l
      (link_octets setup.centre after who items))
      (append_assoc taken before c.adds.added
      ∙ ap (λ (l : List ℕ). taken ++ l)
      (sym (c.adds.pending ∙ ap (λ (l : List ℕ). l ++ c.adds.added) is)))
      c.said_is;
}

-- ---- how many octets may wait

shut_by : (b : Bool) (others past : Past) (who : ℕ) → AreOthers who others
    → opened_in (if b then with_event who events.Close (others ++ past) else past) who
    ≡ opened_in past who
shut_by true others past who apart =
    opened_here events.Close (others ++ past) who ∙ others_opened who others past apart
shut_by false others past who apart = refl

-- as many may as before its association was closed
pub shut_limit : (rows : CentreRows) (past after : Past) (who : ℕ) → IsShut who past after
    → limit_over rows past who ≡ limit_over rows after who
shut_limit rows past after who h =
    ap (λ (key : Option Key). limit_of rows key)
    (sym (ap (λ (p : Past). opened_in p who) h.after_is ∙ shut_by _ h.others past who h.apart))

-- ---- what its link was served

module _ (setup : NodeSetup) (who : ℕ) (log longer : NodeLog) (start used : LinkTold)
    (v new : Talking) (more : IsPrefix log longer)
    (shut : IsShut who (past_in log) (past_in longer)) where
  -- up to an end for the link
  left_served : (end : ConnEnd) → IsLinksEnd end
      → (h : IsToLeave setup who log start used v end) → HasFailedFor end h.has_failed
      → WaitAtEnd end (limit_over setup.centre (past_in log) who) used h.now (pending_of v)
      → IsCutBySeat (shared_setup setup) who h.acted (h.taken ++ pending_of v) end v
      (past_in longer) new
      → ServesUpTo setup who longer start used end
  left_served end is h failed waits c = record {
    given = h.given;
    taken = h.taken;
    waiting = pending_of v;
    first = h.first;
    now = h.now;
    has_failed = h.has_failed;
    uses = h.uses;
    failed = failed;
    acted = h.acted;
    acted_is = h.acted_is;
    sends = left_sends (shared_setup setup) who h.acted (h.taken ++ pending_of v) end v
        (past_in longer) new is c;
    in_turn = came_later setup.centre who h.first.sent log longer [] h.given more h.in_turn;
    waits = subst (λ (most : ℕ). WaitAtEnd end most used h.now (pending_of v))
        (shut_limit setup.centre (past_in log) (past_in longer) who shut) waits;
  }

  -- up to want of memory
  left_come : (h : IsToLeave setup who log start used v conn_ends.Memory)
      → IsCutBySeat (shared_setup setup) who h.acted (h.taken ++ pending_of v) conn_ends.Memory v
      (past_in longer) new
      → HasCome setup who longer start used new conn_ends.Memory
  left_come h c = record {
    given = h.given;
    taken = h.taken;
    first = h.first;
    now = h.now;
    uses = subst (λ (b : Bool). UsesLink start used h.first h.now h.given h.taken b) h.failed
        h.uses;
    own_end = tt;
    acted = h.acted;
    acted_is = h.acted_is;
    sends = cut_sends (shared_setup setup) who h.acted h.taken (pending_of v) conn_ends.Memory v
        (past_in longer) new refl c;
    in_turn = came_later setup.centre who h.first.sent log longer [] h.given more h.in_turn;
  }

  -- up to whichever of these
  pub left_for : (end : ConnEnd) → (h : IsToLeave setup who log start used v end)
      → IsCutBySeat (shared_setup setup) who h.acted (h.taken ++ pending_of v) end v
      (past_in longer) new
      → IsLeftFor end setup who longer start used new
  left_for conn_ends.LinkFault h c = left_served conn_ends.LinkFault tt h h.failed h.waits c
  left_for (conn_ends.Overflow pending limit) h c =
      left_served (conn_ends.Overflow pending limit) tt h tt h.waits c
  left_for conn_ends.Memory h c = left_come h c
  left_for conn_ends.Finished h c = absurd h.by_server
  left_for conn_ends.PeerEnd h c = absurd h.by_server
  left_for conn_ends.Declined h c = absurd h.by_server
  left_for (conn_ends.Refused fault) h c = absurd h.by_server
  left_for (conn_ends.TooLong len detail) h c = absurd h.by_server
  left_for conn_ends.Stopped h c = absurd h.by_server
  left_for (conn_ends.Full weight limit) h c = absurd h.by_server
