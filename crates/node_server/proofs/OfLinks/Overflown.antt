-- A link takes nothing now: whether more waits than may.
use Rattle.std.proofs.Common.{◌≡◌, ℕ, ◌≤◌, ◌<◌, false, List, [], ◌∷◌, ◌++◌, length}
use Rattle.std.proofs.Common.{refl, sym, ap, subst, ◌∙◌, inr}
use Rattle.std.proofs.lemmas.List.{append-nil}
use Rattle.outside.specs.Links.Links.{LinkTold}
use Rattle.tase_conn.specs.declared.stage.ConnEnd.TheVariants as conn_ends
use Rattle.tase_conn.specs.declared.stage.Progress.{Progress}
use Rattle.tase_conn.specs.Talking.{Talking, pending_of, next_pending, first_filled}
use Rattle.tase_conn.specs.Answering.{limit_at}
use Rattle.tase_conn.specs.Places.{IsPlaced, RoomBy, HasAbortRoom}
use Rattle.node_server.specs.declared.turn.turn_node.NodeSetup.{NodeSetup}
use Rattle.node_server.specs.Turn.Logged.{past_in}
use Rattle.node_server.specs.NodeCalls.{NodeLog}
use Rattle.node_server.proofs.OfSeats.Peers.{peer_limit}
use Rattle.node_server.specs.Links.GivenItems.{items_of}
use Rattle.node_server.specs.Links.ServedLinks.{limit_over}
use Rattle.node_server.specs.Links.Turns.{IsUnderWay, IsInTurn, IsStuck}
use Rattle.node_server.specs.Links.Leaving.{IsToLeave}

next_all : (out farewell : List ℕ) → farewell ≡ [] → first_filled out farewell ≡ out ++ farewell
next_all [] farewell none = refl
next_all (octet ∷ out) farewell none = sym (append-nil (octet ∷ out))
    ∙ ap (λ (l : List ℕ). (octet ∷ out) ++ l) (sym none)

module _ (setup : NodeSetup) (who : ℕ) (log : NodeLog) (start used : LinkTold) (v : Talking) where
  module _ (w : IsUnderWay setup who log start used v) where
    limit_is : limit_at v.rows v.stage ≡ limit_over setup.centre (past_in log) who
    limit_is = peer_limit setup.centre (past_in log) who v w.serves.stands.rows_are w.peer

    waiting_is : next_pending v ≡ pending_of v
    waiting_is =
        let room : HasAbortRoom v =
        subst (λ (p : Progress). RoomBy p v) w.running w.serves.stands.room in
        next_all v.out v.farewell.items room.unsaid

  pub stuck_placed : IsStuck setup who log start used v → IsPlaced v
  stuck_placed t = record {
    rows = setup.centre;
    items = items_of t.stands.way.given;
    told = t.stands.way.serves.told;
    turns = t.stands.way.serves.turns;
    stands = t.stands.way.serves.stands;
  }

  -- no more waits than may
  pub waits_on : (t : IsStuck setup who log start used v)
      → length (next_pending v) ≤ limit_at v.rows v.stage → IsInTurn setup who log start used v
  waits_on t few =
      let w = t.stands.way in record {
        stands = t.stands;
        even = inr (
          t.nothing,
          subst (λ (n : ℕ). length (pending_of v) ≤ n) (limit_is w)
              (subst (λ (l : List ℕ). length l ≤ limit_at v.rows v.stage) (waiting_is w) few),
        );
      }

  -- more waits: it is to be given up
  pub overflown : (t : IsStuck setup who log start used v) (pending limit : ℕ)
      → pending ≡ length (next_pending v) → limit ≡ limit_at v.rows v.stage → limit < pending
      → IsToLeave setup who log start used v (conn_ends.Overflow pending limit)
  overflown t pending limit count most over =
      let w = t.stands.way in record {
        by_server = over;
        given = w.given;
        taken = w.taken;
        first = w.first;
        now = w.now;
        has_failed = false;
        uses = w.uses;
        failed = refl;
        acted = items_of w.given;
        acted_is = refl;
        serves = w.serves;
        running = w.running;
        rests = t.stands.resting;
        in_turn = w.in_turn;
        waits =
            (count ∙ ap length (waiting_is w), most ∙ limit_is w, over, t.untaken, t.nothing);
      }
