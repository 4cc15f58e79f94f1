-- What is owed to the peer of a connection that a seat has served or left.
use Rattle.std.proofs.Common.{ℕ, List, ◌++◌, refl, sym, subst, inl, inr}
use Rattle.tase_views.specs.Setup.{Setup}
use Rattle.tase_views.specs.History.{Past}
use Rattle.tase_conn.specs.Map.Inputs.{Item}
use Rattle.tase_conn.specs.Map.Linked.{link_octets}
use Rattle.tase_conn.specs.declared.stage.ConnEnd.{ConnEnd}
use Rattle.tase_conn.specs.declared.stage.Progress.{Progress}
use Rattle.tase_conn.specs.Talking.{Talking, conn_end_in}
use Rattle.conn_service.specs.Sends.{Sends, IsSaidByEnd}
use Rattle.conn_service.specs.Attending.{SendsOn}
use Rattle.conn_service.proofs.Closed.{said_whole}
use Rattle.node_server.specs.Seats.Serving.{RestsServed, IsCutBySeat, SeatAttends}

pub rests_sends : (setup : Setup) (who : ℕ) (items : List Item) (said : List ℕ) (old : Talking)
    (after : Past) (new : Talking) → RestsServed setup who items said old after new
    → SendsOn setup who items said old after new
rests_sends setup who items said old after new r =
    let end = conn_end_in new.progress in
    record {
      adds = r.adds;
      sends = record {
        events = inl (record { events = r.events; by_peer = sym r.end });
        said = subst (λ (os : List ℕ). IsSaidByEnd items end os
            (link_octets setup.centre after who items)) (sym r.octets)
            (said_whole items end (link_octets setup.centre after who items));
      };
    }

pub cut_sends : (setup : Setup) (who : ℕ) (items : List Item) (said : List ℕ) (end : ConnEnd)
    (old : Talking) (after : Past) (new : Talking)
    → IsCutBySeat setup who items said end old after new
    → SendsOn setup who items said old after new
cut_sends setup who items said end old after new c = record {
  adds = c.adds;
  sends = subst (λ (p : Progress). Sends setup after who items (conn_end_in p)
      (said ++ c.adds.added)) (sym c.ended)
      (record { events = inr (end, refl, c.off); said = c.said_is });
}

pub attends_sends : (setup : Setup) (who : ℕ) (items : List Item) (said : List ℕ) (old : Talking)
    (after : Past) (new : Talking) → SeatAttends setup who items said old after new
    → SendsOn setup who items said old after new
attends_sends setup who items said old after new (inl r) =
    rests_sends setup who items said old after new r
attends_sends setup who items said old after new (inr c) =
    cut_sends setup who items said c.0 old after new c.2
