use Rattle.std.proofs.Common.{◌≡◌, ◌≤◌, length}
use Rattle.share_turn.specs.Entries.{Each}
use Rattle.share_turn.specs.Public.{IsOf}
use Rattle.server_main.specs.Run.Retiring.{AreOut}
use Rattle.server_main.specs.Run.Gathering.{IsLinkJob, FinishesLinks, Gathering, gathering}
use Rattle.server_main.proofs.run.gathering.Gatherer.finish_links.Given as goal

abbrev pub invariant-loop-done : goal.invariant-loop-done
invariant-loop-done g l = record {
  of : IsOf l.fn.self.shared.now l.seat;
  jobs : Each (IsLinkJob g.N.Link.Link.told l.fn.self.shared.now)
      l.spawner.told.pending;
  rooms : length l.spawner.told.pending ≤ l.links.rooms;
  out : AreOut (length l.spawner.told.pending) (g.N.Listener.told l.listener);
  same : l.initial.spawner.told ≡ record l.spawner.told
      { pending = l.initial.spawner.told.pending };
  goes : (after : Gathering)
      → FinishesLinks l.fn.self.shared.now (length l.spawner.told.pending)
      (gathering l.seat (g.N.Listener.told l.listener) l.links) after
      → FinishesLinks l.fn.self.shared.now (length l.initial.spawner.told.pending)
      (gathering l.initial.seat (g.N.Listener.told l.initial.listener) l.initial.links) after;
}

abbrev pub decreases-loop-done : goal.decreases-loop-done
decreases-loop-done g l = length l.spawner.told.pending
