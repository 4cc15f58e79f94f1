use Rattle.std.proofs.Common.{◌≡◌, ◌<◌, ℕ, length}
use Rattle.bilateral.specs.declared.rows.Table.{Table}
use Rattle.bilateral.specs.declared.rows.TheConstants.{SLOT_LIMIT}
use Rattle.transfer_sets.specs.Banks.{slot_at}
use Rattle.transfer_sets.specs.NextDue.{IsNextMoment}
use Rattle.transfer_sets.specs.DueIndex.{next_at}
use Rattle.node_core.specs.Feeds.Indexed.{HasWatchRoom}
use Rattle.node_core.proofs.OfFeeds.Indexes.{IsWatchTo}
use Rattle.node_core.proofs.feeds.index.PeerIndex.rebuild.Given as goal

abbrev pub invariant-loop-slot : goal.invariant-loop-slot
invariant-loop-slot l = record {
  many : length l.self.dues ≡ SLOT_LIMIT;
  dues : (s : ℕ) → s < l.slot
      → IsNextMoment (slot_at l.bank s).state l.now (next_at l.self.dues s);
  watch : IsWatchTo l.slot l.table l.book l.bank l.self.watch;
  room : (other : Table) → HasWatchRoom (length l.table.rows.points) other l.initial.self.watch
      → HasWatchRoom (length l.table.rows.points) other l.self.watch;
}
