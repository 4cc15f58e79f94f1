use Rattle.std.proofs.Common.{◌≡◌, ◌+◌, ◌≤◌, ◌++◌, length, vec_len, vec_capacity}
use Rattle.std.specs.List.{All}
use Rattle.std.specs.Vec.Iter.{into_iter_items}
use Rattle.bilateral.specs.declared.rows.TheConstants.{SLOT_LIMIT}
use Rattle.tase_views.specs.OwnTables.{OwnTable}
use Rattle.node_core.specs.Slots.SlotWrites.{IsAskedThere, all_answers, all_slots}
use Rattle.node_core.proofs.slots.writes.write_all.Given as goal

abbrev pub invariant-loop-one : goal.invariant-loop-one
invariant-loop-one l = record {
  answers : (table : OwnTable) → table.domain ≡ l.domain
      → l.results.items ++ all_answers table l.book l.ordinal l.now
      (into_iter_items l.one-iterator) l.slots
      ≡ l.initial.results.items ++ all_answers table l.book l.ordinal l.now l.fn.asked.items
      l.initial.slots;
  slots : (table : OwnTable) → table.domain ≡ l.domain
      → all_slots table l.book l.ordinal l.now (into_iter_items l.one-iterator) l.slots
      ≡ all_slots table l.book l.ordinal l.now l.fn.asked.items l.initial.slots;
  many : length l.slots ≡ SLOT_LIMIT;
  there : All (IsAskedThere 0) (into_iter_items l.one-iterator);
  room : vec_len l.results + length (into_iter_items l.one-iterator) ≤ vec_capacity l.results;
}
