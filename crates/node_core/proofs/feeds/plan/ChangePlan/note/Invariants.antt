use Rattle.std.proofs.Common.{◌≡◌, ℕ}
use Rattle.transfer_sets.specs.Banks.{slot_at}
use Rattle.transfer_sets.specs.DueIndex.{IsDueIndex}
use Rattle.node_core.proofs.OfFeeds.Planned.{change_of, IsNotedTo, IsLookedTwiceTo, is_planned}
use Rattle.node_core.proofs.feeds.plan.ChangePlan.note.Given as goal

abbrev pub invariant-loop-slot : goal.invariant-loop-slot
invariant-loop-slot l = record {
  noted : IsNotedTo (change_of l.now l.value l.cov) l.slot l.self
      l.initial.bank l.bank;
  wishes : (s : ℕ) → (slot_at l.bank s).state.wish ≡ (slot_at l.initial.bank s).state.wish;
  dues : IsDueIndex l.bank l.now l.dues;
  looks : IsLookedTwiceTo (is_planned l.self) l.slot l.initial.looks l.looks;
}
