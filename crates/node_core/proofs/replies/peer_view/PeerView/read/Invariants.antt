use Rattle.std.proofs.Common.{◌≡◌, ◌++◌, drop}
use Rattle.std.specs.List.{All}
use Rattle.mms_data.specs.OutcomeOctets.{IsLawfulOutcome}
use Rattle.node_core.specs.Objects.Found.{offered}
use Rattle.node_core.specs.Replies.Shown.{InEachView}
use Rattle.node_core.specs.Slots.SlotsKept.{all_read, outcomes_shown, drafted}
use Rattle.node_core.proofs.replies.peer_view.PeerView.read.Given as goal

abbrev pub invariant-loop-name : goal.invariant-loop-name
invariant-loop-name l = record {
  value : InEachView l.self (λ tables view.
      l.results ++ outcomes_shown tables (offered l.self.table) view l.initial.draft.ordinal
      (drop l.name-index l.name-items) (drafted l.draft)
      ≡ outcomes_shown tables (offered l.self.table) view l.initial.draft.ordinal l.name-items
      (drafted l.initial.draft));
  left : all_read (offered l.self.table) l.initial.draft.ordinal (drop l.name-index l.name-items)
      (drafted l.draft)
      ≡ all_read (offered l.self.table) l.initial.draft.ordinal l.name-items
      (drafted l.initial.draft);
  bank : l.draft.bank ≡ l.initial.draft.bank;
  ordinal : l.draft.ordinal ≡ l.initial.draft.ordinal;
  lawful : All IsLawfulOutcome l.results;
}
