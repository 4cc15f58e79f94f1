use Rattle.std.proofs.Common.{◌≡◌, ◌++◌, drop, length, map}
use Rattle.std.specs.List.{All}
use Rattle.mms_data.specs.OutcomeOctets.{IsLawfulOutcome}
use Rattle.tase_views.specs.Reports.{Told, told_of}
use Rattle.node_core.specs.Objects.Found.{offered}
use Rattle.node_core.specs.Replies.Shown.{InEachView}
use Rattle.node_core.proofs.replies.reports.results_of.Given as goal

abbrev pub invariant-loop-name : goal.invariant-loop-name
invariant-loop-name l =
    let o = l.occasion in
    record {
      value : InEachView l.shown (λ tables view.
          l.results ++ map (λ (t : Told). t.outcome) (told_of (offered l.shown.table) view o.slot
          o.now o.conditions (drop l.name-index l.name-items))
          ≡ map (λ (t : Told). t.outcome) (told_of (offered l.shown.table) view o.slot o.now
          o.conditions l.name-items));
      many : length l.results ≡ l.name-index;
      lawful : All IsLawfulOutcome l.results;
    }
