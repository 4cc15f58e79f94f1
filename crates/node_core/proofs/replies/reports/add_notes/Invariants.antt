use Rattle.std.proofs.Common.{◌≡◌, ◌<◌, ◌++◌, [], drop, length, map}
use Rattle.std.specs.List.{All}
use Rattle.mms_data.specs.OutcomeOctets.{IsLawfulOutcome}
use Rattle.transfer_sets.specs.declared.noted.Noted.{Noted}
use Rattle.tase_views.specs.Reports.{noted_of}
use Rattle.node_core.specs.Objects.Found.{offered}
use Rattle.node_core.proofs.replies.reports.add_notes.Given as goal

abbrev pub invariant-loop-note : goal.invariant-loop-note
invariant-loop-note l =
    let told = noted_of (offered l.table) [] 0 0 0 l.members in
    record {
      names : All (λ (n : Noted). n.member < length l.members) l.part
          → l.names ++ map (λ (n : Noted). (told n).name) (drop l.note-index l.part)
          ≡ l.initial.names ++ map (λ (n : Noted). (told n).name) l.part;
      results : All (λ (n : Noted). n.member < length l.members) l.part
          → l.results ++ map (λ (n : Noted). (told n).outcome) (drop l.note-index l.part)
          ≡ l.initial.results ++ map (λ (n : Noted). (told n).outcome) l.part;
      many : length l.initial.results ≡ length l.initial.names → length l.results ≡ length l.names;
      lawful : All IsLawfulOutcome l.initial.results → All IsLawfulOutcome l.results;
    }
