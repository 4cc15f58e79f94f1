use Rattle.std.proofs.Common.{◌≡◌, ◌<◌, ◌++◌, List, length, map}
use Rattle.std.specs.List.{All}
use Rattle.transfer_sets.specs.declared.noted.Noted.{Noted}
use Rattle.tase_views.specs.Reports.{told_of, members_where, is_variable, noted_of, report_of_all}
use Rattle.tase_views.specs.Reports.{parts_of}
use Rattle.node_core.specs.Objects.Found.{offered}
use Rattle.node_core.specs.Replies.Shown.{InEachView}
use Rattle.node_core.proofs.replies.reports.add_changes.Given as goal

abbrev pub invariant-loop-rest : goal.invariant-loop-rest
invariant-loop-rest l =
    let o = l.occasion in
    let own = offered l.shown.table in
    let IsMember : Noted → Type 0 = λ n. n.member < length l.members in
    record {
      made : InEachView l.shown (λ tables view.
          let part_of = λ (part : List Noted). report_of_all (told_of own view o.slot o.now
          o.conditions (members_where own 0 (λ place. is_variable) l.members)
          ++ map (noted_of own view o.slot o.now o.conditions l.members) part) in
          All IsMember l.noted → l.made ++ map part_of (parts_of 500 l.rest)
          ≡ l.initial.made ++ map part_of (parts_of 500 l.noted));
      known : All IsMember l.noted → All IsMember l.rest;
    }

abbrev pub decreases-loop-rest : goal.decreases-loop-rest
decreases-loop-rest l = length l.rest
