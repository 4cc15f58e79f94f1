use Rattle.std.proofs.Common.{◌≡◌, ◌==◌, ◌||◌, ◌++◌, drop}
use Rattle.std.specs.List.{list_any}
use Rattle.transfer_sets.specs.declared.noted.Noted.{Noted}
use Rattle.tase_views.specs.Reports.{members_where, is_variable}
use Rattle.node_core.specs.Objects.Found.{offered}
use Rattle.node_core.proofs.replies.reports.names_told.Given as goal

abbrev pub invariant-loop-place : goal.invariant-loop-place
invariant-loop-place l =
    l.names ++ members_where (offered l.table) l.place
    (λ place object. is_variable object || list_any (λ (n : Noted). n.member == place) l.noted)
    (drop l.place l.members)
    ≡ members_where (offered l.table) 0
    (λ place object. is_variable object || list_any (λ (n : Noted). n.member == place) l.noted)
    l.members
