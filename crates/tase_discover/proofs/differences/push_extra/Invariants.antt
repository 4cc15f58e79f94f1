use Rattle.std.proofs.Common.{◌≡◌, ◌++◌, not, is_some, take}
use Rattle.tase_views.specs.Objects.{object_named}
use Rattle.node_core.specs.Objects.Found.{offered}
use Rattle.tase_discover.specs.Listings.{extra_line}
use Rattle.tase_discover.proofs.Lines.{kept_lines}
use Rattle.tase_discover.proofs.differences.push_extra.Given as goal

abbrev pub invariant-loop-name : goal.invariant-loop-name
invariant-loop-name l =
    l.shown.items
    ≡ l.initial.shown.items
    ++ kept_lines (λ name. not (is_some (object_named (offered l.table) name))) extra_line
    (take l.name-index l.names)
