use Rattle.std.proofs.Common.{◌≡◌, ◌++◌, not, take}
use Rattle.tase_discover.specs.Listings.{missing_line, named_in}
use Rattle.tase_discover.specs.Noted.{is_noted}
use Rattle.tase_discover.proofs.Lines.{kept_lines}
use Rattle.tase_discover.proofs.differences.push_unnoted.Given as goal

abbrev pub invariant-loop-item : goal.invariant-loop-item
invariant-loop-item l =
    l.shown.items
    ≡ l.initial.shown.items ++ kept_lines (λ item. not (is_noted l.noted item))
    (λ item. missing_line (named_in l.scope item)) (take l.item-index l.items)
