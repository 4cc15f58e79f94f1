use Rattle.std.proofs.Common.{◌≡◌, ◌++◌, ℕ, List, Bool, length, not, is_some, filter, flat_map}
use Rattle.std.proofs.Common.{ap, ◌∙◌}
use Rattle.std.specs.Prelude.{nat_eq}
use Rattle.mms_data.specs.ObjectName.{ObjectName}
use Rattle.tase_views.specs.Objects.{object_named}
use Rattle.node_core.specs.Objects.Found.{offered}
use Rattle.tase_discover.specs.Listings.{extra_line, differences}
use Rattle.tase_discover.specs.Kept.{seen_of}
use Rattle.tase_discover.proofs.Differing.{differences_told, differs_told}
use Rattle.tase_discover.proofs.differences.push_differences.Goals as goal

pub returns-clause-lines : goal.returns-clause-lines
returns-clause-lines c =
    let table = offered c.args.table.now in
    let test : ObjectName → Bool = λ name. not (is_some (object_named table name)) in
    differences_told table (seen_of c.args.seen.now) c.args.seen.now.domain
    c.requires.domain c.args.shown.now.items c.push_missing.new.shown.items
    c.push_missing-2.new.shown.items c.push_extra.new.shown.items c.in_ok-push_missing.ensures.ok
    c.in_ok-push_missing-2.ensures.ok
    (c.in_ok-push_extra.ensures.ok
    ∙ ap (λ (names : List ObjectName). c.push_missing-2.new.shown.items
    ++ flat_map extra_line (filter test names)) c.as_slice.ensures.value)

pub returns-clause-alike : goal.returns-clause-alike
returns-clause-alike c =
    let table = offered c.args.table.now in
    let test : ObjectName → Bool = λ name. not (is_some (object_named table name)) in
    let told : c.push_extra.new.shown.items
    ≡ c.args.shown.now.items ++ differences table (seen_of c.args.seen.now) =
    differences_told table (seen_of c.args.seen.now) c.args.seen.now.domain
    c.requires.domain c.args.shown.now.items c.push_missing.new.shown.items
    c.push_missing-2.new.shown.items c.push_extra.new.shown.items c.in_ok-push_missing.ensures.ok
    c.in_ok-push_missing-2.ensures.ok
    (c.in_ok-push_extra.ensures.ok
    ∙ ap (λ (names : List ObjectName). c.push_missing-2.new.shown.items
    ++ flat_map extra_line (filter test names)) c.as_slice.ensures.value) in
    ap (λ (os : List ℕ). nat_eq (length os) (length c.as_slice-before.result.now))
    c.as_slice-2.ensures.value
    ∙ ap (λ (os : List ℕ). nat_eq (length c.push_extra.new.shown.items) (length os))
    c.as_slice-before.ensures.value
    ∙ differs_told table (seen_of c.args.seen.now) c.args.shown.now.items
    c.push_extra.new.shown.items told
