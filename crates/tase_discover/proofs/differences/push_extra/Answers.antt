use Rattle.std.proofs.Common.{◌++◌, Bool, not, is_some, List, sym, ap, ◌∙◌, take_all, arith}
use Rattle.plain_text.specs.Extends.{Extends}
use Rattle.mms_data.specs.ObjectName.{ObjectName}
use Rattle.tase_views.specs.OwnTables.{OwnTable}
use Rattle.tase_views.specs.Objects.{object_named}
use Rattle.node_core.specs.Objects.Found.{offered}
use Rattle.tase_discover.specs.Listings.{extra_line}
use Rattle.tase_discover.proofs.Lines.{kept_lines, line_pushed, line_passed}
use Rattle.tase_discover.proofs.Differing.{begins_with}
use Rattle.tase_discover.proofs.Held.{whatever}
use Rattle.tase_discover.proofs.differences.push_extra.Goals as goal
use Rattle.tase_discover.proofs.differences.push_extra.Goals.{then-not-is_object+in_ok-push_line}
use Rattle.tase_discover.proofs.differences.push_extra.Goals.{else-not-is_object}

-- whether a table has no object by a name
abbrev is_extra : OwnTable → ObjectName → Bool
is_extra table name = not (is_some (object_named table name))

pub returns-in_err-push_line-clause-err : goal.returns-in_err-push_line-clause-err
returns-in_err-push_line-clause-err c =
    whatever (Extends c.args.shown.now.items c.push_line.new.shown.items) c.from_residual.result
    (begins_with c.args.shown.now.items c.loop-name.shown.items _ c.push_line.new.shown.items
    c.loop-name.invariant c.in_err-push_line.ensures.err)

pub loop-name-preserved : goal.loop-name-preserved
loop-name-preserved c =
    let test = is_extra (offered c.args.table.now) in
    elim c.if-not-is_object.branch [
      | then-not-is_object+in_ok-push_line w ↦
          rw w.shown-is (line_pushed test extra_line c.args.names.now c.loop-name.name-index
          c.name-item.result c.args.shown.now.items c.loop-name.shown.items
          w.push_line.new.shown.items (omega arith) c.name-item.is
          (ap not (sym c.is_object.ensures ∙ w.if-not-is_object.true)) c.loop-name.invariant
          w.in_ok-push_line.ensures.ok)
      | else-not-is_object w ↦
          rw w.shown-is (line_passed test extra_line c.args.names.now c.loop-name.name-index
          c.name-item.result c.args.shown.now.items c.loop-name.shown.items (omega arith)
          c.name-item.is (ap not (sym c.is_object.ensures ∙ w.if-not-is_object.false))
          c.loop-name.invariant)
    ]

pub returns-clause-ok : goal.returns-clause-ok
returns-clause-ok c =
    c.loop-name.invariant
    ∙ ap (λ (names : List ObjectName). c.args.shown.now.items
    ++ kept_lines (is_extra (offered c.args.table.now)) extra_line names)
    (take_all c.loop-name.name-index c.args.names.now (omega arith))
