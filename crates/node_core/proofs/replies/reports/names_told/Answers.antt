use Rattle.std.proofs.Common.{◌==◌, ◌||◌, ◌++◌, ◌∷◌, [], true, false, sym, ap, ◌∙◌}
use Rattle.std.specs.List.{list_any}
use Rattle.mms_data.specs.ObjectName.{ObjectName}
use Rattle.transfer_sets.specs.declared.noted.Noted.{Noted}
use Rattle.tase_views.specs.Reports.{is_variable}
use Rattle.node_core.specs.Objects.Found.{offered}
use Rattle.node_core.proofs.OfReplies.ReportsMade.{where-step}
use Rattle.node_core.proofs.replies.reports.names_told.Goals as goal
use Rattle.node_core.proofs.replies.reports.names_told.Goals.{then-is_told+in_ok-clone+in_ok-push}
use Rattle.node_core.proofs.replies.reports.names_told.Goals.{else-is_told}

pub loop-place-preserved : goal.loop-place-preserved
loop-place-preserved c =
    elim c.if-is_told.branch [
      | then-is_told+in_ok-clone+in_ok-push w ↦
          where-step (offered c.args.table.now)
          (λ place object. is_variable object
          || list_any (λ (n : Noted). n.member == place) c.args.noted.now)
          c.as_slice-members.result.now c.loop-place.place c.index-members-place.result
          c.loop-place.names c.if-is_told.names true c.loop-place-test.true
          c.index-members-place.is (sym c.is_told.ensures ∙ w.if-is_told.true)
          (w.names-is ∙ w.in_ok-push.ensures.ok
          ∙ ap (λ (n : ObjectName). c.loop-place.names ++ n ∷ []) w.in_ok-clone.ensures.cases)
          ∙ c.loop-place.invariant
      | else-is_told w ↦
          where-step (offered c.args.table.now)
          (λ place object. is_variable object
          || list_any (λ (n : Noted). n.member == place) c.args.noted.now)
          c.as_slice-members.result.now c.loop-place.place c.index-members-place.result
          c.loop-place.names c.if-is_told.names false c.loop-place-test.true
          c.index-members-place.is (sym c.is_told.ensures ∙ w.if-is_told.false) w.names-is
          ∙ c.loop-place.invariant
    ]
