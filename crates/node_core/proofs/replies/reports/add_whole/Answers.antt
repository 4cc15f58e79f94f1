use Rattle.std.proofs.Common.{◌++◌, ◌∷◌, [], List, ap, ◌∙◌}
use Rattle.mms_data.specs.ObjectName.{ObjectName}
use Rattle.mms_data.specs.declared.outcome.Outcome.{Outcome}
use Rattle.tase_views.specs.declared.reply.ReportKind.{ReportKind}
use Rattle.tase_views.specs.declared.reply.ReportKind.TheVariants.{Set}
use Rattle.tase_views.specs.OwnTables.{domain_name}
use Rattle.node_core.specs.Objects.Found.{TableInForce, offered}
use Rattle.node_core.proofs.OfReplies.ReportsMade.{on_ok}
use Rattle.node_core.proofs.replies.reports.add_whole.Goals as goal

pub returns : goal.returns
returns c =
    on_ok c.push.result (λ pushed updates tables view s.
    pushed ∙ ap (λ (r : ReportKind). c.args.made.now ++ r ∷ []) (c.new.ensures
    ∙ ap (λ (name : ObjectName). Set name c.in_ok-results.results) (c.in_ok-set.ensures
    ∙ ap (λ (t : TableInForce). domain_name (offered t) c.args.set.now) c.table.ensures)
    ∙ ap (λ (results : List Outcome). Set (domain_name (offered c.args.shown.now.table)
    c.args.set.now) results) (c.in_ok-results.ensures.value updates tables view s)))
    c.push.ensures.ok
