use Rattle.std.proofs.Common.{◌++◌, ◌∷◌, [], sym, ap, ◌∙◌}
use Rattle.std.specs.Prelude.{codes}
use Rattle.mms_data.specs.Datum.{integer}
use Rattle.mms_data.specs.declared.outcome.Outcome.TheVariants.{Good}
use Rattle.bilateral.specs.declared.rows.DeviceRow.{DeviceRow}
use Rattle.bilateral.specs.Rows.{device_of}
use Rattle.tase_views.specs.declared.reply.ReportKind.TheVariants.{Variables}
use Rattle.tase_views.specs.OwnTables.{domain_name, own_device}
use Rattle.tase_views.specs.View.{held}
use Rattle.node_core.specs.Objects.Found.{TableInForce}
use Rattle.node_core.proofs.OfReplies.ReportsMade.{on_ok}
use Rattle.node_core.proofs.OfReplies.SelectionsEnded.{none_added, timeout-made}
use Rattle.node_core.proofs.replies.timeouts.add_timeout.Goals as goal

pub returns-then-not-ends_own : goal.returns-then-not-ends_own
returns-then-not-ends_own c = λ updates tables view s.
    none_added c.args.made.now _
    (sym c.if-not-ends_own.true ∙ c.ends_own.ensures updates tables view s)

pub returns : goal.returns
returns c =
    on_ok c.push.result (λ pushed updates tables view s.
    pushed ∙ timeout-made tables view c.args.ordinal c.args.now
    (own_device c.args.shown.now.table.rows c.args.control.now) c.args.made.now
    c.in_ok-report.report
    (sym c.if-not-ends_own.false ∙ c.ends_own.ensures updates tables view s)
    (c.in_ok-report.ensures updates tables view s ∙ ap (λ (row : DeviceRow). Variables
    (domain_name (held tables view) (row.name ++ codes "_TIMEOUT") ∷ [])
    (Good (integer row.checkback) ∷ [])) (c.device.ensures.row
    ∙ ap (λ (t : TableInForce). device_of t.rows c.args.control.now.device) c.table.ensures)))
    c.push.ensures.ok
