use Rattle.std.proofs.Common.{◌≡◌, ◌<◌, ◌-◌, ◌+◌, ◌++◌, ℕ, suc, List, ap, ◌∙◌, arith}
use Rattle.std.specs.Prelude.{flat_map}
use Rattle.std.specs.List.{range_with_len}
use Rattle.bilateral.specs.declared.rows.Table.{Table}
use Rattle.tase_views.specs.declared.reply.ReportKind.{ReportKind}
use Rattle.node_core.specs.declared.feeds.cause.ReportCause.TheVariants.{Tick}
use Rattle.node_core.specs.Objects.Found.{TableInForce}
use Rattle.node_core.proofs.OfReplies.ReportsShown.{ranged-step, ranged-none, made_by, ended_at}
use Rattle.node_core.proofs.OfReplies.ReportsShown.{tick-made}
use Rattle.node_core.proofs.replies.reports.tick_reports.Goals as goal

pub loop-slot-init : goal.loop-slot-init
loop-slot-init c = λ updates tables view s.
    let F = made_by tables view c.args.ordinal (Tick c.args.from c.args.to) in
    let n = c.table-2.result.now.slots in
    let all : n - 0 ≡ n = omega arith in
    ap (λ (made : List ReportKind). made ++ flat_map F (range_with_len 0 (n - 0)))
    (c.in_ok-add_timeouts.ensures updates tables view s
    ∙ ap (λ (made : List ReportKind). made ++ ended_at tables view c.args.ordinal c.args.to)
    c.new-made.ensures)
    ∙ ap (λ (k : ℕ). ended_at tables view c.args.ordinal c.args.to
    ++ flat_map F (range_with_len 0 k)) all

pub loop-slot-preserved : goal.loop-slot-preserved
loop-slot-preserved c = λ updates tables view s.
    let F = made_by tables view c.args.ordinal (Tick c.args.from c.args.to) in
    let n = c.table-2.result.now.slots in
    let slot = c.loop-slot.slot in
    let within : slot < n = omega arith in
    let more : n - slot ≡ suc (n - (slot + 1)) = omega arith in
    ranged-step F slot (n - slot) (n - (slot + 1)) c.loop-slot.made c.add_own.new.made more
    (c.in_ok-add_own.ensures updates tables view s)
    ∙ c.loop-slot.invariant updates tables view s

pub returns : goal.returns
returns c = λ updates tables view s moment.
    let F = made_by tables view c.args.ordinal (Tick c.args.from c.args.to) in
    let n = c.table-2.result.now.slots in
    let none : n - c.loop-slot.slot ≡ 0 = omega arith in
    let slots : n ≡ c.args.shown.now.table.table.slots =
    ap (λ (t : Table). t.slots) (c.table-2.ensures.table
    ∙ ap (λ (t : TableInForce). t.table) c.table.ensures) in
    ranged-none F c.loop-slot.slot (n - c.loop-slot.slot) c.loop-slot.made none
    ∙ c.loop-slot.invariant updates tables view s
    ∙ ap (λ (k : ℕ). ended_at tables view c.args.ordinal c.args.to
    ++ flat_map F (range_with_len 0 k)) slots
    ∙ tick-made updates tables view c.args.shown.now s c.args.ordinal c.args.from c.args.to moment
