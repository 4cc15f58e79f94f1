use Rattle.std.proofs.Common.{◌≡◌, ◌<◌, ◌+◌, ◌++◌, false, List, [], length, drop, get_or, subst}
use Rattle.std.proofs.Common.{refl, ap, ◌∙◌, arith}
use Rattle.std.proofs.lemmas.List.{get_or_default}
use Rattle.std.proofs.lemmas.List.Elements.{Contains-get_or}
use Rattle.std.specs.Prelude.{Contains, filter_map}
use Rattle.std.specs.List.{cons_option}
use Rattle.bilateral.specs.declared.rows.Control.{Control}
use Rattle.bilateral.specs.declared.rows.Table.{Table}
use Rattle.tase_views.specs.OwnTables.{OwnTable, own_device}
use Rattle.tase_views.specs.Reports.{timeout_report}
use Rattle.node_core.specs.Objects.Found.{TableInForce}
use Rattle.node_core.proofs.OfReplies.ReportsMade.{stepped, none_left}
use Rattle.node_core.proofs.OfReplies.SelectionsEnded.{timeouts_of, joined}
use Rattle.node_core.proofs.replies.timeouts.add_timeouts.Goals as goal

abbrev no_control : Control
no_control = record { device = 0; tag = false }

pub add_timeout-requires : goal.add_timeout-requires
add_timeout-requires c =
    let controls = c.as_slice-control-items.result.now in
    let same : controls ≡ c.args.shown.now.table.table.controls =
    c.as_slice-control-items.ensures ∙ ap (λ (t : Table). t.controls) (c.table-2.ensures.table
    ∙ ap (λ (t : TableInForce). t.table) c.table.ensures) in
    let i = c.loop-control.control-index in
    subst (λ (l : List Control). Contains l (get_or controls i no_control)) same
    (Contains-get_or controls i no_control (omega arith))

pub loop-control-preserved : goal.loop-control-preserved
loop-control-preserved c = λ updates tables view s.
    let rows = c.args.shown.now.table.rows in
    let controls = c.as_slice-control-items.result.now in
    let i = c.loop-control.control-index in
    let control = get_or controls i no_control in
    let within : i < length controls = omega arith in
    let times = timeouts_of rows tables view c.args.ordinal c.args.now in
    let found = timeout_report tables view c.args.ordinal c.args.now (own_device rows control) in
    stepped times controls i control c.loop-control.made c.add_timeout.new.made
    (cons_option found []) within (get_or_default controls i no_control control within)
    (c.in_ok-add_timeout.ensures updates tables view s)
    (joined found (times (drop (i + 1) controls)))
    ∙ c.loop-control.invariant updates tables view s

pub returns : goal.returns
returns c = λ updates tables view s.
    let rows = c.args.shown.now.table.rows in
    let controls = c.as_slice-control-items.result.now in
    let times = timeouts_of rows tables view c.args.ordinal c.args.now in
    let same : controls ≡ c.args.shown.now.table.table.controls =
    c.as_slice-control-items.ensures ∙ ap (λ (t : Table). t.controls) (c.table-2.ensures.table
    ∙ ap (λ (t : TableInForce). t.table) c.table.ensures) in
    none_left times controls c.loop-control.control-index c.loop-control.made (omega arith) refl
    ∙ c.loop-control.invariant updates tables view s
    ∙ ap (λ (l : List Control). c.args.made.now ++ times l) same
    ∙ ap (λ (t : OwnTable). c.args.made.now
    ++ filter_map (timeout_report tables view c.args.ordinal c.args.now) t.devices) s.table
