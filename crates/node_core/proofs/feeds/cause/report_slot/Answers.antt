use Rattle.std.proofs.Common.{◌≡◌, refl, ap, ◌∙◌}
use Rattle.transfer_sets.specs.Banks.{OwnedSlot, slot_at}
use Rattle.tase_views.specs.Slots.{makes_report}
use Rattle.node_core.specs.Feeds.SlotFeeds.{conditions_by}
use Rattle.node_core.proofs.OfFeeds.SlotFeeds.{set_reported}
use Rattle.node_core.proofs.feeds.cause.report_slot.Goals as goal
use Rattle.node_core.proofs.feeds.cause.report_slot.Goals.{After-makes_report}

due : (c : After-makes_report) → c.conditions_of-conditions.result
    ≡ conditions_by c.args.cause c.args.slot (slot_at c.args.bank.now c.args.slot).state
due c = c.conditions_of-conditions.ensures
    ∙ ap (λ (own : OwnedSlot). conditions_by c.args.cause c.args.slot own.state)
    c.look-own.ensures.slot

makes : (c : After-makes_report) → c.makes_report.result
    ≡ makes_report (slot_at c.args.bank.now c.args.slot).state c.conditions_of-conditions.result
makes c = c.makes_report.ensures
    ∙ ap (λ (own : OwnedSlot). makes_report own.state c.conditions_of-conditions.result)
    c.look-own.ensures.slot

pub returns-then-makes_report-clause-slots : goal.returns-then-makes_report-clause-slots
returns-then-makes_report-clause-slots c =
    let at = (goal.at.returns-then-makes_report-clause-slots c).After-makes_report in
    set_reported _ _ _ _ _ _ (due at) (makes at)
    (rw c.if-makes_report.true c.reported.ensures.slots)

pub returns-else-makes_report-clause-slots : goal.returns-else-makes_report-clause-slots
returns-else-makes_report-clause-slots c =
    let at = (goal.at.returns-else-makes_report-clause-slots c).After-makes_report in
    set_reported _ _ _ _ _ _ (due at) (makes at) (rw c.if-makes_report.false refl)
