use Rattle.std.proofs.Common.{◌≡◌, ◌<◌, ◌+◌, ◌==◌, not, length, List, set, sym, ap, subst, ◌∙◌}
use Rattle.std.proofs.Common.{arith}
use Rattle.bilateral.specs.declared.rows.TheConstants.{SLOT_LIMIT}
use Rattle.transfer_sets.specs.Banks.{OwnedSlot, slot_at}
use Rattle.transfer_sets.specs.Due.{conditions_due}
use Rattle.transfer_sets.specs.DueIndex.{next_at}
use Rattle.transfer_sets.specs.NextDue.{IsNextMoment}
use Rattle.node_core.specs.declared.feeds.cause.ReportCause.{ReportCause}
use Rattle.node_core.specs.Feeds.SlotFeeds.{conditions_by, reported_on}
use Rattle.node_core.proofs.OfFeeds.SlotFeeds.{none_reported, all_reported, due_from-all, one_ahead}
use Rattle.node_core.proofs.OfFeeds.SlotFeeds.{none_reported_on}
use Rattle.node_core.proofs.OfFeeds.SlotFeeds.{IsTicking-due, IsTicking-undue}
use Rattle.node_core.proofs.feeds.cause.report_due.Goals as goal
use Rattle.node_core.proofs.feeds.cause.report_due.Goals.{then-has_come, else-has_come}

pub loop-slot-init : goal.loop-slot-init
loop-slot-init c =
    let from = c.args.advance.from in
    let to = c.args.advance.to in
    let bank = c.args.bank.now in
    let all = due_from-all from to bank in
    record {
      reported = none_reported _ _;
      dues = c.due_indexes_turn.ensures.begin bank from to c.args.dues.now c.requires.dues;
      few = omega (arith, all);
    }

pub loop-slot-preserved : goal.loop-slot-preserved
loop-slot-preserved c =
    let from = c.args.advance.from in
    let to = c.args.advance.to in
    let n = c.loop-slot.slot in
    let old = c.args.bank.now in
    let now = c.loop-slot.bank in
    let index = c.loop-slot.dues in
    let t = c.loop-slot.invariant in
    let within : n < SLOT_LIMIT = omega (arith, c.loop-slot-test.true) in
    let there : n < length now = omega (arith, within, t.reported.many, c.requires.many) in
    let state = (slot_at now n).state in
    let due = conditions_due state from to in
    let come : not (due == 0) ≡ c.has_come.result =
    c.next_moments_last.ensures.due state from to due (next_at index n) c.requires.forward.0
    c.requires.forward.1 (t.dues.ahead n there (omega arith))
    (c.due_is_one_number.ensures.some state from to) ∙ sym c.has_come.ensures in
    elim c.if-has_come.branch [
      | then-has_come w ↦
          IsTicking-due from to n old now index _ _ t within c.requires.many c.if-has_come.bank
          w.next_due.result c.if-has_come.dues c.if-has_come.looks (come ∙ w.if-has_come.true)
          (λ slot moment. c.due_indexes_turn.ensures.put now n from to slot index
          w.next_due.result there moment t.dues)
          (w.bank-is ∙ w.report_slot.ensures.slots
          ∙ ap (λ (cause : ReportCause). set now n (reported_on (conditions_by cause n state)
          (slot_at now n))) w.cause.ensures)
          (subst (λ (slots : List OwnedSlot). IsNextMoment (slot_at slots n).state to
          w.next_due.result) (sym w.bank-is) (subst (λ (slot : OwnedSlot).
          IsNextMoment slot.state to w.next_due.result) w.look.ensures.slot w.next_due.ensures))
          (w.dues-is ∙ w.set.ensures)
          (omega (arith, w.looks-is, w.report_slot.ensures.looks, w.look.ensures.looks))
      | else-has_come w ↦
          rw (w.bank-is, w.dues-is, w.looks-is)
          (IsTicking-undue from to n old now index _ _ t within c.requires.many
          (come ∙ w.if-has_come.false)
          (c.due_indexes_turn.ensures.pass now n (n + 1) from to index
          (omega (arith, c.requires.forward.0)) (omega arith)
          (one_ahead index to n (sym c.has_come.ensures ∙ w.if-has_come.false)) t.dues))
    ]

pub returns-then-not-has_any_come-clause-reported :
    goal.returns-then-not-has_any_come-clause-reported
returns-then-not-has_any_come-clause-reported c =
    let from = c.args.advance.from in
    let to = c.args.advance.to in
    let bank = c.args.bank.now in
    let dues = c.requires.dues in
    none_reported_on from to bank (λ s below.
    let state = (slot_at bank s).state in
    let many = dues.many in
    c.next_moments_last.ensures.due state from to (conditions_due state from to)
    (next_at c.args.dues.now s) c.requires.forward.0 c.requires.forward.1 (dues.each s below)
    (c.due_is_one_number.ensures.some state from to)
    ∙ c.has_any_come.ensures.none c.if-not-has_any_come.true s (omega arith)
    (omega (arith, below, many)))

pub returns-then-not-has_any_come-clause-dues : goal.returns-then-not-has_any_come-clause-dues
returns-then-not-has_any_come-clause-dues c =
    c.due_indexes_last.ensures.later c.args.bank.now c.args.advance.from c.args.advance.to
    c.args.dues.now (omega (arith, c.requires.forward.0))
    (c.has_any_come.ensures.none c.if-not-has_any_come.true) c.requires.dues

pub returns-clause-reported : goal.returns-clause-reported
returns-clause-reported c =
    all_reported _ _ _ _ (omega (arith, c.loop-slot-test.false, c.requires.many))
    c.loop-slot.invariant.reported

pub returns-clause-dues : goal.returns-clause-dues
returns-clause-dues c =
    let t = c.loop-slot.invariant in
    (c.due_indexes_turn.ensures.end c.loop-slot.bank c.loop-slot.slot c.args.advance.from
    c.args.advance.to c.loop-slot.dues (omega (arith, c.requires.forward.0))
    (λ s after below. absurd (omega (
      arith,
      after,
      below,
      c.loop-slot-test.false,
      t.dues.many,
      t.reported.many,
      c.requires.many,
    ))) t.dues)

pub returns-clause-looks : goal.returns-clause-looks
returns-clause-looks c = let few = c.loop-slot.invariant.few in omega (arith, few)
