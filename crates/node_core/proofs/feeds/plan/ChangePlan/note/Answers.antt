use Rattle.std.proofs.Common.{◌≡◌, ◌==◌, ◌<◌, List, [], ℕ, length, arith, sym, ap, subst, ◌∙◌}
use Rattle.std.specs.Global.{Vec}
use Rattle.bilateral.specs.declared.rows.TheConstants.{SLOT_LIMIT}
use Rattle.transfer_sets.specs.Banks.{OwnedSlot, HasChanged}
use Rattle.transfer_sets.specs.NextDue.{IsNextMoment}
use Rattle.node_core.specs.Feeds.SlotFeeds.{places_at}
use Rattle.node_core.proofs.OfFeeds.Planned.{change_of, planned-read, noted-passed, noted-changed}
use Rattle.node_core.proofs.OfFeeds.Planned.{is_planned, planned-some, planned-none}
use Rattle.node_core.proofs.OfFeeds.Planned.{looked-twice-at, looked-twice-past}
use Rattle.node_core.proofs.OfFeeds.Planned.{all_noted, wishes_changed}
use Rattle.node_core.proofs.feeds.plan.ChangePlan.note.Goals as goal
use Rattle.node_core.proofs.feeds.plan.ChangePlan.note.Goals.{then-not-is_empty, else-not-is_empty}

pub look-requires : goal.look-requires
look-requires c =
    let there : c.loop-slot.slot < SLOT_LIMIT = omega (arith, c.loop-slot-test.true) in
    let many = (c.change.ensures.slots []).many in
    omega (arith, there, many, c.loop-slot.invariant.noted.many, c.requires.many)

pub loop-slot-preserved : goal.loop-slot-preserved
loop-slot-preserved c =
    let at = c.args.change in
    let change = change_of at.now at.value at.cov in
    let plan = c.args.self.now in
    let old = c.args.bank.now in
    let mid = c.loop-slot.bank in
    let slot = c.loop-slot.slot in
    let so = c.loop-slot.invariant in
    let plans = c.self.inside.places.items in
    let there : slot < SLOT_LIMIT = omega (arith, c.loop-slot-test.true) in
    let within : slot < length plans = omega (arith, there, c.self.invariant) in
    let here : c.as_slice-places.result.now ≡ places_at plan slot =
    planned-read (λ (places : Vec ℕ). places.items) plans plan slot c.index.result.now
    c.as_slice-places.result.now within c.index.ensures c.as_slice-places.ensures.value
    c.self.view_is in
    let many = ap (λ (places : List ℕ). length places == 0) (sym here) ∙ sym c.is_empty.ensures in
    elim c.if-not-is_empty.branch [
      | then-not-is_empty w ↦ rw (w.bank-is, w.dues-is, w.looks-is) (record {
        noted = noted-changed change plan slot old mid w.change.new.self so.noted
            (many ∙ w.if-not-is_empty.true)
            (λ point. subst (λ (places : List ℕ). HasChanged places (change point) slot mid
            w.change.new.self) here (w.change.ensures.slots point));
        wishes = wishes_changed _ _ slot old mid w.change.new.self
            (w.change.ensures.slots []) so.wishes;
        dues = rw w.set.ensures (c.due_indexes_last.ensures.changed _ _ mid w.change.new.self
            slot at.now c.loop-slot.dues w.next_due.result (w.change.ensures.slots [])
            (subst (λ (own : OwnedSlot). IsNextMoment own.state at.now w.next_due.result)
            w.look.ensures.slot w.next_due.ensures) so.dues);
        looks = looked-twice-at (is_planned plan) slot c.args.looks.now c.loop-slot.looks
            w.look.new.looks there (planned-some plan slot (many ∙ w.if-not-is_empty.true))
            (omega (arith, w.change.ensures.looks, w.look.ensures.looks)) so.looks;
      })
      | else-not-is_empty w ↦ rw (w.bank-is, w.dues-is, w.looks-is) (record {
        noted = noted-passed change plan slot c.slots_follow_their_moves.ensures.others old mid
            so.noted (many ∙ w.if-not-is_empty.false);
        wishes = so.wishes;
        dues = so.dues;
        looks = looked-twice-past (is_planned plan) slot c.args.looks.now c.loop-slot.looks there
            (planned-none plan slot (many ∙ w.if-not-is_empty.false)) so.looks;
      })
    ]

pub returns-clause-changed : goal.returns-clause-changed
returns-clause-changed c = λ table book name planned. record {
  many = c.loop-slot.invariant.noted.many;
  each = all_noted (change_of c.args.change.now c.args.change.value c.args.change.cov)
      c.args.self.now c.loop-slot.slot c.args.bank.now c.loop-slot.bank
      c.slots_follow_their_moves.ensures.others c.requires.many
      (omega (arith, c.loop-slot-test.false)) c.loop-slot.invariant.noted table book name planned;
}
