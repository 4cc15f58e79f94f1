use Rattle.std.proofs.Common.{◌≡◌, ◌<◌, ◌==◌, List, not, length, sym, subst, ap, ◌∙◌, arith}
use Rattle.bilateral.specs.declared.rows.TheConstants.{SLOT_LIMIT}
use Rattle.transfer_sets.specs.Banks.{OwnedSlot, slot_at}
use Rattle.transfer_sets.specs.Due.{conditions_due}
use Rattle.transfer_sets.specs.DueIndex.{next_at, IsDueIndex}
use Rattle.node_core.specs.declared.node.peer.Peer.{Peer}
use Rattle.node_core.specs.Objects.Found.{table_at, IsThere}
use Rattle.node_core.specs.Feeds.SlotFeeds.{due_count}
use Rattle.node_core.proofs.OfObjects.Known.{variant_is_lawful}
use Rattle.node_core.proofs.OfFeeds.SlotFeeds.{due_from-all, due-looked, none_due}
use Rattle.node_core.proofs.OfNode.PartLists.{FirstDrafted-many, FirstDrafted-step, IsAlike-drafts}
use Rattle.node_core.proofs.OfNode.TickDrafts.{IsTickDrafted-start, IsTickDrafted-all}
use Rattle.node_core.proofs.OfNode.TickDrafts.{IsTickDrafted-undues}
use Rattle.node_core.proofs.OfNode.TickDrafts.{IsDraftingTick-due, IsDraftingTick-undue}
use Rattle.node_core.proofs.node.peer.Peer.draft_tick.Goals as goal
use Rattle.node_core.proofs.node.peer.Peer.draft_tick.Goals.{then-has_come+in_ok-draft_slot}
use Rattle.node_core.proofs.node.peer.Peer.draft_tick.Goals.{else-has_come, After-has_come}

pub loop-place-preserved : goal.loop-place-preserved
loop-place-preserved c =
    let f = c.loop-place.invariant in
    let many = FirstDrafted-many _ _ _ _ _ _ _ f in
    FirstDrafted-step _ _ _ _ _ _ _ _ _ f
    (omega (arith, many, c.loop-place-test.true, c.len-place-end.ensures))
    c.in_ok-timeouts.ensures c.draft.ensures.made c.in_ok-draft.ensures.ok

pub loop-slot-init : goal.loop-slot-init
loop-slot-init c =
    let f = c.loop-place.invariant in
    let many = FirstDrafted-many _ _ _ _ _ _ _ f in
    let all = due_from-all c.args.advance.from c.args.advance.to c.loop-place.self.slots in
    record {
      drafted = IsTickDrafted-start _ _ _ _ _ _ _ _ f
          (omega (arith, many, c.loop-place-test.false, c.len-place-end.ensures));
      few = omega (arith, all);
    }

within : (c : After-has_come) → c.loop-slot.slot < SLOT_LIMIT
within c = omega (arith, c.loop-slot-test.true, c.slot_count-slot-end.ensures.most)

-- something is due of a transfer set where its moment has come
come : (c : After-has_come) → not (conditions_due
    (slot_at c.loop-place.self.slots c.loop-slot.slot).state c.args.advance.from c.args.advance.to
    == 0) ≡ c.has_come.result
come c =
    let from = c.args.advance.from in
    let to = c.args.advance.to in
    let n = c.loop-slot.slot in
    let slots = c.loop-place.self.slots in
    let state = (slot_at slots n).state in
    let same : slots ≡ c.args.self.now.slots =
    ap (λ (p : Peer). p.slots) c.loop-place.invariant.same in
    let many : length slots ≡ SLOT_LIMIT =
    ap (λ (l : List OwnedSlot). length l) same ∙ c.requires.shown.slots in
    let dues = subst (λ (l : List OwnedSlot). IsDueIndex l from c.args.index.now.dues) (sym same)
    c.requires.dues in
    c.next_moments_last.ensures.due state from to (conditions_due state from to)
    (next_at c.args.index.now.dues n) c.requires.forward.0 c.requires.forward.1
    (dues.each n (omega (arith, within c, many)))
    (c.due_is_one_number.ensures.some state from to) ∙ sym c.has_come.ensures

pub loop-slot-preserved : goal.loop-slot-preserved
loop-slot-preserved c =
    let before = (goal.at.loop-slot-preserved c).After-has_come in
    let below : c.loop-slot.slot
    < (table_at c.args.centre.now c.args.number c.loop-place.self.variant).table.slots =
    omega (arith, c.loop-slot-test.true, c.slot_count-slot-end.ensures.count) in
    elim c.if-has_come.branch [
      | then-has_come+in_ok-draft_slot w ↦
          IsDraftingTick-due _ _ _ _ _ _ _ _ _ _ c.loop-slot.invariant below (within before) _ _
          w.draft_slot.new.self (come before ∙ w.if-has_come.true) w.draft_slot.ensures.same
          w.in_ok-draft_slot.ensures.ok w.self-is (w.looks-is ∙ w.draft_slot.ensures.looks)
      | else-has_come w ↦
          IsDraftingTick-undue _ _ _ _ _ _ _ _ _ _ c.loop-slot.invariant below (within before) _ _
          (come before ∙ w.if-has_come.false) w.self-is w.looks-is
    ]

-- no moment of the index has come, so that nothing is due of any transfer set
pub returns-then-not-has_any_come-clause-ok : goal.returns-then-not-has_any_come-clause-ok
returns-then-not-has_any_come-clause-ok c =
    let from = c.args.advance.from in
    let to = c.args.advance.to in
    let now = c.loop-place.self in
    let f = c.loop-place.invariant in
    let many = FirstDrafted-many _ _ _ _ _ _ _ f in
    let shown = c.requires.shown in
    let count = (table_at c.args.centre.now c.args.number now.variant).table.slots in
    let same : now.slots ≡ c.args.self.now.slots = ap (λ (p : Peer). p.slots) f.same in
    let dues = subst (λ (l : List OwnedSlot). IsDueIndex l from c.args.index.now.dues) (sym same)
    c.requires.dues in
    let all = dues.many in
    let here : length now.slots ≡ SLOT_LIMIT =
    ap (λ (l : List OwnedSlot). length l) same ∙ shown.slots in
    let there = subst (λ (p : Peer). IsThere c.args.centre.now c.args.number p.variant) (sym f.same)
    c.requires.there in
    let few = (variant_is_lawful c.args.centre.now c.args.number now.variant there).slots in
    IsTickDrafted-all c.args.centre.now c.args.number c.args.plant.now from to now count now
    (omega arith)
    (IsTickDrafted-undues c.args.centre.now c.args.number c.args.plant.now from to now count now
    (omega arith)
    (λ s below.
    let state = (slot_at now.slots s).state in
    none_due (conditions_due state from to)
    (c.next_moments_last.ensures.due state from to (conditions_due state from to)
    (next_at c.args.index.now.dues s) c.requires.forward.0 c.requires.forward.1
    (dues.each s (omega (arith, below, few, here)))
    (c.due_is_one_number.ensures.some state from to)
    ∙ c.has_any_come.ensures.none c.if-not-has_any_come.true s (omega arith)
    (omega (arith, below, few, here, all))))
    (IsTickDrafted-start _ _ _ _ _ _ _ _ f
    (omega (arith, many, c.loop-place-test.false, c.len-place-end.ensures))))

pub returns-in_err-draft_slot-clause-looks : goal.returns-in_err-draft_slot-clause-looks
returns-in_err-draft_slot-clause-looks c =
    let before = (goal.at.returns-in_err-draft_slot-clause-looks c).After-has_come in
    let from = c.args.advance.from in
    let to = c.args.advance.to in
    let all = ap (λ (p : Peer). due_count from to p.slots) c.loop-place.invariant.same in
    let few = due-looked from to c.loop-slot.slot c.loop-place.self.slots _ _ (within before)
    c.loop-slot.invariant.few c.draft_slot.new.looks (come before ∙ c.if-has_come.true)
    c.draft_slot.ensures.looks in
    omega (arith, few, all)

pub returns-clause-ok : goal.returns-clause-ok
returns-clause-ok c =
    IsTickDrafted-all _ _ _ _ _ _ c.loop-slot.slot _
    (omega (arith, c.loop-slot-test.false, c.slot_count-slot-end.ensures.count))
    c.loop-slot.invariant.drafted

pub returns-clause-alike : goal.returns-clause-alike
returns-clause-alike c =
    let f = c.loop-place.invariant in
    let t = c.loop-slot.invariant.drafted in
    IsAlike-drafts c.args.self.now c.loop-slot.self
    (t.same ∙ ap (λ (p : Peer). record p { associations = c.loop-slot.self.associations }) f.same)
    (t.associations ∙ f.associations)

pub returns-clause-looks : goal.returns-clause-looks
returns-clause-looks c =
    let all = ap (λ (p : Peer). due_count c.args.advance.from c.args.advance.to p.slots)
    c.loop-place.invariant.same in
    let few = c.loop-slot.invariant.few in omega (arith, few, all)
