use Rattle.std.proofs.Common.{◌≡◌, ◌==◌, Bool, sym, ap, subst, ◌∙◌}
use Rattle.std.specs.Prelude.{if◌then◌else◌}
use Rattle.std.specs.List.{list_any}
use Rattle.transfer_sets.specs.Banks.{slot_at, handed_slot}
use Rattle.node_core.specs.Slots.SlotsKept.{Drafted, drafted}
use Rattle.node_core.proofs.OfSlots.Drafts.{handed-at}
use Rattle.node_core.proofs.slots.draft.Draft.is_handed.Goals as goal

pub returns-clause-handed : goal.returns-clause-handed
returns-clause-handed c = λ e.
    let d = c.self.inside in
    let slot = c.args.slot in
    let found = ap (list_any (λ k. k == slot)) (sym c.deref.ensures.value)
    ∙ sym c.contains.ensures.value ∙ e in
    subst (λ (x : Drafted). slot_at (drafted x) slot ≡ handed_slot x.ordinal) c.self.view_is
    (handed-at d.ordinal d.handed.items d.slots.now slot c.self.invariant.1 c.self.invariant.0
    ∙ ap (λ (b : Bool). if b then handed_slot d.ordinal else slot_at d.slots.now slot) found)

pub returns-clause-other : goal.returns-clause-other
returns-clause-other c = λ e.
    let d = c.self.inside in
    let slot = c.args.slot in
    let found = ap (list_any (λ k. k == slot)) (sym c.deref.ensures.value)
    ∙ sym c.contains.ensures.value ∙ e in
    subst (λ (x : Drafted). slot_at (drafted x) slot ≡ slot_at x.bank slot) c.self.view_is
    (handed-at d.ordinal d.handed.items d.slots.now slot c.self.invariant.1 c.self.invariant.0
    ∙ ap (λ (b : Bool). if b then handed_slot d.ordinal else slot_at d.slots.now slot) found)
