use Rattle.std.proofs.Common.{◌≡◌, ℕ, Option, Some, sym, ap, ◌∙◌, arith}
use Rattle.std.specs.Option.{option_map_or}
use Rattle.mms_data.specs.Datum.{Datum}
use Rattle.mms_data.specs.declared.outcome.Outcome.TheVariants.{Good, Fail}
use Rattle.tase_views.specs.Answers.{slot_name, temporarily_unavailable}
use Rattle.node_core.specs.Slots.SlotsKept.{Drafted, drafted, first_free, handed_by}
use Rattle.node_core.proofs.OfSlots.SlotBanks.{free_below}
use Rattle.node_core.proofs.OfSlots.Drafts.{handed-more}
use Rattle.node_core.proofs.replies.peer_view.read_next.Goals as goal

pub slot_name-requires : goal.slot_name-requires
slot_name-requires c =
    let below = free_below c.args.table.now.slots (drafted c.args.draft.now) c.in-Some.slot
    (sym c.first_free.ensures ∙ c.in-Some.is) in
    omega (arith, below, c.requires.few)

pub hand_out-requires : goal.hand_out-requires
hand_out-requires c =
    let below = free_below c.args.table.now.slots (drafted c.args.draft.now) c.in-Some.slot
    (sym c.first_free.ensures ∙ c.in-Some.is) in
    omega (arith, below, c.requires.few)

pub returns-clause-value : goal.returns-clause-value
returns-clause-value c = λ own domain slots.
    let found : first_free own.slots (drafted c.args.draft.now) ≡ Some c.in-Some.slot =
    ap (λ (n : ℕ). first_free n (drafted c.args.draft.now)) slots ∙ sym c.first_free.ensures
    ∙ c.in-Some.is in
    ap (λ (d : Datum). Good d) (c.in_ok-name.ensures.value own domain)
    ∙ ap (λ (free : Option ℕ). option_map_or (λ s. Good (slot_name own s)) free
    (Fail temporarily_unavailable)) (sym found)

pub returns-clause-draft : goal.returns-clause-draft
returns-clause-draft c =
    let d = c.args.draft.now in
    let found = sym c.first_free.ensures ∙ c.in-Some.is in
    let new = c.in_ok-hand_out.ensures in
    record {
      bank = ap (λ (x : Drafted). x.bank) new;
      ordinal = ap (λ (x : Drafted). x.ordinal) new;
      slots = ap drafted new ∙ handed-more d.ordinal d.handed c.in-Some.slot d.bank
          ∙ ap (λ (free : Option ℕ). handed_by d.ordinal free (drafted d)) (sym found);
    }
