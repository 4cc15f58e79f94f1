use Rattle.std.proofs.Common.{◌<◌, ◌++◌, ℕ, List, length, refl, sym, subst, ap, ◌∙◌, arith}
use Rattle.std.specs.List.{All}
use Rattle.std.proofs.lemmas.List.{append-nil, at_drop_all}
use Rattle.std.proofs.lemmas.List.Elements.{All-nil}
use Rattle.mms_data.specs.declared.outcome.Outcome.{Outcome}
use Rattle.mms_data.specs.ObjectName.{ObjectName}
use Rattle.mms_data.specs.OutcomeOctets.{IsLawfulOutcome}
use Rattle.node_core.specs.Objects.Found.{offered}
use Rattle.node_core.specs.Slots.SlotsKept.{all_read, outcomes_shown, drafted, slots_read}
use Rattle.node_core.specs.Slots.SlotsKept.{object_shown}
use Rattle.tase_views.specs.Objects.{object_named}
use Rattle.node_core.proofs.OfReplies.Answered.{shown-step, read-step, All-pushed}
use Rattle.node_core.proofs.replies.peer_view.PeerView.read.Goals as goal

pub loop-name-init : goal.loop-name-init
loop-name-init c = record {
  value = λ updates tables view s.
      ap (λ (done : List Outcome). done ++ outcomes_shown tables (offered c.args.self.now.table) view
      c.args.draft.now.ordinal c.as_slice-name-items.result.now (drafted c.args.draft.now))
      c.new-results.ensures;
  left = refl;
  bank = refl;
  ordinal = refl;
  lawful = subst (All IsLawfulOutcome) (sym c.new-results.ensures) (All-nil IsLawfulOutcome);
}

pub loop-name-preserved : goal.loop-name-preserved
loop-name-preserved c =
    let own = offered c.args.self.now.table in
    let names = c.as_slice-name-items.result.now in
    let i = c.loop-name.name-index in
    let within : i < length names = omega arith in
    let d = c.loop-name.draft in
    let ordinal = c.loop-name.invariant.ordinal in
    let first = c.args.draft.now.ordinal in
    let drafting = c.in_ok-read_one.ensures.draft in
    let behind = drafting.slots
    ∙ ap (λ (n : ℕ). slots_read own n c.name-item.result (drafted d)) ordinal in
    record {
      value = λ updates tables view s.
          shown-step tables own view first names i c.name-item.result (drafted d)
          (drafted c.read_one.new.draft) c.loop-name.results c.push.new.self
          c.in_ok-read_one.field-0 within c.name-item.is c.in_ok-push.ensures.ok
          (c.in_ok-read_one.ensures.value updates tables view s
          ∙ ap (λ (n : ℕ). object_shown tables own view n (drafted d)
          (object_named own c.name-item.result)) ordinal) behind
          ∙ c.loop-name.invariant.value updates tables view s;
      left = read-step own first names i c.name-item.result (drafted d)
          (drafted c.read_one.new.draft) within c.name-item.is behind
          ∙ c.loop-name.invariant.left;
      bank = drafting.bank ∙ c.loop-name.invariant.bank;
      ordinal = drafting.ordinal ∙ ordinal;
      lawful = All-pushed IsLawfulOutcome _ _ _ c.in_ok-push.ensures.ok c.loop-name.invariant.lawful
          c.in_ok-read_one.ensures.lawful;
    }

pub returns-clause-value : goal.returns-clause-value
returns-clause-value c = λ updates tables view s.
    let own = offered c.args.self.now.table in
    let names = c.as_slice-name-items.result.now in
    let ordinal = c.args.draft.now.ordinal in
    let none = at_drop_all (λ (ns : List ObjectName). outcomes_shown tables own view ordinal ns
    (drafted c.loop-name.draft)) names c.loop-name.name-index (omega arith) in
    sym (append-nil c.loop-name.results)
    ∙ ap (λ (rest : List Outcome). c.loop-name.results ++ rest) (sym none)
    ∙ c.loop-name.invariant.value updates tables view s
    ∙ ap (λ (ns : List ObjectName). outcomes_shown tables own view ordinal ns
    (drafted c.args.draft.now)) c.as_slice-name-items.ensures

pub returns-clause-draft : goal.returns-clause-draft
returns-clause-draft c =
    let own = offered c.args.self.now.table in
    let names = c.as_slice-name-items.result.now in
    let ordinal = c.args.draft.now.ordinal in
    record {
      bank = c.loop-name.invariant.bank;
      ordinal = c.loop-name.invariant.ordinal;
      slots = sym (at_drop_all (λ (ns : List ObjectName). all_read own ordinal ns
          (drafted c.loop-name.draft)) names c.loop-name.name-index (omega arith))
          ∙ c.loop-name.invariant.left
          ∙ ap (λ (ns : List ObjectName). all_read own ordinal ns (drafted c.args.draft.now))
          c.as_slice-name-items.ensures;
    }

pub returns-clause-lawful : goal.returns-clause-lawful
returns-clause-lawful c = c.loop-name.invariant.lawful
