-- A node's entries as pairs of a seat's number and an event, and what a step makes of them.
use Rattle.std.proofs.Common.{◌≡◌, ℕ, List, [], ◌∷◌, ◌++◌, map, reverse, refl, sym, ap, subst, ◌∙◌}
use Rattle.std.proofs.Common.{Result, Ok, Err, IfOk, IfErr, OnOk, OnErr}
use Rattle.std.proofs.lemmas.List.{map-append}
use Rattle.tase_views.specs.declared.event.Entry.{Entry}
use Rattle.tase_views.specs.declared.event.EventKind.{EventKind}
use Rattle.tase_views.specs.declared.fault.StepFault.{StepFault}
use Rattle.tase_views.specs.declared.reply.Answer.{Answer}
use Rattle.tase_views.specs.Setup.{Setup}
use Rattle.tase_views.specs.Outcomes.{IsRightOutcome}
use Rattle.node_core.specs.NodeState.{NodeState, with_entry}
use Rattle.node_server.specs.Turn.Logged.{turn_setup, turn_log, logged_entry, IsRightTurn}

paired_back : (history : List Entry) → map logged_entry (turn_log history) ≡ history
paired_back [] = refl
paired_back (e ∷ history) = ap (λ (l : List Entry). e ∷ l) (paired_back history)

pub right_paired : (setup : Setup) (history : List Entry) (who : ℕ) (event : EventKind)
    (outcome : Result Answer StepFault)
    → IsRightOutcome setup (reverse history) who event outcome
    → IsRightTurn (turn_setup setup) (turn_log history) who event outcome
right_paired setup history who event outcome right =
    subst (λ (h : List Entry). IsRightOutcome setup (reverse h) who event outcome)
    (sym (paired_back history)) right

module _ (old new : NodeState) (who : ℕ) (event : EventKind) where
  pub setup_kept : (outcome : Result Answer StepFault)
      → OnOk outcome (new ≡ with_entry old who event) → OnErr outcome (new ≡ old)
      → turn_setup new.setup ≡ turn_setup old.setup
  setup_kept (Ok answer) ok err = ap (λ (n : NodeState). turn_setup n.setup) ok
  setup_kept (Err fault) ok err = ap (λ (n : NodeState). turn_setup n.setup) err

  pub entry_added : (outcome : Result Answer StepFault)
      → OnOk outcome (new ≡ with_entry old who event)
      → IfOk outcome (λ _. turn_log new.history ≡ turn_log old.history ++ (who, event) ∷ [])
  entry_added (Ok answer) ok = ap (λ (n : NodeState). turn_log n.history) ok
      ∙ map-append (λ (e : Entry). (e.who, e.event)) old.history
      (record { who = who; event = event } ∷ [])
  entry_added (Err fault) ok = tt

  pub none_added : (outcome : Result Answer StepFault) → OnErr outcome (new ≡ old)
      → IfErr outcome (λ _. turn_log new.history ≡ turn_log old.history)
  none_added (Ok answer) err = tt
  none_added (Err fault) err = ap (λ (n : NodeState). turn_log n.history) err
