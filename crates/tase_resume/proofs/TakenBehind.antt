-- Each entry of a snapshot is one of the centre's seat that a node takes behind those before it,
-- unless its history may weigh less than a snapshot may.
use Rattle.std.proofs.Common.{◌≡◌, ◌==◌, ℕ, Bool, true, false, ◌&&◌, if◌then◌else◌, List, [], ◌∷◌}
use Rattle.std.proofs.Common.{◌++◌, reverse, Option, Some, None, refl, sym, ap, subst, ◌∙◌, suc}
use Rattle.std.proofs.Common.{◌<◌, length, take, drop, get_or, drop-cons}
use Rattle.std.specs.Prelude.{is_none, option_and_then}
use Rattle.std.proofs.lemmas.Bool.{eqb-true}
use Rattle.std.proofs.lemmas.Option.{none-some}
use Rattle.std.proofs.lemmas.List.{append_assoc, append-nil, reverse-append, take-append-drop}
use Rattle.bilateral.specs.Rows.{CentreRows}
use Rattle.tase_views.specs.declared.event.Entry.{Entry}
use Rattle.tase_views.specs.declared.event.EventKind.{EventKind}
use Rattle.tase_views.specs.declared.fault.StepFault.{StepFault}
use Rattle.tase_views.specs.declared.fault.StepFault.TheVariants.{Memory, Stopped, HistoryFull}
use Rattle.tase_views.specs.declared.fault.StepFault.TheVariants.{NoAssociation, Already}
use Rattle.tase_views.specs.declared.fault.StepFault.TheVariants.{UnknownName, ClockRange, Backward}
use Rattle.tase_views.specs.Setup.{Setup}
use Rattle.tase_views.specs.History.{Past, association_in}
use Rattle.tase_views.specs.Outcomes.{stop_refusal, seat_refusal, name_refusal, first_refusal}
use Rattle.tase_views.specs.Outcomes.{clock_refusal, weight_refusal, refusal_of}
use Rattle.node_core.specs.NodeState.{NodeState}
use Rattle.tase_resume.specs.Snapshots.{SnapshotState, no_lines, snapshot_setup, line_taken}
use Rattle.tase_resume.specs.Snapshots.{snapshot_with, snapshot_behind, IsSnapshot}
use Rattle.tase_resume.specs.Resuming.{IsCause, IsCutFor, IsCut}
use Rattle.tase_resume.proofs.ReadBack.{grows}

-- an entry that may follow is of the centre's seat, and a node takes it
allowed_by : (rows : CentreRows) (state after : SnapshotState) (entry : Entry)
    → snapshot_with rows state entry ≡ Some after
    → (entry.who ≡ 0) × (refusal_of (snapshot_setup rows) state.past 0 entry.event ≡ None)
allowed_by rows state after entry e =
    by (entry.who == 0) refl (refusal_of (snapshot_setup rows) state.past 0 entry.event) refl e
  where
    by : (b : Bool) → (entry.who == 0) ≡ b → (r : Option StepFault)
        → refusal_of (snapshot_setup rows) state.past 0 entry.event ≡ r
        → (if b && is_none r then line_taken rows state entry state.defining else None)
        ≡ Some after
        → (entry.who ≡ 0) × (refusal_of (snapshot_setup rows) state.past 0 entry.event ≡ None)
    by true p None q f = (eqb-true entry.who 0 p, q)
    by true p (Some fault) q f = absurd (none-some after f)
    by false p r q f = absurd (none-some after f)

taken_behind : (rows : CentreRows) (taken : List Entry) (entry : Entry) (rest : List Entry)
    (state final : SnapshotState)
    → snapshot_behind rows state (taken ++ entry ∷ rest) ≡ Some final
    → (entry.who ≡ 0)
    × (refusal_of (snapshot_setup rows) (reverse taken ++ state.past) 0 entry.event ≡ None)
taken_behind rows [] entry rest state final e = by (snapshot_with rows state entry) refl e
  where
    by : (found : Option SnapshotState) → snapshot_with rows state entry ≡ found
        → option_and_then (λ after. snapshot_behind rows after rest) found ≡ Some final
        → (entry.who ≡ 0)
        × (refusal_of (snapshot_setup rows) state.past 0 entry.event ≡ None)
    by None is f = absurd (none-some final f)
    by (Some after) is f = allowed_by rows state after entry is
taken_behind rows (first ∷ taken) entry rest state final e =
    by (snapshot_with rows state first) refl e
    (λ after f. taken_behind rows taken entry rest after final f)
  where
    by : (found : Option SnapshotState) → snapshot_with rows state first ≡ found
        → option_and_then (λ after. snapshot_behind rows after (taken ++ entry ∷ rest)) found
        ≡ Some final
        → ((after : SnapshotState)
        → snapshot_behind rows after (taken ++ entry ∷ rest) ≡ Some final
        → (entry.who ≡ 0)
        × (refusal_of (snapshot_setup rows) (reverse taken ++ after.past) 0 entry.event ≡ None))
        → (entry.who ≡ 0)
        × (refusal_of (snapshot_setup rows) (reverse (first ∷ taken) ++ state.past) 0 entry.event
        ≡ None)
    by None is f more = absurd (none-some final f)
    by (Some after) is f more =
        let w = more after f in
        let same : reverse taken ++ after.past ≡ reverse (first ∷ taken) ++ state.past =
        ap (λ (p : Past). reverse taken ++ p) (grows rows state after first is)
        ∙ sym (append_assoc (reverse taken) (first ∷ []) state.past)
        ∙ sym (ap (λ (l : List Entry). l ++ state.past) (reverse-append (first ∷ []) taken)) in (
          w.0,
          subst (λ (p : Past). refusal_of (snapshot_setup rows) p 0 entry.event ≡ None) same
              w.1,
        )

-- another limit refuses for the weight alone
last_left : (a b c d e f : Option StepFault) → first_refusal (a ∷ b ∷ c ∷ d ∷ e ∷ []) ≡ None
    → first_refusal (a ∷ b ∷ c ∷ d ∷ f ∷ []) ≡ f
last_left None None None None e None is = refl
last_left None None None None e (Some fault) is = refl
last_left None None None (Some fault) e f is = absurd (none-some fault (sym is))
last_left None None (Some fault) d e f is = absurd (none-some fault (sym is))
last_left None (Some fault) c d e f is = absurd (none-some fault (sym is))
last_left (Some fault) b c d e f is = absurd (none-some fault (sym is))

weight_left : (setup : Setup) (past : Past) (event : EventKind)
    → refusal_of (snapshot_setup setup.centre) past 0 event ≡ None
    → refusal_of setup past 0 event ≡ weight_refusal setup past event
weight_left setup past event is =
    last_left (stop_refusal past event) (seat_refusal (association_in past 0) event)
    (name_refusal setup.centre event) (clock_refusal past event)
    (weight_refusal (snapshot_setup setup.centre) past event) (weight_refusal setup past event) is

full_alone : (b : Bool) (weight limit : ℕ) (fault : StepFault)
    → IsCause (if b then Some (HistoryFull weight limit) else None) fault
    → IsCutFor (if b then Some (HistoryFull weight limit) else None) fault
full_alone b weight limit Memory is = tt
full_alone b weight limit (HistoryFull w l) is = is
full_alone true weight limit (Stopped place) is = cc
full_alone true weight limit NoAssociation is = cc
full_alone true weight limit Already is = cc
full_alone true weight limit UnknownName is = cc
full_alone true weight limit ClockRange is = cc
full_alone true weight limit (Backward last) is = cc
full_alone false weight limit (Stopped place) is = none-some (Stopped place) is
full_alone false weight limit NoAssociation is = none-some NoAssociation is
full_alone false weight limit Already is = none-some Already is
full_alone false weight limit UnknownName is = none-some UnknownName is
full_alone false weight limit ClockRange is = none-some ClockRange is
full_alone false weight limit (Backward last) is = none-some (Backward last) is

-- an entry of a snapshot that a node doesn't take behind those before it
pub cut_at : (old new : NodeState) (entries taken : List Entry) (refused : Entry)
    (rest : List Entry) (fault : StepFault) → IsSnapshot old.setup.centre entries
    → entries ≡ taken ++ refused ∷ rest → new ≡ record old { history = taken }
    → IsCause (refusal_of old.setup (reverse taken) refused.who refused.event) fault
    → IsCut old new entries fault
cut_at old new entries taken refused rest fault is parts history cause =
    let rows = old.setup.centre in
    let within = taken_behind rows taken refused rest no_lines is.0
    (ap (snapshot_behind rows no_lines) (sym parts) ∙ is.1) in
    let free : refusal_of (snapshot_setup rows) (reverse taken) 0 refused.event ≡ None =
    ap (λ (p : Past). refusal_of (snapshot_setup rows) p 0 refused.event)
    (sym (append-nil (reverse taken))) ∙ within.1 in
    let same : refusal_of old.setup (reverse taken) refused.who refused.event
    ≡ weight_refusal old.setup (reverse taken) refused.event =
    ap (λ who. refusal_of old.setup (reverse taken) who refused.event) within.0
    ∙ weight_left old.setup (reverse taken) refused.event free in
    record {
      taken = taken;
      refused = refused;
      rest = rest;
      parts = parts;
      history = history;
      cause = subst (λ (r : Option StepFault). IsCutFor r fault) (sym same)
          (full_by old.setup (reverse taken) refused.event fault
          (subst (λ (r : Option StepFault). IsCause r fault) same cause));
    }
  where
    full_by : (setup : Setup) (past : Past) (event : EventKind) (fault : StepFault)
        → IsCause (weight_refusal setup past event) fault
        → IsCutFor (weight_refusal setup past event) fault
    full_by setup past event fault is = full_alone _ _ _ fault is

-- the same of an entry at a place, behind those before it
pub cut_behind : (first old new : NodeState) (snapshot entries : List Entry) (k : ℕ) (item : Entry)
    (fault : StepFault) → IsSnapshot first.setup.centre snapshot → entries ≡ snapshot
    → k < length entries → item ≡ get_or entries k item
    → old ≡ record first { history = take k entries } → new ≡ old
    → IsCause (refusal_of old.setup (reverse old.history) item.who item.event) fault
    → IsCut first new snapshot fault
cut_behind first old new snapshot entries k item fault is same within at before stays cause =
    cut_at first new snapshot (take k entries) item (drop (suc k) entries) fault is
    (sym same ∙ sym (take-append-drop k entries)
    ∙ ap (λ (l : List Entry). take k entries ++ l)
    (drop-cons entries k item within
    ∙ ap (λ (x : Entry). x ∷ drop (suc k) entries) (sym at)))
    (stays ∙ before)
    (subst (λ (n : NodeState). IsCause (refusal_of n.setup (reverse n.history) item.who item.event)
    fault) before cause)
