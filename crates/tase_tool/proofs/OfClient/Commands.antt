-- A run of a client's command: what it answers, and why a failure is answered.
use Rattle.std.proofs.Common.{◌≡◌, ◌⊎◌, ℕ, true, List, [], ◌∷◌, None, refl, sym, ap, subst}
use Rattle.std.proofs.Common.{inl, inr}
use Rattle.std.specs.Prelude.{Result, Ok, Err, Vec, codes}
use Rattle.std.specs.declared.alloc.Global.{Global}
use Rattle.outside.specs.Names.Outside.{OutsideTold}
use Rattle.bilateral.specs.Rows.{CentreRows}
use Rattle.commands.specs.declared.io.status.Status.{Status}
use Rattle.commands.specs.declared.io.status.Status.TheVariants as statuses
use Rattle.commands.specs.declared.io.input.TheConstants.{TEXT_LIMIT}
use Rattle.commands.specs.declared.io.input.Refusal.TheVariants.{BadLine}
use Rattle.commands.specs.declared.io.input.InputEnd.{InputEnd}
use Rattle.commands.specs.declared.io.input.InputEnd.TheVariants.{Refused, Outside, Memory}
use Rattle.commands.specs.Io.Statuses.{is_outside}
use Rattle.commands.specs.Io.Inputs.{ReadsInput}
use Rattle.commands.specs.Io.OutsideUse.{HasReason, Rises}
use Rattle.commands.specs.Io.Runs.{output_name, EndsUnread}
use Rattle.commands.specs.Io.Plans.{ReadsValue}
use Rattle.commands.proofs.OfIo.Leaving.{Rises-after}
use Rattle.commands.proofs.OfIo.Entries.{IsKept}
use Rattle.commands.specs.Words.Words.{ClientTask}
use Rattle.commands.specs.Files.Tables.{tables_in}
use Rattle.tase_tool.specs.Asking.Opening.{OpensBoth}
use Rattle.tase_tool.specs.Client.Ending.{checkback_line}
use Rattle.tase_tool.specs.Client.Playing.{GoesBehindScript, GoesBehindTables}
use Rattle.tase_tool.specs.Client.Playing.{PlaysAtNode, PlaysScript, HasFaultyPart, IsScriptDone}
use Rattle.tase_tool.proofs.OfAsking.Faults.{opened_grows, unopened_rises}
use Rattle.tase_tool.proofs.OfAsking.Inputs.{behind_unread, input_grows, input_kept, lost}
use Rattle.tase_tool.proofs.OfAsking.Inputs.{tables_grow, tables_rise, unread_unasked}
use Rattle.tase_tool.proofs.OfAsking.Inputs.{unread_unfinished, value_lost}
use Rattle.tase_tool.proofs.OfAsking.Objects as objects
use Rattle.tase_tool.proofs.OfAsking.Told.{run_finished, run_unasked}
use Rattle.tase_tool.proofs.OfClient.Played.{played_rises}
use Rattle.tase_tool.proofs.OfClient.Reasons.{played_faulty, tables_faulty, script_faulty}

-- ---- behind the script

module _ (task : ClientTask) (rows : CentreRows) (text : List ℕ) (before after : OutsideTold)
    (status : Status) where
  over_rises : PlaysAtNode task rows text before after status → status ≡ statuses.Outside
      → Rises before.faults after.faults
  over_rises over is = Rises-after before.faults over.opened.faults after.faults
      (opened_grows task.address before over.opened over.link over.sink over.opens)
      (played_rises rows text over.link over.sink over.opened after status over.plays is)

  text_rises : PlaysScript task rows text before after status → status ≡ statuses.Outside
      → Rises before.faults after.faults
  text_rises (inl (inl over)) is = over_rises over is
  text_rises (inl (inr unconnected)) is =
      unopened_rises task.address before after unconnected.unopened
  text_rises (inr (inl refuses)) is = refuses.told.0.uses.counted.cause (ap is_outside is)
  text_rises (inr (inr wanting)) is = absurd cc

  text_unasked : PlaysScript task rows text before after status → status ≡ statuses.Usage → ⊥
  text_unasked (inl (inl over)) is = run_unasked true checkback_line over.plays.end
      over.plays.shown over.plays.told status over.plays.tells is
  text_unasked (inl (inr unconnected)) is = absurd cc
  text_unasked (inr (inl refuses)) is = unread_unasked (codes "script")
      (Refused (BadLine refuses.fault.line)) before after status refuses.told is
  text_unasked (inr (inr wanting)) is = absurd cc

script_rises : (task : ClientTask) (rows : CentreRows) (read : Result (Vec ℕ Global) InputEnd)
    (b m a : OutsideTold) (status : Status) → ReadsInput b m task.script TEXT_LIMIT read
    → GoesBehindScript task rows read m a status → status ≡ statuses.Outside
    → Rises b.faults a.faults
script_rises task rows (Ok text) b m a status reads goes is =
    Rises-after b.faults m.faults a.faults
    (input_grows b m task.script TEXT_LIMIT (Ok text) reads)
    (text_rises task rows text.items m a status goes is)
script_rises task rows (Err end) b m a status reads goes is =
    behind_unread (codes "script") end b m a status
    (input_grows b m task.script TEXT_LIMIT (Err end) reads)
    (λ same. reads.opens.uses.counted.cause
    (lost (Err end) (ap (λ (e : InputEnd). Err e) same))) goes is

script_unasked : (task : ClientTask) (rows : CentreRows) (read : Result (Vec ℕ Global) InputEnd)
    (m a : OutsideTold) (status : Status) → GoesBehindScript task rows read m a status
    → status ≡ statuses.Usage → ⊥
script_unasked task rows (Ok text) m a status goes is =
    text_unasked task rows text.items m a status goes is
script_unasked task rows (Err end) m a status goes is =
    unread_unasked (codes "script") end m a status goes is

-- ---- behind the tables

pub command_rises : (task : ClientTask) (read : Result CentreRows InputEnd) (b m a : OutsideTold)
    (status : Status) → ReadsValue tables_in task.tables TEXT_LIMIT read b m
    → GoesBehindTables task read m a status → status ≡ statuses.Outside → Rises b.faults a.faults
command_rises task (Ok rows) b m a status reads goes is =
    Rises-after b.faults m.faults a.faults
    (tables_grow tables_in task.tables TEXT_LIMIT (Ok rows) b m reads)
    (script_rises task rows goes.read m goes.mid a status goes.reads goes.goes is)
command_rises task (Err end) b m a status reads goes is =
    behind_unread (codes "tables") end b m a status
    (tables_grow tables_in task.tables TEXT_LIMIT (Err end) b m reads)
    (λ same. tables_rise tables_in task.tables TEXT_LIMIT (Err end) b m reads
    (ap (λ (e : InputEnd). Err e) same)) goes is

pub command_unasked : (task : ClientTask) (read : Result CentreRows InputEnd) (m a : OutsideTold)
    (status : Status) → GoesBehindTables task read m a status → status ≡ statuses.Usage → ⊥
command_unasked task (Ok rows) m a status goes is =
    script_unasked task rows goes.read goes.mid a status goes.goes is
command_unasked task (Err end) m a status goes is =
    unread_unasked (codes "tables") end m a status goes is

-- ---- the reason of a failure

abbrev names : ClientTask → List (List ℕ)
names task = task.tables ∷ task.script ∷ []

faulty_behind : (task : ClientTask) (b m a : OutsideTold) → IsKept b m → HasFaultyPart task m a
    → HasFaultyPart task b a
faulty_behind task b m a first faulty =
    objects.faulty_behind (names task) task.address b m a first faulty

unopened_faulty : (task : ClientTask) (t a : OutsideTold) → OpensBoth task.address t a None
    → HasFaultyPart task t a
unopened_faulty task t a unopened =
    objects.unopened_faulty (names task) task.address t a unopened

printing_faulty : (task : ClientTask) (b a : OutsideTold) → HasReason [] (output_name ∷ []) b a
    → HasFaultyPart task b a
printing_faulty task b a reason =
    objects.printing_faulty (names task) task.address b a reason

unread_reason : (task : ClientTask) (called : List ℕ) (end : InputEnd) (m a : OutsideTold)
    (status : Status) → EndsUnread called end m a status → status ≡ statuses.Outside
    → HasFaultyPart task m a ⊎ ((end ≡ Outside) × (a ≡ m))
unread_reason task called (Refused refusal) m a status ends is =
    inl (printing_faulty task m a (ends.0.uses.counted.reason (ap is_outside is)))
unread_reason task called Outside m a status ends is = inr (refl, ends.1)
unread_reason task called Memory m a status ends is = absurd cc

unread_faulty : (task : ClientTask) (called : List ℕ) (end : InputEnd) (b m a : OutsideTold)
    (status : Status) → IsKept b m → (end ≡ Outside → HasFaultyPart task b m)
    → EndsUnread called end m a status → status ≡ statuses.Outside → HasFaultyPart task b a
unread_faulty task called end b m a status kept faulty ends is =
    elim (unread_reason task called end m a status ends is) [
      | inl later ↦ faulty_behind task b m a kept later
      | inr same ↦ subst (λ (o : OutsideTold). HasFaultyPart task b o) (sym same.1)
          (faulty same.0)
    ]

text_faulty : (task : ClientTask) (rows : CentreRows) (text : List ℕ) (m a : OutsideTold)
    (status : Status) → PlaysScript task rows text m a status → status ≡ statuses.Outside
    → HasFaultyPart task m a
text_faulty task rows text m a status (inl (inl over)) is =
    played_faulty task rows text m a status over is
text_faulty task rows text m a status (inl (inr unconnected)) is =
    unopened_faulty task m a unconnected.unopened
text_faulty task rows text m a status (inr (inl refuses)) is =
    printing_faulty task m a (refuses.told.0.uses.counted.reason (ap is_outside is))
text_faulty task rows text m a status (inr (inr wanting)) is = absurd cc

script_reason : (task : ClientTask) (rows : CentreRows) (read : Result (Vec ℕ Global) InputEnd)
    (b m a : OutsideTold) (status : Status) → ReadsInput b m task.script TEXT_LIMIT read
    → GoesBehindScript task rows read m a status → status ≡ statuses.Outside
    → HasFaultyPart task b a
script_reason task rows (Ok text) b m a status reads goes is =
    faulty_behind task b m a (input_kept b m task.script TEXT_LIMIT (Ok text) reads)
    (text_faulty task rows text.items m a status goes is)
script_reason task rows (Err end) b m a status reads goes is =
    unread_faulty task (codes "script") end b m a status
    (input_kept b m task.script TEXT_LIMIT (Err end) reads)
    (λ same. script_faulty task b m (reads.opens.uses.counted.reason
    (lost (Err end) (ap (λ (e : InputEnd). Err e) same)))) goes is

pub command_reason : (task : ClientTask) (read : Result CentreRows InputEnd)
    (b m a : OutsideTold) (status : Status) → ReadsValue tables_in task.tables TEXT_LIMIT read b m
    → GoesBehindTables task read m a status → status ≡ statuses.Outside
    → HasFaultyPart task b a
command_reason task (Ok rows) b m a status reads goes is =
    faulty_behind task b m a (input_kept b m task.tables TEXT_LIMIT reads.0 reads.1)
    (script_reason task rows goes.read m goes.mid a status goes.reads goes.goes is)
command_reason task (Err end) b m a status reads goes is =
    unread_faulty task (codes "tables") end b m a status
    (input_kept b m task.tables TEXT_LIMIT reads.0 reads.1)
    (λ same. tables_faulty task b m (reads.1.opens.uses.counted.reason
    (value_lost tables_in reads.0 (Err end) reads.2 (ap (λ (e : InputEnd). Err e) same)))) goes is

-- ---- the script is done

text_done : (task : ClientTask) (rows : CentreRows) (text : Vec ℕ Global) (b m l a : OutsideTold)
    → ReadsValue tables_in task.tables TEXT_LIMIT (Ok rows) b m
    → ReadsInput m l task.script TEXT_LIMIT (Ok text)
    → PlaysScript task rows text.items l a statuses.Done → IsScriptDone task b a
text_done task rows text b m l a tables reads (inl (inl over)) = record {
  rows = rows;
  text = text;
  mid = m;
  last = l;
  tables = tables;
  reads = reads;
  plays = over;
  finished = (run_finished true checkback_line over.plays.end over.plays.shown over.plays.told
      true over.plays.tells).0;
}
text_done task rows text b m l a tables reads (inl (inr unconnected)) =
    absurd (let e : statuses.Done ≡ statuses.Outside = unconnected.answers in cc)
text_done task rows text b m l a tables reads (inr (inl refuses)) =
    unread_unfinished (codes "script") (Refused (BadLine refuses.fault.line)) l a true refuses.told
text_done task rows text b m l a tables reads (inr (inr wanting)) =
    absurd (let e : statuses.Done ≡ statuses.Memory = wanting.0 in cc)

script_done : (task : ClientTask) (rows : CentreRows) (read : Result (Vec ℕ Global) InputEnd)
    (b m l a : OutsideTold) → ReadsValue tables_in task.tables TEXT_LIMIT (Ok rows) b m
    → ReadsInput m l task.script TEXT_LIMIT read → GoesBehindScript task rows read l a statuses.Done
    → IsScriptDone task b a
script_done task rows (Ok text) b m l a tables reads goes =
    text_done task rows text b m l a tables reads goes
script_done task rows (Err end) b m l a tables reads goes =
    unread_unfinished (codes "script") end l a true goes

behind_done : (task : ClientTask) (read : Result CentreRows InputEnd) (b m a : OutsideTold)
    → ReadsValue tables_in task.tables TEXT_LIMIT read b m
    → GoesBehindTables task read m a statuses.Done → IsScriptDone task b a
behind_done task (Ok rows) b m a tables goes =
    script_done task rows goes.read b m goes.mid a tables goes.reads goes.goes
behind_done task (Err end) b m a tables goes =
    unread_unfinished (codes "tables") end m a true goes

pub command_done : (task : ClientTask) (read : Result CentreRows InputEnd) (b m a : OutsideTold)
    (status : Status) → ReadsValue tables_in task.tables TEXT_LIMIT read b m
    → GoesBehindTables task read m a status → status ≡ statuses.Done → IsScriptDone task b a
command_done task read b m a status tables goes is =
    behind_done task read b m a tables
    (subst (λ (s : Status). GoesBehindTables task read m a s) is goes)
