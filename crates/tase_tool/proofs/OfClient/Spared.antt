-- Where no part of the outside has an older fault, and none fails, none is counted.
use Rattle.std.proofs.Common.{◌≡◌, ◌≢◌, ◌∙◌, ℕ, List, [], ◌∷◌, ap, subst, inl, inr}
use Rattle.std.specs.Prelude.{Result, Ok, Err, Vec, codes}
use Rattle.std.specs.declared.alloc.Global.{Global}
use Rattle.outside.specs.Names.Outside.{OutsideTold}
use Rattle.bilateral.specs.Rows.{CentreRows}
use Rattle.commands.specs.declared.io.status.Status.{Status}
use Rattle.commands.specs.declared.io.status.Status.TheVariants as statuses
use Rattle.commands.specs.declared.io.input.TheConstants.{TEXT_LIMIT}
use Rattle.commands.specs.declared.io.input.InputEnd.{InputEnd}
use Rattle.commands.specs.declared.io.input.InputEnd.TheVariants.{Refused, Outside}
use Rattle.commands.specs.declared.io.input.Refusal.TheVariants.{BadLine}
use Rattle.commands.specs.Io.Inputs.{ReadsInput}
use Rattle.commands.specs.Io.Plans.{ReadsValue}
use Rattle.commands.specs.Words.Words.{ClientTask}
use Rattle.commands.specs.Files.Tables.{tables_in}
use Rattle.tase_tool.specs.Asking.Opening.{OpensEach}
use Rattle.tase_tool.specs.Client.Playing.{PlaysAtNode, PlaysScript, GoesBehindScript}
use Rattle.tase_tool.specs.Client.Playing.{GoesBehindTables, HasCleanParts}
use Rattle.tase_tool.proofs.OfAsking.Inputs.{kept_or_lost, read_same, read_unlost, unread_same}
use Rattle.tase_tool.proofs.OfAsking.Inputs.{value_or_lost}
use Rattle.tase_tool.proofs.OfAsking.Objects.{clean_behind, opened_clean}
use Rattle.tase_tool.proofs.OfClient.Played.{played_same}

-- ---- what was handed out

over_same : (task : ClientTask) (rows : CentreRows) (text : List ℕ) (t a : OutsideTold)
    (status : Status) → PlaysAtNode task rows text t a status → HasCleanParts task t
    → status ≢ statuses.Outside → a.faults ≡ t.faults
over_same task rows text t a status over clean other =
    let opens : OpensEach task.address t over.opened over.link over.sink = over.opens in
    let new = opened_clean (task.tables ∷ task.script ∷ []) task.address t over.opened over.link
    over.sink opens clean in
    played_same rows text over.link over.sink over.opened a status over.plays other new.0 new.1
    ∙ opens.opens.faults ∙ opens.connects.faults

-- ---- the command

text_same : (task : ClientTask) (rows : CentreRows) (text : List ℕ) (m a : OutsideTold)
    (status : Status) → PlaysScript task rows text m a status → HasCleanParts task m
    → status ≢ statuses.Outside → a.faults ≡ m.faults
text_same task rows text m a status (inl (inl over)) clean other =
    over_same task rows text m a status over clean other
text_same task rows text m a status (inl (inr unconnected)) clean other =
    absurd (other unconnected.answers)
text_same task rows text m a status (inr (inl refuses)) clean other =
    unread_same (codes "script") (Refused (BadLine refuses.fault.line)) m a status refuses.told
    clean.1.0 other
text_same task rows text m a status (inr (inr wanting)) clean other =
    ap (λ (o : OutsideTold). o.faults) wanting.1

-- once the script was read, and wasn't lost
behind_script : (task : ClientTask) (rows : CentreRows) (read : Result (Vec ℕ Global) InputEnd)
    (m a : OutsideTold) (status : Status) → GoesBehindScript task rows read m a status
    → HasCleanParts task m → status ≢ statuses.Outside → a.faults ≡ m.faults
behind_script task rows (Ok text) m a status goes clean other =
    text_same task rows text.items m a status goes clean other
behind_script task rows (Err end) m a status goes clean other =
    unread_same (codes "script") end m a status goes clean.1.0 other

lost_script : {P : Type 0} (task : ClientTask) (rows : CentreRows)
    (read : Result (Vec ℕ Global) InputEnd) (m a : OutsideTold) (status : Status)
    → read ≡ Err Outside → GoesBehindScript task rows read m a status
    → status ≢ statuses.Outside → P
lost_script {P} task rows read m a status lost goes other =
    let ended : GoesBehindScript task rows (Err Outside) m a status =
    subst (λ (r : Result (Vec ℕ Global) InputEnd). GoesBehindScript task rows r m a status) lost
    goes in absurd (other ended.0)

script_same : (task : ClientTask) (rows : CentreRows) (read : Result (Vec ℕ Global) InputEnd)
    (b m a : OutsideTold) (status : Status) → ReadsInput b m task.script TEXT_LIMIT read
    → GoesBehindScript task rows read m a status → HasCleanParts task b
    → status ≢ statuses.Outside → a.faults ≡ b.faults
script_same task rows read b m a status reads goes clean other = elim (kept_or_lost read) [
  | inl kept ↦
      let uses = read_unlost b m task.script TEXT_LIMIT read reads kept in
      behind_script task rows read m a status goes
      (clean_behind (task.tables ∷ task.script ∷ []) task.address (task.script ∷ []) b m uses
      clean) other
      ∙ read_same b m task.script uses clean.0.1.0
  | inr lost ↦ lost_script task rows read m a status lost goes other
]

behind_tables : (task : ClientTask) (read : Result CentreRows InputEnd) (m a : OutsideTold)
    (status : Status) → GoesBehindTables task read m a status → HasCleanParts task m
    → status ≢ statuses.Outside → a.faults ≡ m.faults
behind_tables task (Ok rows) m a status goes clean other =
    script_same task rows goes.read m goes.mid a status goes.reads goes.goes clean other
behind_tables task (Err end) m a status goes clean other =
    unread_same (codes "tables") end m a status goes clean.1.0 other

lost_tables : {P : Type 0} (task : ClientTask) (read : Result CentreRows InputEnd)
    (m a : OutsideTold) (status : Status) → read ≡ Err Outside
    → GoesBehindTables task read m a status → status ≢ statuses.Outside → P
lost_tables {P} task read m a status lost goes other =
    let ended : GoesBehindTables task (Err Outside) m a status =
    subst (λ (r : Result CentreRows InputEnd). GoesBehindTables task r m a status) lost goes in
    absurd (other ended.0)

pub command_same : (task : ClientTask) (read : Result CentreRows InputEnd) (b m a : OutsideTold)
    (status : Status) → ReadsValue tables_in task.tables TEXT_LIMIT read b m
    → GoesBehindTables task read m a status → HasCleanParts task b
    → status ≢ statuses.Outside → a.faults ≡ b.faults
command_same task read b m a status reads goes clean other =
    elim (value_or_lost tables_in reads.0 read reads.2) [
      | inl kept ↦
          let uses = read_unlost b m task.tables TEXT_LIMIT reads.0 reads.1 kept in
          behind_tables task read m a status goes
          (clean_behind (task.tables ∷ task.script ∷ []) task.address (task.tables ∷ []) b m
          uses clean) other
          ∙ read_same b m task.tables uses clean.0.0
      | inr lost ↦ lost_tables task read m a status lost goes other
    ]
