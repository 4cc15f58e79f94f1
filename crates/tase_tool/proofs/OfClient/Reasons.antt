-- Which part of the outside is the reason of a failure of a client's command.
use Rattle.std.proofs.Common.{◌≡◌, ℕ, List, [], ◌∷◌, inl, inr}
use Rattle.outside.specs.Names.Outside.{OutsideTold}
use Rattle.bilateral.specs.Rows.{CentreRows}
use Rattle.commands.specs.declared.io.status.Status.{Status}
use Rattle.commands.specs.declared.io.status.Status.TheVariants as statuses
use Rattle.commands.specs.Io.OutsideUse.{HasReason, source_faults}
use Rattle.commands.proofs.OfIo.Entries.{failed_faulty}
use Rattle.commands.specs.Words.Words.{ClientTask}
use Rattle.tase_tool.specs.Client.Playing.{PlaysAtNode, HasFaultyPart}
use Rattle.tase_tool.proofs.OfAsking.Objects.{opened_faulty}
use Rattle.tase_tool.proofs.OfClient.Played.{played_failed, gone_named, told_named}

pub played_faulty : (task : ClientTask) (rows : CentreRows) (text : List ℕ) (t a : OutsideTold)
    (status : Status) → PlaysAtNode task rows text t a status → status ≡ statuses.Outside
    → HasFaultyPart task t a
played_faulty task rows text t a status over is =
    opened_faulty (task.tables ∷ task.script ∷ []) task.address t over.opened over.plays.mid a
    over.link over.plays.gone over.sink over.plays.told over.opens over.plays.leaves
    over.plays.closes (gone_named rows text over.link over.sink over.opened a status over.plays)
    (told_named rows text over.link over.sink over.opened a status over.plays)
    (played_failed rows text over.link over.sink over.opened a status over.plays is)

pub tables_faulty : (task : ClientTask) (b a : OutsideTold) → HasReason (task.tables ∷ []) [] b a
    → HasFaultyPart task b a
tables_faulty task b a (inl (inl failed)) =
    inl (inl (failed_faulty source_faults (b.sources task.tables) (a.sources task.tables) failed))
tables_faulty task b a (inl (inr none)) = absurd none
tables_faulty task b a (inr none) = absurd none

pub script_faulty : (task : ClientTask) (b a : OutsideTold) → HasReason (task.script ∷ []) [] b a
    → HasFaultyPart task b a
script_faulty task b a (inl (inl failed)) =
    inl (inr (inl (failed_faulty source_faults (b.sources task.script) (a.sources task.script)
    failed)))
script_faulty task b a (inl (inr none)) = absurd none
script_faulty task b a (inr none) = absurd none
