-- A client that was run over what was opened: a failure has its cause.
use Rattle.std.proofs.Common.{◌≡◌, ◌≢◌, ◌∙◌, ℕ, true, List}
use Rattle.outside.specs.Sink.{SinkTold}
use Rattle.outside.specs.Links.Links.{LinkTold}
use Rattle.outside.specs.Names.Outside.{OutsideTold}
use Rattle.bilateral.specs.Rows.{CentreRows}
use Rattle.commands.specs.declared.io.status.Status.{Status}
use Rattle.commands.specs.declared.io.status.Status.TheVariants.{Outside}
use Rattle.commands.specs.Io.OutsideUse.{Rises}
use Rattle.tase_discover.specs.AskingEnd.Service.Runs.{is_link_fault, is_sink_fault}
use Rattle.tase_tool.specs.Client.Ending.{checkback_line}
use Rattle.tase_tool.specs.Client.Playing.{PlaysOpened}
use Rattle.tase_tool.proofs.OfAsking.Closed.{HasLeft, IsFaulty, closed_clean, closed_rises}
use Rattle.tase_tool.proofs.OfAsking.Closed.{run_failed, run_spared}
use Rattle.tase_tool.proofs.OfAsking.Faults.{link_heard}
use Rattle.tase_tool.proofs.OfAsking.Told.{run_named}

module _ (rows : CentreRows) (text : List ℕ) (link : LinkTold) (sink : SinkTold)
    (before after : OutsideTold) (status : Status)
    (played : PlaysOpened rows text link sink before after status) where
  left : HasLeft link played.gone sink played.shown (is_link_fault played.end)
      (is_sink_fault played.end)
  left =
      let first = link_heard link in
      let over = (played.plays first.0 first.1).plays in
      record {
        gone_counts = over.uses.faults;
        gone_name = over.uses.name;
        shown_counts = over.appends.faults;
        shown_name = over.appends.name;
      }

  pub gone_named : played.gone.name ≡ link.name
  gone_named = left.gone_name

  pub told_named : played.told.name ≡ sink.name
  told_named = run_named true checkback_line played.end played.shown played.told status
      played.tells ∙ left.shown_name

  pub played_failed : status ≡ Outside → IsFaulty played.gone played.told
  played_failed is = run_failed true checkback_line link played.gone sink played.shown played.told
      status played.end left played.tells is

  -- then the count rises
  pub played_rises : status ≡ Outside → Rises before.faults after.faults
  played_rises is = closed_rises played.gone played.told before played.mid after played.leaves
      played.closes (played_failed is)

  -- else nothing is counted that had no fault before
  pub played_same : status ≢ Outside → link.faults ≡ 0 → sink.faults ≡ 0
      → after.faults ≡ before.faults
  played_same other clean_link clean_sink =
      let spared = run_spared true checkback_line link played.gone sink played.shown played.told
      status played.end left played.tells other in
      closed_clean played.gone played.told before played.mid after played.leaves played.closes
      (spared.0 ∙ clean_link) (spared.1 ∙ clean_sink)
