-- A listing that was run over what was opened.
use Rattle.std.proofs.Common.{◌≡◌, ◌≢◌, ◌∙◌, ℕ, [], ◌∷◌}
use Rattle.outside.specs.Sink.{SinkTold}
use Rattle.outside.specs.Links.Links.{LinkTold}
use Rattle.outside.specs.Names.Outside.{OutsideTold}
use Rattle.bilateral.specs.Rows.{CentreRows}
use Rattle.commands.specs.declared.io.status.Status.{Status}
use Rattle.commands.specs.declared.io.status.Status.TheVariants as statuses
use Rattle.commands.specs.Io.OutsideUse.{Rises}
use Rattle.commands.specs.Words.Words.{DiscoverTask}
use Rattle.commands.proofs.OfIo.Leaving.{Rises-after}
use Rattle.tase_discover.specs.AskingEnd.Service.Runs.{is_link_fault, is_sink_fault}
use Rattle.tase_tool.specs.Asking.Parts.{HasFaultyObject, HasCleanObjects}
use Rattle.tase_tool.specs.Discover.Ending.{ended_text, offers_same}
use Rattle.tase_tool.specs.Discover.Discovering.{ListsOpened, ListsAtNode}
use Rattle.tase_tool.proofs.OfAsking.Closed.{HasLeft, IsFaulty, run_failed, run_spared, closed_rises}
use Rattle.tase_tool.proofs.OfAsking.Closed.{closed_clean}
use Rattle.tase_tool.proofs.OfAsking.Faults.{link_heard, opened_grows}
use Rattle.tase_tool.proofs.OfAsking.Objects.{opened_faulty, opened_clean}
use Rattle.tase_tool.proofs.OfAsking.Told.{run_named}

module _ (rows : CentreRows) (peer : ℕ) (link : LinkTold) (sink : SinkTold)
    (before after : OutsideTold) (status : Status)
    (run : ListsOpened rows peer link sink before after status) where
  left : HasLeft link run.gone sink run.shown (is_link_fault run.end) (is_sink_fault run.end)
  left =
      let first = link_heard link in
      let over = run.lists first.0 first.1 in
      record {
        gone_counts = over.uses.faults;
        gone_name = over.uses.name;
        shown_counts = over.appends.faults;
        shown_name = over.appends.name;
      }

  pub gone_named : run.gone.name ≡ link.name
  gone_named = left.gone_name

  pub told_named : run.told.name ≡ sink.name
  told_named =
      run_named (offers_same run.asking) (ended_text run.asking) run.end run.shown run.told status
      run.tells ∙ left.shown_name

  pub lists_failed : status ≡ statuses.Outside → IsFaulty run.gone run.told
  lists_failed is = run_failed (offers_same run.asking) (ended_text run.asking) link run.gone sink
      run.shown run.told status run.end left run.tells is

  pub lists_rises : status ≡ statuses.Outside → Rises before.faults after.faults
  lists_rises is = closed_rises run.gone run.told before run.mid after run.leaves run.closes
      (lists_failed is)

  pub lists_same : status ≢ statuses.Outside → link.faults ≡ 0 → sink.faults ≡ 0
      → after.faults ≡ before.faults
  lists_same other clean_link clean_sink =
      let spared = run_spared (offers_same run.asking) (ended_text run.asking) link run.gone sink
      run.shown run.told status run.end left run.tells other in
      closed_clean run.gone run.told before run.mid after run.leaves run.closes
      (spared.0 ∙ clean_link) (spared.1 ∙ clean_sink)

module _ (task : DiscoverTask) (rows : CentreRows) (peer : ℕ) (t a : OutsideTold)
    (status : Status) (over : ListsAtNode task rows peer t a status) where
  pub node_rises : status ≡ statuses.Outside → Rises t.faults a.faults
  node_rises is = Rises-after t.faults over.opened.faults a.faults
      (opened_grows task.address t over.opened over.link over.sink over.opens)
      (lists_rises rows peer over.link over.sink over.opened a status over.lists is)

  pub node_faulty : status ≡ statuses.Outside
      → HasFaultyObject (task.tables ∷ []) task.address t a
  node_faulty is =
      opened_faulty (task.tables ∷ []) task.address t over.opened over.lists.mid a over.link
      over.lists.gone over.sink over.lists.told over.opens over.lists.leaves over.lists.closes
      (gone_named rows peer over.link over.sink over.opened a status over.lists)
      (told_named rows peer over.link over.sink over.opened a status over.lists)
      (lists_failed rows peer over.link over.sink over.opened a status over.lists is)

  pub node_same : HasCleanObjects (task.tables ∷ []) task.address t → status ≢ statuses.Outside
      → a.faults ≡ t.faults
  node_same clean other =
      let new = opened_clean (task.tables ∷ []) task.address t over.opened over.link over.sink
      over.opens clean in
      lists_same rows peer over.link over.sink over.opened a status over.lists other new.0 new.1
      ∙ over.opens.opens.faults ∙ over.opens.connects.faults
