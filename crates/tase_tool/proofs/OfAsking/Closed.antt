-- A run of an asking end over a link and a sink, which are then closed: what that counts.
use Rattle.std.proofs.Common.{◌≡◌, ◌≢◌, ◌⊎◌, ◌∙◌, ℕ, ◌<◌, Bool, List, ap, inl, inr}
use Rattle.std.specs.Prelude.{nat_lt}
use Rattle.outside.specs.Faults.{counted}
use Rattle.outside.specs.Sink.{SinkTold}
use Rattle.outside.specs.Links.Links.{LinkTold}
use Rattle.outside.specs.Names.Outside.{OutsideTold, ClosesOut}
use Rattle.commands.specs.declared.io.status.Status.{Status}
use Rattle.commands.specs.declared.io.status.Status.TheVariants as statuses
use Rattle.commands.specs.Io.OutsideUse.{Rises}
use Rattle.commands.proofs.OfIo.Leaving.{Rises-after, Rises-before, Rises-positive}
use Rattle.tase_discover.specs.AskingEnd.declared.service.run_end.RunEnd.{RunEnd}
use Rattle.tase_discover.specs.AskingEnd.declared.service.run_end.RunEnd.TheVariants as runs
use Rattle.tase_discover.specs.AskingEnd.Service.Runs.{is_link_fault, is_sink_fault}
use Rattle.tase_tool.specs.Asking.Ending.{TellsAsked}
use Rattle.tase_tool.specs.Asking.Opening.{LeavesLink}
use Rattle.tase_tool.proofs.OfAsking.Faults.{counted_grows, faulty_rises}
use Rattle.tase_tool.proofs.OfAsking.Told.{ask_failed, ask_spared}

-- what a run leaves of its link and its sink, by whether each has failed in it
pub record HasLeft (link gone : LinkTold) (sink shown : SinkTold) (link_failed sink_failed : Bool)
    : Type 0 where
  pub gone_counts : gone.faults ≡ counted link_failed link.faults
  pub gone_name : gone.name ≡ link.name
  pub shown_counts : shown.faults ≡ counted sink_failed sink.faults
  pub shown_name : shown.name ≡ sink.name

-- the link or the sink has a fault when it is closed
abbrev pub IsFaulty : LinkTold → SinkTold → Type 0
IsFaulty gone told = (0 < gone.faults) ⊎ (0 < told.faults)

module _ {E : Type 0} (alike : Bool) (line : E → List ℕ) (link gone : LinkTold)
    (sink shown told : SinkTold) (status : Status) where
  pub run_failed : (end : RunEnd E)
      → HasLeft link gone sink shown (is_link_fault end) (is_sink_fault end)
      → TellsAsked alike line end shown told status → status ≡ statuses.Outside
      → IsFaulty gone told
  run_failed (runs.Ended end) left tells is = inr (Rises-positive shown.faults told.faults
      (0, ask_failed alike line end shown told status tells is))
  run_failed runs.LinkFault left tells is =
      inl (Rises-positive link.faults gone.faults (0, left.gone_counts))
  run_failed runs.SinkFault left tells is = inr (Rises-positive sink.faults told.faults
      (0, ap (λ (k : SinkTold). k.faults) tells.1 ∙ left.shown_counts))

  pub run_spared : (end : RunEnd E)
      → HasLeft link gone sink shown (is_link_fault end) (is_sink_fault end)
      → TellsAsked alike line end shown told status → status ≢ statuses.Outside
      → (gone.faults ≡ link.faults) × (told.faults ≡ sink.faults)
  run_spared (runs.Ended end) left tells other = (
    left.gone_counts,
    ask_spared alike line end shown told status tells other ∙ left.shown_counts,
  )
  run_spared runs.LinkFault left tells other = absurd (other tells.0)
  run_spared runs.SinkFault left tells other = absurd (other tells.0)

-- an object without faults isn't counted when it is closed
closed_same : (faults before now : ℕ) → faults ≡ 0 → now ≡ counted (nat_lt 0 faults) before
    → now ≡ before
closed_same faults before now none closed =
    closed ∙ ap (λ (n : ℕ). counted (nat_lt 0 n) before) none

module _ (gone : LinkTold) (told : SinkTold) (b m a : OutsideTold) (leaves : LeavesLink b m gone)
    (closes : ClosesOut m a told) where
  pub closed_rises : IsFaulty gone told → Rises b.faults a.faults
  closed_rises (inl faulty) = Rises-before b.faults m.faults a.faults
      (faulty_rises gone.faults b.faults m.faults faulty leaves.faults)
      (counted_grows _ m.faults a.faults closes.faults)
  closed_rises (inr faulty) = Rises-after b.faults m.faults a.faults
      (counted_grows _ b.faults m.faults leaves.faults)
      (faulty_rises told.faults m.faults a.faults faulty closes.faults)

  pub closed_clean : gone.faults ≡ 0 → told.faults ≡ 0 → a.faults ≡ b.faults
  closed_clean clean_link clean_sink =
      closed_same told.faults m.faults a.faults clean_sink closes.faults
      ∙ closed_same gone.faults b.faults m.faults clean_link leaves.faults
