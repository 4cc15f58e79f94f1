-- What is counted of a play that was kept in memory.
use Rattle.std.proofs.Common.{◌≡◌, ℕ, List, [], true, Some, sym, ap, ◌∙◌, subst}
use Rattle.std.specs.Prelude.{length, unwrap_or}
use Rattle.outside.specs.Sink.{SinkTold}
use Rattle.outside.specs.Names.Outside.{OutsideTold}
use Rattle.commands.specs.declared.io.status.Status.{Status}
use Rattle.commands.specs.declared.io.status.Status.TheVariants.{Done}
use Rattle.commands.specs.Io.Saying.{prints, duty_to_say}
use Rattle.commands.specs.Io.Runs.{IsRun}
use Rattle.commands.specs.Load.Summaries.{summary_text}
use Rattle.tase_views.specs.declared.event.Entry.{Entry}
use Rattle.tase_replay.specs.declared.playing.ReplayEnd.TheVariants as plays
use Rattle.tase_replay.specs.Play.{Played, shown_of}
use Rattle.tase_tool.specs.Saying.{counted_at, counted_said}
use Rattle.tase_tool.specs.Loading.{IsPlayedInMemory}

module _ (played : Played) (history : List Entry) (shown : SinkTold) (b a : OutsideTold)
    (status : Status) where
  -- a run that printed these lines
  abbrev Prints : ℕ → List ℕ → Type 0
  Prints entries text =
      IsRun (duty_to_say true (prints Done (summary_text entries text))) b a status

  -- a play of all lines is counted by the node's history and by what the sink took
  pub IsRun-counted : (entries : ℕ) (text : List ℕ) → IsPlayedInMemory played history shown plays.Done
      → entries ≡ length history → Some text ≡ shown.taken → Prints entries text
      → IsRun (duty_to_say true (counted_said played)) b a status
  IsRun-counted entries text kept len same run =
      subst (λ end. IsRun (duty_to_say true (counted_at played end)) b a status) (sym kept.0)
      (subst (λ (n : ℕ). Prints n (shown_of played)) (len ∙ ap length kept.1.entries)
      (subst (λ (t : List ℕ). Prints entries t)
      (ap (λ taken. unwrap_or taken []) (same ∙ kept.1.shown.taken)) run))
