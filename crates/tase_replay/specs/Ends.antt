-- What a replay leaves, by how it ended.
use Rattle.std.specs.Prelude.{◌≡◌, ℕ, ◌≤◌, Bool, true, false, List, [], ◌∷◌, ◌++◌, length, take}
use Rattle.std.specs.Prelude.{Result, Ok, Err, Option, Some, None}
use Rattle.std.proofs.Common.{drop}
use Rattle.outside.specs.Sink.{SinkTold, AppendsAll, AppendsPart}
use Rattle.tase_views.specs.declared.event.Entry.{Entry}
use Rattle.tase_views.specs.declared.event.EventKind.TheVariants.{Close}
use Rattle.tase_views.specs.declared.fault.StepFault.{StepFault}
use Rattle.tase_views.specs.declared.fault.StepFault.TheVariants as faults
use Rattle.conn_service.specs.TaseConn.declared.stage.ConnEnd.{ConnEnd}
use Rattle.conn_service.specs.TaseConn.declared.stage.ConnEnd.TheVariants as conn_ends
use Rattle.tase_replay.specs.declared.playing.ReplayEnd.{ReplayEnd}
use Rattle.tase_replay.specs.declared.playing.ReplayEnd.TheVariants.{Done, BadLine, Full}
use Rattle.tase_replay.specs.declared.playing.ReplayEnd.TheVariants.{SinkFault, Memory}
use Rattle.tase_replay.specs.Play.{Step, Played, done, bad_line, history_full, steps_of}
use Rattle.tase_replay.specs.Play.{entries_in, printed_in}

-- all these steps were taken, and no write failed
pub record TakesAll (steps : List Step) (history now : List Entry)
    (before after : SinkTold) : Type 0 where
  -- the history has their entries behind those that it had
  pub entries : now ≡ history ++ entries_in steps
  -- the sink took what they print
  pub shown : AppendsAll before after (printed_in steps)

-- nothing, or where no write failed the close of an association of the seat whose step comes next
abbrev pub IsClosing : Bool → List Entry → List Step → Type 0
IsClosing failed [] next = Unit {0}
IsClosing false (entry ∷ []) (step ∷ more) = (entry.event ≡ Close) × (entry.who ≡ step.who)
IsClosing failed entries next = ⊥

-- some of these steps were taken, from the first on, and the last write may have failed
pub record TakesPart (steps : List Step) (history now : List Entry) (before after : SinkTold)
    (failed : Bool) : Type 0 where
  -- how many
  pub count : ℕ
  pub within : count ≤ length steps
  -- the history has their entries behind those that it had, and where memory was wanting for a
  -- connection, at the next of these steps, maybe the close of its association
  pub closing : List Entry
  pub closes : IsClosing failed closing (drop count steps)
  pub entries : now ≡ (history ++ entries_in (take count steps)) ++ closing
  -- the sink took a front part of what they print
  pub shown : AppendsPart before after (printed_in (take count steps)) failed

-- Done comes exactly where all lines may be taken, a bad line exactly where the scenario has this
-- one first, and a full history exactly where the first line that may not be taken is one with
-- whose event it would weigh so much; all before it is taken and shown. A fault of the sink comes
-- only where a write failed, which was the last.
abbrev pub IsPlayed : Played → List Entry → List Entry → SinkTold → SinkTold → ReplayEnd → Type 0
IsPlayed played history now before after Done =
    (played.end ≡ done) × TakesAll (steps_of played) history now before after
IsPlayed played history now before after (BadLine line) =
    (played.end ≡ bad_line line) × TakesAll (steps_of played) history now before after
IsPlayed played history now before after (Full weight limit) =
    (played.end ≡ history_full weight limit) × TakesAll (steps_of played) history now before after
IsPlayed played history now before after SinkFault =
    TakesPart (steps_of played) history now before after true
IsPlayed played history now before after Memory =
    TakesPart (steps_of played) history now before after false

-- a text was shown, whole where nothing stopped it
abbrev pub IsShown : List ℕ → SinkTold → SinkTold → ReplayEnd → Type 0
IsShown text before after Done = AppendsAll before after text
IsShown text before after (BadLine line) = ⊥
IsShown text before after (Full weight limit) = ⊥
IsShown text before after SinkFault = AppendsPart before after text true
IsShown text before after Memory = AppendsPart before after text false

-- how the line with this number ends whose event was refused
abbrev pub end_of_refusal : ℕ → StepFault → ReplayEnd
end_of_refusal number faults.Memory = Memory
end_of_refusal number (faults.Stopped place) = BadLine number
end_of_refusal number (faults.HistoryFull weight limit) = Full weight limit
end_of_refusal number faults.NoAssociation = BadLine number
end_of_refusal number faults.Already = BadLine number
end_of_refusal number faults.UnknownName = BadLine number
end_of_refusal number faults.ClockRange = BadLine number
end_of_refusal number (faults.Backward last) = BadLine number

-- how a line ends whose text was written so
abbrev pub end_of_write : {E : Type 0} → Result (Unit {0}) E → ReplayEnd
end_of_write (Ok written) = Done
end_of_write (Err failed) = SinkFault

-- how a replay ends at a connection that has ended so, if it does: where it was cut for a full
-- history, or for want of memory
abbrev pub end_of_cut : Option ConnEnd → Option ReplayEnd
end_of_cut (Some (conn_ends.Full weight limit)) = Some (Full weight limit)
end_of_cut (Some conn_ends.Memory) = Some Memory
end_of_cut end = None
