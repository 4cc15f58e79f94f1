-- How an asking end ended, as it is told behind what it showed.
use Rattle.std.specs.Prelude.{◌≡◌, ◌⊎◌, Bool, true, false, ℕ, List, [], ◌∷◌, ◌++◌, codes, decimal}
use Rattle.outside.specs.Sink.{SinkTold}
use Rattle.stack_assoc.specs.declared.messages.fault.StackFault.{StackFault}
use Rattle.stack_assoc.specs.Listing.Names.{layer_name, why_name}
use Rattle.commands.specs.declared.io.status.Status.{Status}
use Rattle.commands.specs.declared.io.status.Status.TheVariants as statuses
use Rattle.commands.specs.Io.Saying.{prints}
use Rattle.commands.specs.Io.Runs.{TellsSaid}
use Rattle.tase_tool.specs.Lines.{named_line, stray_line}
use Rattle.tase_discover.specs.AskingEnd.declared.end.AskEnd.{AskEnd}
use Rattle.tase_discover.specs.AskingEnd.declared.end.AskEnd.TheVariants as ends
use Rattle.tase_discover.specs.AskingEnd.declared.service.run_end.RunEnd.{RunEnd}
use Rattle.tase_discover.specs.AskingEnd.declared.service.run_end.RunEnd.TheVariants as runs

-- `LAYER PLACE WHY`
abbrev pub fault_words : StackFault → List ℕ
fault_words f = layer_name f.layer ++ 32 ∷ [] ++ decimal f.place ++ 32 ∷ [] ++ why_name f.why

-- `peer refused LAYER PLACE WHY`
abbrev pub refused_line : StackFault → List ℕ
refused_line fault = named_line (codes "peer refused") (fault_words fault)

-- a line on how an asking end ended by what its peer gave; it takes no memory
abbrev pub TellsPeer : List ℕ → SinkTold → SinkTold → Status → Type 0
TellsPeer text before after status =
    TellsSaid (prints statuses.Peer text) before after status
    × ((status ≡ statuses.Peer) ⊎ (status ≡ statuses.Outside))

-- the status of an agenda that was asked to its end: whether what it asked for is as it should be
abbrev pub finish_status : Bool → Status
finish_status true = statuses.Done
finish_status false = statuses.Differs

-- nothing is told where an agenda was asked to its end, nor where memory ran out; an end of the
-- agenda's own has this line
abbrev pub TellsAskEnd : {E : Type 0} → Bool → (E → List ℕ) → AskEnd E → SinkTold → SinkTold
    → Status → Type 0
TellsAskEnd alike line ends.Finished before after status =
    (status ≡ finish_status alike) × (after ≡ before)
TellsAskEnd alike line ends.PeerEnd before after status =
    TellsPeer (codes "peer end" ++ 10 ∷ []) before after status
TellsAskEnd alike line (ends.Refused fault) before after status =
    TellsPeer (refused_line fault) before after status
TellsAskEnd alike line ends.Rejected before after status =
    TellsPeer (codes "peer rejected" ++ 10 ∷ []) before after status
TellsAskEnd alike line (ends.Stray invoke) before after status =
    TellsPeer (stray_line invoke) before after status
TellsAskEnd alike line (ends.ByAgenda end) before after status =
    TellsPeer (line end) before after status
TellsAskEnd alike line ends.Memory before after status =
    (status ≡ statuses.Memory) × (after ≡ before)

-- nor where its link or its sink has failed
abbrev pub TellsAsked : {E : Type 0} → Bool → (E → List ℕ) → RunEnd E → SinkTold → SinkTold
    → Status → Type 0
TellsAsked alike line (runs.Ended end) before after status =
    TellsAskEnd alike line end before after status
TellsAsked alike line runs.LinkFault before after status =
    (status ≡ statuses.Outside) × (after ≡ before)
TellsAsked alike line runs.SinkFault before after status =
    (status ≡ statuses.Outside) × (after ≡ before)
