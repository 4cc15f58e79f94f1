-- How a command tells the end of a play.
use Rattle.std.specs.Prelude.{◌≡◌, ◌⊎◌, codes}
use Rattle.outside.specs.Sink.{SinkTold}
use Rattle.commands.specs.declared.io.status.Status.{Status}
use Rattle.commands.specs.declared.io.status.Status.TheVariants as statuses
use Rattle.commands.specs.declared.io.input.Refusal.TheVariants as refusals
use Rattle.commands.specs.Io.Saying.{prints, refusal_text, full_text}
use Rattle.commands.specs.Io.Runs.{TellsSaid}
use Rattle.tase_replay.specs.declared.playing.ReplayEnd.{ReplayEnd}
use Rattle.tase_replay.specs.declared.playing.ReplayEnd.TheVariants.{Done, BadLine, Full, SinkFault}
use Rattle.tase_replay.specs.declared.playing.ReplayEnd.TheVariants.{Memory}

-- a bad line and a full history are told, whether memory is left or not; each other end is answered
-- as it is
abbrev pub EndsPlay : ReplayEnd → SinkTold → SinkTold → Status → Type 0
EndsPlay Done before after status = (status ≡ statuses.Done) × (after ≡ before)
EndsPlay (BadLine line) before after status =
    TellsSaid (prints statuses.Input (refusal_text (codes "scenario") (refusals.BadLine line)))
    before after status × ((status ≡ statuses.Input) ⊎ (status ≡ statuses.Outside))
EndsPlay (Full weight limit) before after status =
    TellsSaid (prints statuses.Full (full_text weight limit)) before after status
    × ((status ≡ statuses.Full) ⊎ (status ≡ statuses.Outside))
EndsPlay SinkFault before after status = (status ≡ statuses.Outside) × (after ≡ before)
EndsPlay Memory before after status = (status ≡ statuses.Memory) × (after ≡ before)
