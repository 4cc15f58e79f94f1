-- That a play was kept in memory.
use Rattle.std.specs.Prelude.{List, [], Some, None}
use Rattle.outside.specs.Sink.{SinkTold}
use Rattle.tase_views.specs.declared.event.Entry.{Entry}
use Rattle.tase_replay.specs.declared.playing.ReplayEnd.{ReplayEnd}
use Rattle.tase_replay.specs.Play.{Played}
use Rattle.tase_replay.specs.Ends.{IsPlayed}

-- what a sink in memory tells that has taken nothing
abbrev pub kept_nothing : SinkTold
kept_nothing = record {
  taken = Some [];
  held = 0;
  calls = None;
  faults = 0;
  name = [];
}

-- a node without a history has this one after a play that has ended so, and this sink, which had
-- taken nothing, has taken what it shows
abbrev pub IsPlayedInMemory : Played → List Entry → SinkTold → ReplayEnd → Type 0
IsPlayedInMemory played history shown end = IsPlayed played [] history kept_nothing shown end
