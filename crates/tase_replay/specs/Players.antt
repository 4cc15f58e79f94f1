-- Where a player stands between two lines of a scenario, and what a line leaves of it.
use Rattle.std.specs.Prelude.{◌≡◌, ℕ, true, List, reverse}
use Rattle.std.specs.Str.Lines.{lines}
use Rattle.outside.specs.Sink.{SinkTold}
use Rattle.tase_replay.specs.declared.links.Seats.{Seats}
use Rattle.tase_replay.specs.declared.playing.Player.{Player}
use Rattle.tase_replay.specs.declared.playing.ReplayEnd.{ReplayEnd}
use Rattle.tase_replay.specs.declared.playing.ReplayEnd.TheVariants.{Done}
use Rattle.tase_replay.specs.Play.{Scene, Played, LineMeaning, play, play_line, ends_there}
use Rattle.tase_replay.specs.Play.{first_scene, scene_by}
use Rattle.tase_replay.specs.Ends.{IsPlayed}
use Rattle.tase_replay.specs.Standing.{IsScene, NotesUse, Awaits, EndsSent}

module _ {K : Type 0} where
  -- the node and the seats of a player stand in this scene
  abbrev pub StandsIn : Scene → Player K → Type 0
  StandsIn scene player =
      IsScene player.node.now.setup.centre player.node.now.history scene player.seats.now

  -- so before it noted that a line of its own uses this seat
  abbrev pub HasNoted : Scene → ℕ → Player K → Type 0
  HasNoted scene who player = (before : Seats)
      × IsScene player.node.now.setup.centre player.node.now.history scene before
      × NotesUse who before true player.seats.now

  -- its node stands in this scene, and the connection at this place may take in what a seat's link
  -- gives
  abbrev pub HasFound : Scene → ℕ → ℕ → Player K → Type 0
  HasFound scene who place player = (scene.past ≡ reverse player.node.now.history)
      × Awaits player.node.now.setup.centre scene player.seats.now who place

  -- it goes on with the same node, whose setup stays, and the same sink
  pub record IsSamePlayer (old new : Player K) : Type 0 where
    pub node : new.node.ghost_name ≡ old.node.ghost_name
    pub sink : new.sink.ghost_name ≡ old.sink.ghost_name
    pub setup : new.node.now.setup ≡ old.node.now.setup

  -- all lines of a text, behind what its node's history has
  abbrev pub play_of : Player K → List ℕ → Played
  play_of player scenario = play player.node.now.setup (lines scenario)
      (first_scene (reverse player.node.now.history)) 1

module _ {K : Type 0} (told : K → SinkTold) where
  -- this was played, from one state of a player to the other
  abbrev pub Plays : Played → Player K → Player K → ReplayEnd → Type 0
  Plays played old new end = IsPlayed played old.node.now.history new.node.now.history
      (told old.sink.now) (told new.sink.now) end

  -- a line with this number, which means this in this scene, was played, and ended so
  pub record PlaysLine (number : ℕ) (scene : Scene) (meaning : LineMeaning) (old new : Player K)
      (end : ReplayEnd) : Type 0 where
    -- whatever its text is
    pub played : (line : List ℕ) → Plays (play_line line number meaning ends_there) old new end
    -- where it was taken, the player stands in the scene behind it
    pub stands : end ≡ Done → IsScene old.node.now.setup.centre new.node.now.history
        (scene_by scene meaning) new.seats.now
    -- it keeps it so that each peer was sent all octets of its link
    pub sent : EndsSent old.node.now.setup scene meaning end (told old.sink.now)
        (told new.sink.now)
