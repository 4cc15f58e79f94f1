-- That what a replay prints for each seat is all that the peer of its link is owed, and what it
-- prints of orders all that the plant has taken.
use Rattle.std.specs.Prelude.{◌≡◌, ◌⊎◌, ℕ, true, List, [], ◌++◌, reverse, Option, Some}
use Rattle.std.specs.Str.Lines.{lines}
use Rattle.commands.specs.declared.io.input.TheConstants.{TEXT_LIMIT}
use Rattle.commands.specs.declared.io.status.Status.{Status}
use Rattle.commands.specs.Io.Statuses.{is_whole}
use Rattle.commands.specs.Io.Saying.{Text}
use Rattle.commands.specs.Io.Runs.{Took}
use Rattle.commands.specs.Io.Plans.{whole_text, texts_behind, OnValue}
use Rattle.bilateral.specs.Rows.{CentreRows}
use Rattle.node_core.specs.NodeState.{NodeState}
use Rattle.tase_replay.specs.Play.{TakenLine, Played, play, first_scene, steps_in, printed_in}
use Rattle.tase_replay.specs.AllSent.{AreSentOver}
use Rattle.tase_replay.specs.OrdersPrinted.{AreOrdersPrinted}
use Rattle.commands.specs.Words.Words.{ReplayOptions, limit_of, Task, replays}
use Rattle.commands.specs.Files.Tables.{tables_in}
use Rattle.tase_tool.specs.Saying.{setup_of}

-- a new node of a centre
abbrev pub node_of : CentreRows → ℕ → NodeState
node_of rows limit = record { setup = setup_of rows limit; history = [] }

-- the text of a scenario over a node
abbrev pub played_on : NodeState → List ℕ → Played
played_on node text = play node.setup (lines text) (first_scene (reverse node.history)) 1

-- the lines that a replay of a text over a node has taken: what they print for each seat is all
-- that its peer is owed for them, and what they print of orders all that the plant takes at them;
-- all are taken where the output is whole
pub record SendsSoFar (node : NodeState) (text : List ℕ) (status : Status) (went : List ℕ → Type 0)
    : Type 0 where
  pub taken : List TakenLine
  pub others : List TakenLine
  pub lines : (played_on node text).taken ≡ taken ++ others
  pub all : is_whole status ≡ true → others ≡ []
  pub sent : AreSentOver node.setup node.history taken
  pub orders : AreOrdersPrinted node.setup node.history taken
  -- where others are left, what went out is what these print, or a front part of it
  pub printed : (others ≡ []) ⊎ went (printed_in (steps_in taken))

-- so of the scenario of which this is told, by what standard output had taken before and after
abbrev pub SendsOn : NodeState → Status → Option (List ℕ) → Option (List ℕ) → Text → Type 0
SendsOn node status before after text =
    OnValue whole_text TEXT_LIMIT
    (λ octets. SendsSoFar node octets status (Took status before after)) text

-- of a scenario over tables
abbrev pub SendsOver : ReplayOptions → Status → Option (List ℕ) → Option (List ℕ) → Text
    → CentreRows → Type 0
SendsOver options status before after text rows =
    SendsOn (node_of rows (limit_of options)) status before after text

-- and of the replay that words ask for, by what is told under each name
abbrev pub SendsBy : Option Task → (List ℕ → Text) → Status → Option (List ℕ) → Option (List ℕ)
    → Type 0
SendsBy (Some (replays tables scenario options)) texts status before after =
    OnValue tables_in TEXT_LIMIT
    (SendsOver options status before after (texts_behind texts tables scenario)) (texts tables)
SendsBy task texts status before after = Unit {0}
