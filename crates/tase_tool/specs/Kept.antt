-- That the journal of a replay is the history of its node.
use Rattle.std.specs.Prelude.{◌≡◌, ℕ, List, ◌++◌}
use Rattle.tase_views.specs.declared.event.Entry.{Entry}
use Rattle.node_core.specs.NodeState.{NodeState}
use Rattle.tase_replay.specs.Play.{steps_of, entries_in}
use Rattle.tase_tool.specs.Sent.{played_on}

-- a node's history has the entries of all that a scenario gives behind those that it had
abbrev pub HasPlayed : NodeState → List ℕ → List Entry → Type 0
HasPlayed node text history =
    history ≡ node.history ++ entries_in (steps_of (played_on node text))
