-- What contracts see of a node.
use Rattle.std.specs.Prelude.{ℕ, List, [], ◌∷◌, ◌++◌}
use Rattle.tase_views.specs.declared.event.Entry.{Entry}
use Rattle.tase_views.specs.declared.event.EventKind.{EventKind}
use Rattle.tase_views.specs.Setup.{Setup}

-- the setup, and the accepted events with their seats, the oldest first
pub record NodeState : Type 0 where
  pub setup : Setup
  pub history : List Entry

-- the node with one more entry in its history
abbrev pub with_entry : NodeState → ℕ → EventKind → NodeState
with_entry node who event = record node {
  history = node.history
      ++ record { who = who; event = event } ∷ [];
}
