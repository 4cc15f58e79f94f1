-- A node that takes the entries of a snapshot.
use Rattle.std.specs.Prelude.{◌≡◌, ℕ, Bool, true, List, reverse, Option, Some, None, option_map}
use Rattle.std.specs.Prelude.{is_some, Result, Ok, Err}
use Rattle.std.specs.Str.Lines.{lines}
use Rattle.tase_views.specs.declared.event.EventKind.{EventKind}
use Rattle.tase_views.specs.Outcomes.{refusal_of, answer_of}
use Rattle.node_core.specs.NodeState.{NodeState, with_entry}
use Rattle.tase_resume.specs.declared.turns.Standing.{Standing}
use Rattle.tase_resume.specs.Snapshots.{SnapshotState, is_defined, ends_lines, lines_read}

-- a snapshot by the node that has taken its entries, and where it stands
abbrev pub state_of : NodeState → Standing → SnapshotState
state_of node standing = record {
  past = reverse node.history;
  last = standing.last;
  defining = standing.defining;
}

-- a node took an event of the centre's seat, and answered it as the definition of a data set or
-- otherwise
pub record HasTaken (old new : NodeState) (event : EventKind) (defined : Bool) : Type 0 where
  pub allowed : refusal_of old.setup (reverse old.history) 0 event ≡ None
  pub answered : defined ≡ is_defined (answer_of old.setup (reverse old.history) 0 event)
  pub node : new ≡ with_entry old 0 event

-- it took the event, or refused it
abbrev pub IsTaken : NodeState → NodeState → EventKind → Option Bool → Type 0
IsTaken old new event (Some defined) = HasTaken old new event defined
IsTaken old new event None = refusal_of old.setup (reverse old.history) 0 event ≡ None → ⊥

-- a node goes on to the state that is found, if one is
pub record TakesLine (old new : NodeState) (found : Option SnapshotState) (next : Option Standing)
    : Type 0 where
  pub state : found ≡ option_map (state_of new) next
  pub setup : is_some next ≡ true → new.setup ≡ old.setup

-- a node without a history takes the entries of all lines of a text, or their first bad line is
-- told
abbrev pub TakesLines : NodeState → NodeState → List ℕ → Result (Unit {0}) ℕ → Type 0
TakesLines old new text (Ok done) =
    lines_read old.setup.centre (ends_lines text)
    (state_of old (record { last = None; defining = None })) 1 (lines text)
    ≡ Ok new.history
TakesLines old new text (Err line) =
    lines_read old.setup.centre (ends_lines text)
    (state_of old (record { last = None; defining = None })) 1 (lines text)
    ≡ Err line
