-- A reader of a journal: a node, and what is kept of one association.
use Rattle.std.specs.Prelude.{◌≡◌, ℕ, Bool, true, false, if◌then◌else◌, List, reverse, Option, Some}
use Rattle.std.specs.Prelude.{None, Result, Ok, Err, is_none}
use Rattle.std.specs.Str.Lines.{lines}
use Rattle.tase_views.specs.declared.event.EventKind.{EventKind}
use Rattle.tase_views.specs.declared.reply.Answer.{Answer}
use Rattle.tase_views.specs.History.{Past}
use Rattle.tase_views.specs.Outcomes.{refusal_of, IsAnswer}
use Rattle.node_core.specs.NodeState.{NodeState, with_entry}
use Rattle.tase_verify.specs.declared.journal.Reader.{Reader}
use Rattle.tase_verify.specs.JournalIn.{is_ended, past_of_lines}
use Rattle.tase_verify.specs.Watching.{IsWatched}

-- an event of a seat that a node took, with its answer, or refused
abbrev pub IsTaken : NodeState → NodeState → ℕ → EventKind → Option Answer → Type 0
IsTaken old new who event (Some answer) =
    (refusal_of old.setup (reverse old.history) who event ≡ None)
    × IsAnswer old.setup (reverse old.history) who event answer × (new ≡ with_entry old who event)
IsTaken old new who event None =
    is_none (refusal_of old.setup (reverse old.history) who event) ≡ false

-- the history that was read, the newest entry first
abbrev pub past_of : Reader → Past
past_of reader = reverse reader.node.history

-- what a reader keeps is that of its history
abbrev pub IsReader : Reader → Type 0
IsReader reader =
    IsWatched reader.node.setup (past_of reader) reader.watch.key reader.watch.seat
    reader.watch.answered.items

-- the setup and the association that is meant stay, and what is kept is that of the history still
pub record GoesOn (old new : Reader) : Type 0 where
  pub setup : new.node.setup ≡ old.node.setup
  pub key : new.watch.key ≡ old.watch.key
  pub reads : IsReader old → IsReader new

-- a reader goes on to the history that is found, if one is
pub record TakesLine (old new : Reader) (found : Option Past) (taken : Bool) : Type 0 where
  pub past : found ≡ (if taken then Some (past_of new) else None)
  pub on : taken ≡ true → GoesOn old new

-- a reader goes on to the history that the lines of a text make, or their first bad line is told
abbrev pub TakesLines : Reader → Reader → List ℕ → Result (Unit {0}) ℕ → Type 0
TakesLines old new text (Ok done) =
    (past_of_lines old.node.setup (is_ended text) (past_of old) 1 (lines text) ≡ Ok (past_of new))
    × GoesOn old new
TakesLines old new text (Err line) =
    past_of_lines old.node.setup (is_ended text) (past_of old) 1 (lines text) ≡ Err line
