-- A reader of a journal has its node take the entries of lines.
use Rattle.std.proofs.Common.{◌≡◌, ℕ, Bool, true, ◌||◌, if◌then◌else◌, List, [], ◌∷◌, refl}
use Rattle.std.proofs.Common.{reverse, Option, Some, None, sym, ap, ◌∙◌}
use Rattle.std.specs.Prelude.{is_none, Ok}
use Rattle.std.proofs.lemmas.List.{reverse-append}
use Rattle.bilateral.specs.Rows.{CentreRows}
use Rattle.sbo_device.specs.declared.key.Key.{Key}
use Rattle.tase_views.specs.declared.event.Entry.{Entry}
use Rattle.tase_views.specs.declared.event.EventKind.{EventKind}
use Rattle.tase_views.specs.declared.fault.StepFault.{StepFault}
use Rattle.tase_views.specs.declared.reply.Answer.{Answer}
use Rattle.tase_views.specs.Setup.{Setup}
use Rattle.tase_views.specs.History.{Past}
use Rattle.node_core.specs.NodeState.{NodeState}
use Rattle.tase_verify.specs.declared.journal.Reader.{Reader}
use Rattle.tase_verify.specs.JournalIn.{has_lines, past_with, past_with_line, next_number, go_on}
use Rattle.tase_verify.specs.JournalIn.{past_of_lines}
use Rattle.tase_verify.specs.Verifying.{journal_setup, IsJournal}
use Rattle.tase_verify.specs.Watching.{IsWatched, kept_of, seat_after, events_after}
use Rattle.tase_verify.specs.Reading.{IsTaken, IsReader, past_of, GoesOn, TakesLine, TakesLines}
use Rattle.tase_verify.proofs.Watched.{watched_behind}

pub entry_taken : (old new : Reader) (who : ℕ) (event : EventKind) (answer : Answer)
    (kept : Option EventKind) → kept ≡ kept_of old.watch.key old.watch.seat who event
    → IsTaken old.node new.node who event (Some answer) → new.watch.key ≡ old.watch.key
    → new.watch.seat ≡ seat_after old.watch.key old.watch.seat who answer
    → new.watch.answered.items
    ≡ events_after old.watch.key old.watch.seat who old.watch.answered.items kept answer
    → TakesLine old new
    (past_with old.node.setup (past_of old) (Some (record { who = who; event = event }))) true
entry_taken old new who event answer kept is taken key seat events =
    let entry : Entry = record { who = who; event = event } in
    let setup : new.node.setup ≡ old.node.setup = ap (λ (n : NodeState). n.setup) taken.2 in
    let grown : past_of new ≡ entry ∷ past_of old =
    ap (λ (n : NodeState). reverse n.history) taken.2
    ∙ reverse-append old.node.history (entry ∷ []) in
    record {
      past = ap (λ (r : Option StepFault). if is_none r then Some (entry ∷ past_of old) else None)
          taken.0 ∙ ap (λ (p : Past). Some p) (sym grown);
      on = λ yes. record {
        setup = setup;
        key = key;
        reads = λ reads. rw (setup, grown, key, seat, events, is)
            (watched_behind old.node.setup (past_of old) who event answer old.watch.key
            old.watch.seat old.watch.answered.items taken.0 taken.1 reads);
      };
    }

-- a line whose entry is taken leads on
pub line_taken : (old new : Reader) (ended : Bool) (line : List ℕ) (more : List (List ℕ))
    (number : ℕ)
    → TakesLine old new
    (past_with_line old.node.setup (past_of old) (has_lines more || ended) line) true
    → past_of_lines old.node.setup ended (past_of old) number (line ∷ more)
    ≡ past_of_lines new.node.setup ended (past_of new) (next_number number) more
line_taken old new ended line more number takes =
    let on : GoesOn old new = takes.on refl in
    ap (go_on number
    (λ after. past_of_lines old.node.setup ended after (next_number number) more)) takes.past
    ∙ ap (λ (setup : Setup). past_of_lines setup ended (past_of new) (next_number number) more)
    (sym on.setup)

pub gone_on : (first old new : Reader) → GoesOn first old → GoesOn old new → GoesOn first new
gone_on first old new before now = record {
  setup = now.setup ∙ before.setup;
  key = now.key ∙ before.key;
  reads = λ reads. now.reads (before.reads reads);
}

-- nothing is followed in a history without entries
watched_none : (setup : Setup) (key : Option Key) → IsWatched setup [] key None []
watched_none setup None = record { holds = λ who. refl; events = refl }
watched_none setup (Some key) = record { holds = λ who. refl; events = refl }

-- all lines of a text were taken by a reader without a history
pub read_whole : (rows : CentreRows) (text : List ℕ) (key : Option Key) (old new : Reader)
    (done : Unit {0}) → old.node ≡ record { setup = journal_setup rows; history = [] }
    → old.watch.key ≡ key → old.watch.seat ≡ None → old.watch.answered.items ≡ []
    → TakesLines old new text (Ok done)
    → IsJournal (journal_setup rows) text key new.watch.answered.items
read_whole rows text key old new done node is_key seat none takes =
    let start : IsReader old =
    rw (node, is_key, seat, none) (watched_none (journal_setup rows) key) in
    let reads : IsReader new = takes.1.reads start in
    record {
      past = past_of new;
      journal = rw node at takes.0;
      events = rw (takes.1.setup, node, takes.1.key, is_key) at reads.events;
    }
