use Rattle.std.proofs.Common.{◌≡◌, List, ◌++◌, ap, ◌∙◌}
use Rattle.tase_views.specs.declared.event.Entry.{Entry}
use Rattle.tase_replay.specs.Play.{shown_of, steps_of, entries_in}
use Rattle.texts.specs.Journal.Journals.{journal_text}
use Rattle.tase_tool.specs.Saying.{played_said, journal_of}
use Rattle.tase_tool.specs.Sent.{played_on}
use Rattle.commands.proofs.OfIo.Running.{OnWhole-map}
use Rattle.tase_tool.proofs.Playing.{plays_alone}
use Rattle.tase_tool.proofs.Keeping.{IsRun-kept, SendsSoFar-kept}
use Rattle.tase_tool.proofs.running.play_and_keep.Goals as goal

pub returns-in-Some-clause-runs : goal.returns-in-Some-clause-runs
returns-in-Some-clause-runs g c =
    let played = played_on c.args.node c.args.scenario.now in
    let same : (history : List Entry) → history ≡ c.args.node.history
    ++ entries_in (steps_of played) → journal_text history ≡ journal_of played =
    (λ history is. ap journal_text
    (is ∙ ap (λ (before : List Entry). before ++ entries_in (steps_of played)) c.requires.new)) in
    rw c.in-Some.is (IsRun-kept (g.O.Outside.told c.args.outside.now)
    (g.O.Outside.told c.play_on_output-status.new.outside)
    (g.O.Outside.told c.keep_journal.new.outside) (played_said played)
    (plays_alone (shown_of played) played.end) c.in-Some.name.now (journal_of played)
    (journal_text c.play_on_output-status.new.node.history)
    (rw c.in-Some.is at c.requires.file)
    c.play_on_output-status.result c.keep_journal.result c.play_on_output-status.ensures.runs
    (OnWhole-map c.play_on_output-status.result
    (same c.play_on_output-status.new.node.history) c.play_on_output-status.ensures.kept)
    c.keep_journal.ensures)

pub returns-in-Some-clause-sent : goal.returns-in-Some-clause-sent
returns-in-Some-clause-sent g c =
    let played = played_on c.args.node c.args.scenario.now in
    SendsSoFar-kept (g.O.Outside.told c.args.outside.now)
    (g.O.Outside.told c.play_on_output-status.new.outside)
    (g.O.Outside.told c.keep_journal.new.outside) (played_said played)
    (plays_alone (shown_of played) played.end) c.in-Some.name.now (journal_of played)
    (journal_text c.play_on_output-status.new.node.history)
    (rw c.in-Some.is at c.requires.file) c.args.node c.args.scenario.now
    c.play_on_output-status.result c.keep_journal.result
    c.keep_journal.ensures
    c.play_on_output-status.ensures.sent
