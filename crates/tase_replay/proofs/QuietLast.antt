-- The steps of a line before an event for which the history has no room print nothing: all that a
-- play prints is what the lines that are taken print.
use Rattle.std.proofs.Common.{◌≡◌, ℕ, ◌+◌, Bool, true, false, cond, List, [], ◌∷◌, ◌++◌, Option}
use Rattle.std.proofs.Common.{Some, None, refl, ap, ◌∙◌}
use Rattle.std.proofs.lemmas.List.{append-nil}
use Rattle.std.proofs.lemmas.Grind.{flat_map-append}
use Rattle.plain_text.specs.Lines.{is_skipped}
use Rattle.bilateral.specs.Rows.{CentreRows}
use Rattle.tase_views.specs.declared.event.Entry.{Entry}
use Rattle.conn_service.specs.TaseConn.declared.stage.ConnEnd.{ConnEnd}
use Rattle.conn_service.specs.TaseConn.PeerEnd.{peer_end}
use Rattle.conn_service.specs.Served.{Served}
use Rattle.conn_service.specs.Sends.{close_of}
use Rattle.tase_views.specs.declared.fault.StepFault.{StepFault}
use Rattle.tase_views.specs.declared.fault.StepFault.TheVariants.{Memory, Stopped, HistoryFull}
use Rattle.tase_views.specs.declared.fault.StepFault.TheVariants.{NoAssociation, Already}
use Rattle.tase_views.specs.declared.fault.StepFault.TheVariants.{UnknownName, ClockRange, Backward}
use Rattle.tase_views.specs.Setup.{Setup}
use Rattle.tase_views.specs.History.{association_in}
use Rattle.tase_views.specs.Outcomes.{refusal_of}
use Rattle.tase_replay.specs.Links.{SeatItem, Asking, an_event, an_item, asking_in, items_of}
use Rattle.tase_replay.specs.Play.{Step, Scene, LineMeaning, bad, too_heavy, gives, Played}
use Rattle.tase_replay.specs.Play.{step_of, meaning_of, entry_meaning, linked_by, received}
use Rattle.tase_replay.specs.Play.{linked_up_to}
use Rattle.tase_replay.specs.Play.{is_unfit, served_item, is_linked, with_taken, means}
use Rattle.tase_replay.specs.Play.{line_meaning, play_line, play, steps_in, printed_in, shown_of}
use Rattle.tase_replay.proofs.Linking.{printed_steps}

-- ---- what is left of a line that isn't taken

-- the steps before an event for which there is no room
abbrev left_by : LineMeaning → List Step
left_by bad = []
left_by (too_heavy steps weight limit) = steps
left_by (gives steps after) = []

abbrev LeavesQuiet : LineMeaning → Type 0
LeavesQuiet meaning = printed_in (left_by meaning) ≡ []

either-leaves : (test : Bool) (a b : LineMeaning) → LeavesQuiet a → LeavesQuiet b
    → LeavesQuiet (cond test a b)
either-leaves true a b first second = first
either-leaves false a b first second = second

refusal-leaves : (after : Scene) (step : Step) (fault : Option StepFault)
    → LeavesQuiet (meaning_of after step fault)
refusal-leaves after step None = refl
refusal-leaves after step (Some Memory) = refl
refusal-leaves after step (Some (Stopped place)) = refl
refusal-leaves after step (Some (HistoryFull weight limit)) = refl
refusal-leaves after step (Some NoAssociation) = refl
refusal-leaves after step (Some Already) = refl
refusal-leaves after step (Some UnknownName) = refl
refusal-leaves after step (Some ClockRange) = refl
refusal-leaves after step (Some (Backward last)) = refl

up_to-leaves : (rows : CentreRows) (scene : Scene) (given : SeatItem) (end : Option ConnEnd)
    (s : Served) (left : Option ConnEnd) → LeavesQuiet (linked_up_to rows scene given end s left)
up_to-leaves rows scene given end s None = refl
up_to-leaves rows scene given end s (Some over) = refl

linked-leaves : (rows : CentreRows) (scene : Scene) (given : SeatItem) (end : Option ConnEnd)
    (s : Served) (refusal : Option StepFault)
    → LeavesQuiet (linked_by rows scene given end s refusal)
linked-leaves rows scene given end s None = up_to-leaves rows scene given end s s.end
linked-leaves rows scene given end s (Some (Stopped place)) = refl
linked-leaves rows scene given end s (Some (HistoryFull weight limit)) =
    printed_steps given.who (s.taken ++ close_of (association_in s.past given.who))
linked-leaves rows scene given end s (Some Memory) = refl
linked-leaves rows scene given end s (Some NoAssociation) = refl
linked-leaves rows scene given end s (Some Already) = refl
linked-leaves rows scene given end s (Some UnknownName) = refl
linked-leaves rows scene given end s (Some ClockRange) = refl
linked-leaves rows scene given end s (Some (Backward last)) = refl

received-leaves : (setup : Setup) (scene : Scene) (given : SeatItem)
    → LeavesQuiet (received setup scene given)
received-leaves setup scene given =
    let end = peer_end setup.centre (items_of given.who scene.given ++ given.item ∷ []) in
    either-leaves (is_unfit given.who scene) bad
    (linked_by setup.centre scene given end (served_item setup scene given)
    (served_item setup scene given).refusal) refl
    (linked-leaves setup.centre scene given end (served_item setup scene given)
    (served_item setup scene given).refusal)

entry-leaves : (setup : Setup) (scene : Scene) (entry : Entry)
    → LeavesQuiet (entry_meaning setup scene entry)
entry-leaves setup scene entry =
    let step = step_of setup scene.past entry in
    let refusal = refusal_of setup scene.past entry.who entry.event in
    either-leaves (is_linked entry.who scene) bad
    (meaning_of (with_taken entry scene) step refusal) refl
    (refusal-leaves (with_taken entry scene) step refusal)

means-leaves : (setup : Setup) (scene : Scene) (asked : Option Asking)
    → LeavesQuiet (means setup scene asked)
means-leaves setup scene None = refl
means-leaves setup scene (Some (an_event entry)) = entry-leaves setup scene entry
means-leaves setup scene (Some (an_item given)) = received-leaves setup scene given

line-leaves : (setup : Setup) (scene : Scene) (line : List ℕ)
    → LeavesQuiet (line_meaning setup scene line)
line-leaves setup scene line =
    either-leaves (is_skipped line) (gives [] scene)
    (means setup scene (asking_in setup.centre line)) refl
    (means-leaves setup scene (asking_in setup.centre line))

-- ---- a play

line-ends_quiet : (line : List ℕ) (number : ℕ) (meaning : LineMeaning) (rest : Scene → Played)
    → LeavesQuiet meaning → ((after : Scene) → printed_in (rest after).last ≡ [])
    → printed_in (play_line line number meaning rest).last ≡ []
line-ends_quiet line number bad rest leaves each = refl
line-ends_quiet line number (too_heavy steps weight limit) rest leaves each = leaves
line-ends_quiet line number (gives steps after) rest leaves each = each after

ends_quiet : (setup : Setup) (scenario : List (List ℕ)) (scene : Scene) (number : ℕ)
    → printed_in (play setup scenario scene number).last ≡ []
ends_quiet setup [] scene number = refl
ends_quiet setup (line ∷ more) scene number =
    line-ends_quiet line number (line_meaning setup scene line)
    (λ after. play setup more after (number + 1)) (line-leaves setup scene line)
    (λ after. ends_quiet setup more after (number + 1))

-- all that a play prints
pub all_printed : (setup : Setup) (scenario : List (List ℕ)) (scene : Scene) (number : ℕ)
    → shown_of (play setup scenario scene number)
    ≡ printed_in (steps_in (play setup scenario scene number).taken)
all_printed setup scenario scene number =
    let played = play setup scenario scene number in
    flat_map-append (λ (step : Step). step.printed) (steps_in played.taken) played.last
    ∙ ap (λ text. printed_in (steps_in played.taken) ++ text)
    (ends_quiet setup scenario scene number)
    ∙ append-nil (printed_in (steps_in played.taken))
