-- What one line leaves: where its event is taken, where it is refused, and where nothing was done.
use Rattle.std.proofs.Common.{◌≡◌, ℕ, Bool, true, false, List, [], ◌∷◌, ◌++◌, Option, Some, None}
use Rattle.std.proofs.Common.{length, refl, sym, ap, ◌∙◌, subst, arith, take}
use Rattle.std.specs.Prelude.{if◌then◌else◌}
use Rattle.std.proofs.lemmas.List.{append-nil}
use Rattle.std.proofs.Math.Seq.{take-length}
use Rattle.plain_text.specs.Lines.{is_skipped}
use Rattle.outside.specs.Sink.{SinkTold, AppendsPart}
use Rattle.tase_views.specs.declared.event.Entry.{Entry}
use Rattle.tase_views.specs.declared.fault.StepFault.{StepFault}
use Rattle.tase_views.specs.declared.fault.StepFault.TheVariants as faults
use Rattle.tase_views.specs.declared.reply.Answer.{Answer}
use Rattle.tase_views.specs.Setup.{Setup}
use Rattle.tase_views.specs.Outcomes.{refusal_of, answer_of, IsRefusal}
use Rattle.tase_replay.specs.declared.playing.ReplayEnd.{ReplayEnd}
use Rattle.tase_replay.specs.declared.playing.ReplayEnd.TheVariants.{Done, BadLine, Full}
use Rattle.tase_replay.specs.declared.playing.ReplayEnd.TheVariants.{SinkFault, Memory}
use Rattle.tase_replay.specs.Links.{Asking, asking_in}
use Rattle.tase_replay.specs.Play.{Step, Scene, step_of, printed_of, LineMeaning, bad, gives}
use Rattle.tase_replay.specs.Play.{meaning_of, entry_meaning, means, line_meaning, play_line, ends_there}
use Rattle.tase_replay.specs.Play.{steps_of, entries_in, printed_in, with_taken, is_linked}
use Rattle.tase_replay.specs.Ends.{TakesAll, IsPlayed, IsShown, end_of_refusal}
use Rattle.tase_replay.proofs.Taking.{TakesAll-none, TakesPart-none}

-- a bad line leaves all as it was
pub IsPlayed-bad : (line : List ℕ) (number : ℕ) (meaning : LineMeaning)
    (history : List Entry) (sink : SinkTold) → meaning ≡ bad
    → IsPlayed (play_line line number meaning ends_there) history history sink sink
    (BadLine number)
IsPlayed-bad line number meaning history sink is = rw is (refl, TakesAll-none history sink)

-- so does a line at which memory ran out at once
pub IsPlayed-none : (line : List ℕ) (number : ℕ) (meaning : LineMeaning)
    (history : List Entry) (sink : SinkTold)
    → IsPlayed (play_line line number meaning ends_there) history history sink sink Memory
IsPlayed-none line number meaning history sink =
    TakesPart-none (steps_of (play_line line number meaning ends_there)) history sink

-- steps that were taken, and what they print was shown
pub IsPlayed-shown : (line : List ℕ) (number : ℕ) (steps : List Step) (scene : Scene)
    (history now : List Entry) (before after : SinkTold) (end : ReplayEnd)
    → now ≡ history ++ entries_in steps → IsShown (printed_in steps) before after end
    → IsPlayed (play_line line number (gives steps scene) ends_there) history now before after end
IsPlayed-shown line number steps scene history now before after Done grown shown = (
  refl,
  subst (λ (these : List Step). TakesAll these history now before after)
      (sym (append-nil (steps ++ []) ∙ append-nil steps))
      (record { entries = grown; shown = shown }),
)
IsPlayed-shown line number steps scene history now before after (BadLine at) grown shown =
    absurd shown
IsPlayed-shown line number steps scene history now before after (Full weight limit) grown shown =
    absurd shown
IsPlayed-shown line number steps scene history now before after SinkFault grown shown =
    let same : steps ≡ (steps ++ []) ++ [] = sym (append-nil (steps ++ []) ∙ append-nil steps) in
    let whole : take (length steps) ((steps ++ []) ++ []) ≡ steps =
    ap (λ (these : List Step). take (length steps) these) (sym same) ∙ take-length steps in
    record {
      count = length steps;
      within = omega (arith, ap (λ (these : List Step). length these) same);
      closing = [];
      closes = tt;
      entries = grown ∙ ap (λ (these : List Step). history ++ entries_in these) (sym whole)
          ∙ sym (append-nil (history ++ entries_in (take (length steps) ((steps ++ []) ++ []))));
      shown = subst (λ (these : List Step). AppendsPart before after (printed_in these) true)
          (sym whole) shown;
    }
IsPlayed-shown line number steps scene history now before after Memory grown shown =
    let same : steps ≡ (steps ++ []) ++ [] = sym (append-nil (steps ++ []) ∙ append-nil steps) in
    let whole : take (length steps) ((steps ++ []) ++ []) ≡ steps =
    ap (λ (these : List Step). take (length steps) these) (sym same) ∙ take-length steps in
    record {
      count = length steps;
      within = omega (arith, ap (λ (these : List Step). length these) same);
      closing = [];
      closes = tt;
      entries = grown ∙ ap (λ (these : List Step). history ++ entries_in these) (sym whole)
          ∙ sym (append-nil (history ++ entries_in (take (length steps) ((steps ++ []) ++ []))));
      shown = subst (λ (these : List Step). AppendsPart before after (printed_in these) false)
          (sym whole) shown;
    }

-- ---- an event of a seat that isn't a link's

pub accepted_so : (setup : Setup) (scene : Scene) (entry : Entry) (refusal : Option StepFault)
    → is_linked entry.who scene ≡ false
    → refusal_of setup scene.past entry.who entry.event ≡ refusal
    → entry_meaning setup scene entry
    ≡ meaning_of (with_taken entry scene) (step_of setup scene.past entry) refusal
accepted_so setup scene entry refusal own is =
    ap (λ (b : Bool). if b then bad
    else meaning_of (with_taken entry scene) (step_of setup scene.past entry)
    (refusal_of setup scene.past entry.who entry.event)) own
    ∙ ap (λ (r : Option StepFault). meaning_of (with_taken entry scene)
    (step_of setup scene.past entry) r) is

-- that was taken, and its answer printed
pub IsPlayed-taken : (setup : Setup) (line : List ℕ) (number : ℕ) (scene : Scene) (entry : Entry)
    (answer : Answer) (history now : List Entry) (before after : SinkTold) (end : ReplayEnd)
    → is_linked entry.who scene ≡ false
    → refusal_of setup scene.past entry.who entry.event ≡ None
    → answer ≡ answer_of setup scene.past entry.who entry.event
    → now ≡ history ++ entry ∷ []
    → IsShown (printed_of setup.centre entry.who answer) before after end
    → IsPlayed (play_line line number (entry_meaning setup scene entry) ends_there) history
    now before after end
IsPlayed-taken setup line number scene entry answer history now before after end own allowed is
    grown shown =
    let step : Step = step_of setup scene.past entry in
    subst (λ (m : LineMeaning). IsPlayed (play_line line number m ends_there) history now before after
    end) (sym (accepted_so setup scene entry None own allowed))
    (IsPlayed-shown line number (step ∷ []) (with_taken entry scene) history now before after end
    grown (subst (λ (t : List ℕ). IsShown t before after end) (sym (append-nil step.printed))
    (subst (λ (a : Answer). IsShown (printed_of setup.centre entry.who a) before after end)
    is shown)))

-- or that was refused
pub IsPlayed-refused : (setup : Setup) (line : List ℕ) (number : ℕ) (scene : Scene)
    (entry : Entry) (fault : StepFault) (history : List Entry) (sink : SinkTold)
    → is_linked entry.who scene ≡ false
    → IsRefusal entry.event (refusal_of setup scene.past entry.who entry.event) fault
    → IsPlayed (play_line line number (entry_meaning setup scene entry) ends_there) history
    history sink sink (end_of_refusal number fault)
IsPlayed-refused setup line number scene entry faults.Memory history sink own refused =
    IsPlayed-none line number (entry_meaning setup scene entry) history sink
IsPlayed-refused setup line number scene entry (faults.Stopped place) history sink own refused =
    IsPlayed-bad line number (entry_meaning setup scene entry) history sink
    (accepted_so setup scene entry (Some (faults.Stopped place)) own refused)
IsPlayed-refused setup line number scene entry (faults.HistoryFull weight limit) history sink own
    refused =
    subst (λ (m : LineMeaning). IsPlayed (play_line line number m ends_there) history history sink sink
    (Full weight limit))
    (sym (accepted_so setup scene entry (Some (faults.HistoryFull weight limit)) own refused))
    (refl, TakesAll-none history sink)
IsPlayed-refused setup line number scene entry faults.NoAssociation history sink own refused =
    IsPlayed-bad line number (entry_meaning setup scene entry) history sink
    (accepted_so setup scene entry (Some faults.NoAssociation) own refused)
IsPlayed-refused setup line number scene entry faults.Already history sink own refused =
    IsPlayed-bad line number (entry_meaning setup scene entry) history sink
    (accepted_so setup scene entry (Some faults.Already) own refused)
IsPlayed-refused setup line number scene entry faults.UnknownName history sink own refused =
    IsPlayed-bad line number (entry_meaning setup scene entry) history sink
    (accepted_so setup scene entry (Some faults.UnknownName) own refused)
IsPlayed-refused setup line number scene entry faults.ClockRange history sink own refused =
    IsPlayed-bad line number (entry_meaning setup scene entry) history sink
    (accepted_so setup scene entry (Some faults.ClockRange) own refused)
IsPlayed-refused setup line number scene entry (faults.Backward last) history sink own refused =
    IsPlayed-bad line number (entry_meaning setup scene entry) history sink
    (accepted_so setup scene entry (Some (faults.Backward last)) own refused)

-- ---- what a line means

pub line_in-skipped : (setup : Setup) (line : List ℕ) (scene : Scene)
    → is_skipped line ≡ true → line_meaning setup scene line ≡ gives [] scene
line_in-skipped setup line scene skipped =
    ap (λ (b : Bool). if b then gives [] scene
    else means setup scene (asking_in setup.centre line)) skipped

-- of a line that isn't skipped, by what is read of it
pub line_in-read : (setup : Setup) (line : List ℕ) (scene : Scene) (found : Option Asking)
    → is_skipped line ≡ false → asking_in setup.centre line ≡ found
    → line_meaning setup scene line ≡ means setup scene found
line_in-read setup line scene found words is =
    ap (λ (b : Bool). if b then gives [] scene
    else means setup scene (asking_in setup.centre line)) words
    ∙ ap (λ (asked : Option Asking). means setup scene asked) is

-- a line of a link's seat is bad
pub accepted_bad : (setup : Setup) (scene : Scene) (entry : Entry)
    → is_linked entry.who scene ≡ true → entry_meaning setup scene entry ≡ bad
accepted_bad setup scene entry linked =
    ap (λ (b : Bool). if b then bad
    else meaning_of (with_taken entry scene) (step_of setup scene.past entry)
    (refusal_of setup scene.past entry.who entry.event)) linked

-- a refusal ends the play
pub never_done : (number : ℕ) (fault : StepFault) → end_of_refusal number fault ≡ Done → ⊥
never_done number faults.Memory e = absurd cc
never_done number (faults.Stopped place) e = absurd cc
never_done number (faults.HistoryFull weight limit) e = absurd cc
never_done number faults.NoAssociation e = absurd cc
never_done number faults.Already e = absurd cc
never_done number faults.UnknownName e = absurd cc
never_done number faults.ClockRange e = absurd cc
never_done number (faults.Backward last) e = absurd cc
