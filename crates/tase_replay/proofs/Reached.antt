-- How far a play has come, and how a line takes it further or ends it.
use Rattle.std.proofs.Common.{◌≡◌, ℕ, Bool, true, false, List, [], ◌∷◌, ◌++◌, refl}
use Rattle.std.proofs.Common.{sym, ap, ◌∙◌, subst, append_assoc}
use Rattle.std.proofs.lemmas.List.{append-nil}
use Rattle.std.proofs.lemmas.Grind.{flat_map-append}
use Rattle.outside.specs.Sink.{SinkTold}
use Rattle.tase_views.specs.declared.event.Entry.{Entry}
use Rattle.tase_replay.specs.declared.playing.ReplayEnd.{ReplayEnd}
use Rattle.tase_replay.specs.declared.playing.ReplayEnd.TheVariants.{Done, BadLine, Full}
use Rattle.tase_replay.specs.declared.playing.ReplayEnd.TheVariants.{SinkFault, Memory}
use Rattle.tase_replay.specs.Play.{Step, Scene, LineMeaning, bad, too_heavy, gives, TakenLine, PlayEnd, done}
use Rattle.tase_replay.specs.Play.{bad_line, history_full, Played}
use Rattle.tase_replay.specs.Play.{play_line, ends_there, steps_in, steps_of}
use Rattle.tase_replay.specs.Ends.{TakesAll, TakesPart, IsPlayed}
use Rattle.tase_replay.proofs.Taking.{TakesAll-none, TakesAll-append, TakesPart-append}
use Rattle.tase_replay.proofs.Taking.{TakesPart-front}

-- lines that were taken, and then a play
abbrev pub continued : List TakenLine → Played → Played
continued lines rest = record rest { taken = lines ++ rest.taken }

-- the lines taken so far, and then those of the rest, are all
pub record Reached (all rest : Played) (history now : List Entry)
    (before after : SinkTold) : Type 0 where
  pub lines : List TakenLine
  pub whole : all ≡ continued lines rest
  pub takes : TakesAll (steps_in lines) history now before after

abbrev pub Reached-none : (all : Played) (history : List Entry) (sink : SinkTold)
    → Reached all all history history sink sink
Reached-none all history sink = record {
  lines = [];
  whole = refl;
  takes =
      TakesAll-none history sink;
}

steps_of-continued : (all rest : Played) (lines : List TakenLine) → all ≡ continued lines rest
    → steps_of all ≡ steps_in lines ++ steps_of rest
steps_of-continued all rest lines whole =
    ap (λ (played : Played). steps_of played) whole
    ∙ ap (λ (steps : List Step). steps ++ rest.last)
    (flat_map-append (λ (taken : TakenLine). taken.steps) lines rest.taken)
    ∙ append_assoc (steps_in lines) (steps_in rest.taken) rest.last

-- at the end of the lines
pub Reached-end : (all : Played) (scene : Scene) (history now : List Entry)
    (before after : SinkTold) → Reached all (ends_there scene) history now before after
    → IsPlayed all history now before after Done
Reached-end all scene history now before after reached =
    let same : steps_of all ≡ steps_in reached.lines =
    steps_of-continued all (ends_there scene) reached.lines reached.whole
    ∙ append-nil (steps_in reached.lines) in (
      ap (λ (played : Played). played.end) reached.whole,
      subst (λ (steps : List Step). TakesAll steps history now before after)
          (sym same) reached.takes,
    )

-- the steps of a line that is taken alone
alone_steps : (steps : List Step) → (steps ++ []) ++ [] ≡ steps
alone_steps steps = append-nil (steps ++ []) ∙ append-nil steps

-- after a line that was taken the rest comes
abbrev pub Reached-taken : (line : List ℕ) (number : ℕ) (steps : List Step) (behind : Scene)
    (rest : Scene → Played) (all : Played) (history now later : List Entry)
    (before after next : SinkTold)
    → Reached all (play_line line number (gives steps behind) rest) history now before after
    → IsPlayed (play_line line number (gives steps behind) ends_there) now later after next Done
    → Reached all (rest behind) history later before next
Reached-taken line number steps behind rest all history now later before after next reached
    played =
    let taken : TakenLine = record { line = line; steps = steps } in
    record {
      lines = reached.lines ++ taken ∷ [];
      whole = reached.whole
          ∙ ap (λ (lines : List TakenLine). let p : Played =
          record (rest behind) { taken = lines } in p)
          (sym (append_assoc reached.lines (taken ∷ []) (rest behind).taken));
      takes = subst (λ (these : List Step). TakesAll these history later before next)
          (sym (flat_map-append (λ (t : TakenLine). t.steps) reached.lines (taken ∷ [])))
          (TakesAll-append (steps_in reached.lines) (steps ++ []) history now later before after
          next reached.takes
          (subst (λ (these : List Step). TakesAll these now later after next)
          (append-nil (steps ++ [])) played.1));
    }

-- what a line gives alone comes first
steps_of-line : (line : List ℕ) (number : ℕ) (meaning : LineMeaning) (rest : Scene → Played)
    → (more : List Step) × (steps_of (play_line line number meaning rest)
    ≡ steps_of (play_line line number meaning ends_there) ++ more)
steps_of-line line number bad rest = ([], refl)
steps_of-line line number (too_heavy steps weight limit) rest = ([], sym (append-nil steps))
steps_of-line line number (gives steps behind) rest = (
  steps_of (rest behind),
  append_assoc steps (steps_in (rest behind).taken) (rest behind).last
      ∙ ap (λ (these : List Step). these ++ steps_of (rest behind)) (sym (alone_steps steps)),
)

Reached-part : (line : List ℕ) (number : ℕ) (meaning : LineMeaning) (rest : Scene → Played)
    (all : Played) (history now later : List Entry) (before after next : SinkTold) (failed : Bool)
    → Reached all (play_line line number meaning rest) history now before after
    → TakesPart (steps_of (play_line line number meaning ends_there)) now later after next failed
    → TakesPart (steps_of all) history later before next failed
Reached-part line number meaning rest all history now later before after next failed reached part =
    let alone : List Step = steps_of (play_line line number meaning ends_there) in
    let first = steps_of-line line number meaning rest in
    let same : steps_of all ≡ steps_in reached.lines ++ (alone ++ first.0) =
    steps_of-continued all (play_line line number meaning rest) reached.lines
    reached.whole ∙ ap (λ (these : List Step). steps_in reached.lines ++ these) first.1 in
    subst (λ (these : List Step). TakesPart these history later before next failed) (sym same)
    (TakesPart-append (steps_in reached.lines) (alone ++ first.0) history now later before after
    next failed reached.takes
    (TakesPart-front alone first.0 now later after next failed part))

-- a line that isn't taken is the last
Reached-ended : (line : List ℕ) (number : ℕ) (meaning : LineMeaning) (rest : Scene → Played)
    (all : Played) (history now later : List Entry) (before after next : SinkTold) (end : PlayEnd)
    → (end ≡ done → ⊥) → Reached all (play_line line number meaning rest) history now before after
    → (play_line line number meaning ends_there).end ≡ end
    → TakesAll (steps_of (play_line line number meaning ends_there)) now later after next
    → (all.end ≡ end) × TakesAll (steps_of all) history later before next
Reached-ended line number bad rest all history now later before after next end other reached ends
    takes = (
      ap (λ (p : Played). p.end) reached.whole ∙ ends,
      subst (λ (these : List Step). TakesAll these history later before next)
          (sym (steps_of-continued all (play_line line number bad rest) reached.lines
          reached.whole))
          (TakesAll-append (steps_in reached.lines) [] history now later before after next
          reached.takes takes),
    )
Reached-ended line number (too_heavy steps weight limit) rest all history now later before after
    next end other reached ends takes = (
      ap (λ (p : Played). p.end) reached.whole ∙ ends,
      subst (λ (these : List Step). TakesAll these history later before next)
          (sym (steps_of-continued all
          (play_line line number (too_heavy steps weight limit) rest) reached.lines
          reached.whole))
          (TakesAll-append (steps_in reached.lines) steps history now later before after next
          reached.takes takes),
    )
Reached-ended line number (gives steps behind) rest all history now later before after next end
    other reached ends takes = absurd (other (sym ends))

-- a line that ends the play ends all so
pub Reached-last : (line : List ℕ) (number : ℕ) (meaning : LineMeaning) (rest : Scene → Played)
    (all : Played) (history now later : List Entry) (before after next : SinkTold) (end : ReplayEnd)
    → (end ≡ Done → ⊥) → Reached all (play_line line number meaning rest) history now before after
    → IsPlayed (play_line line number meaning ends_there) now later after next end
    → IsPlayed all history later before next end
Reached-last line number meaning rest all history now later before after next Done other reached
    played = absurd (other refl)
Reached-last line number meaning rest all history now later before after next
    (BadLine at) other reached played =
    Reached-ended line number meaning rest all history now later before after next (bad_line at)
    (λ e. absurd cc) reached played.0 played.1
Reached-last line number meaning rest all history now later before after next
    (Full weight limit) other reached played =
    Reached-ended line number meaning rest all history now later before after next
    (history_full weight limit) (λ e. absurd cc) reached played.0 played.1
Reached-last line number meaning rest all history now later before after next SinkFault other
    reached played =
    Reached-part line number meaning rest all history now later before after next true reached
    played
Reached-last line number meaning rest all history now later before after next Memory other reached
    played =
    Reached-part line number meaning rest all history now later before after next false reached
    played
