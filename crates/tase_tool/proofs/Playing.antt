-- What a play says, line by line, and through a sink that gathers it.
use Rattle.std.proofs.Common.{◌≡◌, ◌≢◌, ℕ, Bool, true, false, List, [], ◌++◌, take}
use Rattle.std.proofs.Common.{refl, sym, subst}
use Rattle.std.specs.Prelude.{codes}
use Rattle.outside.specs.Sink.{SinkTold, AppendsAll, AppendsPart}
use Rattle.outside.proofs.Writing.{Appends-append, AppendsPart-append}
use Rattle.outside.proofs.Writing.{AppendsPart-front}
use Rattle.commands.specs.declared.io.status.Status.{Status}
use Rattle.commands.specs.declared.io.status.Status.TheVariants.{Done, Usage, Input, Outside, Full}
use Rattle.commands.specs.declared.io.status.Status.TheVariants.{Differs, Memory, Peer}
use Rattle.commands.specs.declared.io.input.Refusal.TheVariants.{BadLine}
use Rattle.commands.specs.Io.Saying.{prints, refusal_text, full_text}
use Rattle.commands.specs.Io.Runs.{TellsSaid}
use Rattle.tase_replay.specs.Play.{Played, PlayEnd, done, bad_line, history_full, printed_in}
use Rattle.tase_replay.specs.Play.{shown_of, steps_of}
use Rattle.tase_replay.specs.Ends.{IsPlayed}
use Rattle.tase_replay.specs.declared.playing.ReplayEnd.{ReplayEnd}
use Rattle.tase_replay.specs.declared.playing.ReplayEnd.TheVariants as plays
use Rattle.tase_views.specs.declared.event.Entry.{Entry}
use Rattle.tase_replay.proofs.SoFar.{part_front}
use Rattle.tase_tool.specs.Saying.{said_at, played_said}
use Rattle.tase_tool.specs.Playing.{EndsPlay}

-- nothing but standard output is written
pub plays_alone : (shown : List ℕ) (end : PlayEnd) → (said_at shown end).files ≡ []
plays_alone shown done = refl
plays_alone shown (bad_line line) = refl
plays_alone shown (history_full weight limit) = refl

-- a play is no answer to words that are no command
pub plays_command : (shown : List ℕ) (end : PlayEnd) (k l : SinkTold) (status : Status)
    → TellsSaid (said_at shown end) k l status → status ≢ Usage
plays_command shown done k l Done tells = λ same. absurd cc
plays_command shown done k l Usage tells = absurd (let e = tells.0 in cc)
plays_command shown done k l Input tells = λ same. absurd cc
plays_command shown done k l Full tells = λ same. absurd cc
plays_command shown done k l Differs tells = λ same. absurd cc
plays_command shown done k l Peer tells = λ same. absurd cc
plays_command shown done k l Outside tells = λ same. absurd cc
plays_command shown done k l Memory tells = λ same. absurd cc
plays_command shown (bad_line line) k l Done tells = λ same. absurd cc
plays_command shown (bad_line line) k l Usage tells = absurd (let e = tells.0 in cc)
plays_command shown (bad_line line) k l Input tells = λ same. absurd cc
plays_command shown (bad_line line) k l Full tells = λ same. absurd cc
plays_command shown (bad_line line) k l Differs tells = λ same. absurd cc
plays_command shown (bad_line line) k l Peer tells = λ same. absurd cc
plays_command shown (bad_line line) k l Outside tells = λ same. absurd cc
plays_command shown (bad_line line) k l Memory tells = λ same. absurd cc
plays_command shown (history_full weight limit) k l Done tells = λ same. absurd cc
plays_command shown (history_full weight limit) k l Usage tells = absurd (let e = tells.0 in cc)
plays_command shown (history_full weight limit) k l Input tells = λ same. absurd cc
plays_command shown (history_full weight limit) k l Outside tells = λ same. absurd cc
plays_command shown (history_full weight limit) k l Full tells = λ same. absurd cc
plays_command shown (history_full weight limit) k l Differs tells = λ same. absurd cc
plays_command shown (history_full weight limit) k l Peer tells = λ same. absurd cc
plays_command shown (history_full weight limit) k l Memory tells = λ same. absurd cc

-- a refusal after what was shown
Tells-after : (answer : Status) (k m l : SinkTold) (shown refusal : List ℕ) (status : Status)
    → AppendsAll k m shown
    → TellsSaid (prints answer refusal) m l status → TellsSaid (prints answer (shown ++ refusal)) k l status
Tells-after answer k m l shown refusal Done all tells =
    (tells.0, Appends-append k m l shown refusal false all tells.1)
Tells-after answer k m l shown refusal Usage all tells =
    (tells.0, Appends-append k m l shown refusal false all tells.1)
Tells-after answer k m l shown refusal Input all tells =
    (tells.0, Appends-append k m l shown refusal false all tells.1)
Tells-after answer k m l shown refusal Outside all tells =
    AppendsPart-append k m l shown refusal true all tells
Tells-after answer k m l shown refusal Full all tells =
    (tells.0, Appends-append k m l shown refusal false all tells.1)
Tells-after answer k m l shown refusal Differs all tells =
    (tells.0, Appends-append k m l shown refusal false all tells.1)
Tells-after answer k m l shown refusal Peer all tells =
    (tells.0, Appends-append k m l shown refusal false all tells.1)
Tells-after answer k m l shown refusal Memory all tells =
    AppendsPart-append k m l shown refusal false all tells

-- a front part of what is shown is one of what is said
said_front : (k l : SinkTold) (shown : List ℕ) (end : PlayEnd) (failed : Bool)
    → AppendsPart k l shown failed → AppendsPart k l (said_at shown end).text failed
said_front k l shown done failed part = part
said_front k l shown (bad_line line) failed part =
    AppendsPart-front k l shown (refusal_text (codes "scenario") (BadLine line)) failed part
said_front k l shown (history_full weight limit) failed part =
    AppendsPart-front k l shown (full_text weight limit) failed part

AppendsPart-played : (k l : SinkTold) (played : Played) (count : ℕ) (failed : Bool)
    → AppendsPart k l (printed_in (take count (steps_of played))) failed
    → AppendsPart k l (played_said played).text failed
AppendsPart-played k l played count failed part =
    said_front k l (shown_of played) played.end failed
    (part_front k l (steps_of played) count failed part)

-- how a play ended is told behind what its lines show
pub Tells-played : (played : Played) (history now : List Entry) (k m l : SinkTold)
    (end : ReplayEnd) (status : Status) → IsPlayed played history now k m end
    → EndsPlay end m l status → TellsSaid (played_said played) k l status
Tells-played played history now k m l plays.Done status went ends =
    subst (λ e. TellsSaid (said_at (shown_of played) e) k l status) (sym went.0)
    (subst (λ s. TellsSaid (prints Done (shown_of played)) k l s) (sym ends.0)
    (refl, subst (λ x. AppendsAll k x (shown_of played)) (sym ends.1) went.1.shown))
Tells-played played history now k m l (plays.BadLine line) status went ends =
    subst (λ e. TellsSaid (said_at (shown_of played) e) k l status) (sym went.0)
    (Tells-after Input k m l (shown_of played) (refusal_text (codes "scenario") (BadLine line))
    status went.1.shown ends.0)
Tells-played played history now k m l (plays.Full weight limit) status went ends =
    subst (λ e. TellsSaid (said_at (shown_of played) e) k l status) (sym went.0)
    (Tells-after Full k m l (shown_of played) (full_text weight limit) status went.1.shown ends.0)
Tells-played played history now k m l plays.SinkFault status went ends =
    subst (λ s. TellsSaid (played_said played) k l s) (sym ends.0)
    (subst (λ x. AppendsPart k x (played_said played).text true) (sym ends.1)
    (AppendsPart-played k m played went.count true went.shown))
Tells-played played history now k m l plays.Memory status went ends =
    subst (λ s. TellsSaid (played_said played) k l s) (sym ends.0)
    (subst (λ x. AppendsPart k x (played_said played).text false) (sym ends.1)
    (AppendsPart-played k m played went.count false went.shown))
