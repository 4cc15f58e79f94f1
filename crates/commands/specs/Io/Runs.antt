-- What a run leaves outside, by its status.
use Rattle.std.specs.Prelude.{◌≡◌, ◌≢◌, ◌⊎◌, ℕ, Bool, true, false, List, [], ◌∷◌, take}
use Rattle.std.specs.Prelude.{Option, None, codes}
use Rattle.outside.specs.Octets.{Adds}
use Rattle.outside.specs.Sink.{SinkTold, AppendsAll, AppendsPart}
use Rattle.outside.specs.Names.Outside.{NameEntry, untold, missing, lent, there, OutsideTold, Asks}
use Rattle.commands.specs.declared.io.status.Status.{Status}
use Rattle.commands.specs.declared.io.status.Status.TheVariants.{Done, Usage, Input, Outside, Full}
use Rattle.commands.specs.declared.io.status.Status.TheVariants.{Differs, Memory, Peer}
use Rattle.commands.specs.declared.io.input.InputEnd.{InputEnd}
use Rattle.commands.specs.declared.io.input.InputEnd.TheVariants.{Refused}
use Rattle.commands.specs.declared.io.input.InputEnd.TheVariants as ends
use Rattle.commands.specs.Io.Statuses.{is_outside, OnWhole}
use Rattle.commands.specs.Io.OutsideUse.{Uses, Rises, AsksFront}
use Rattle.commands.specs.Io.Saying.{Said, Duty, names_in, prints, refusal_text}
use Rattle.commands.specs.Io.Saying.{duty_to_say}

-- the name of standard output among the sinks
abbrev pub output_name : List ℕ
output_name = codes "-"

-- the octets told to be taken by what stands under a name
abbrev pub taken_of : NameEntry SinkTold → Option (List ℕ)
taken_of untold = None
taken_of missing = None
taken_of lent = None
taken_of (there sink) = sink.taken

-- a sink took all of these octets; after a fault outside and want of memory a front part of them
abbrev pub Took : Status → Option (List ℕ) → Option (List ℕ) → List ℕ → Type 0
Took Done before after octets = Adds before after octets
Took Usage before after octets = Adds before after octets
Took Input before after octets = Adds before after octets
Took Full before after octets = Adds before after octets
Took Differs before after octets = Adds before after octets
Took Peer before after octets = Adds before after octets
Took Outside before after octets = (count : ℕ) × Adds before after (take count octets)
Took Memory before after octets = (count : ℕ) × Adds before after (take count octets)

-- a fact of each of some files and its octets
abbrev pub EachFile : List (List ℕ × List ℕ) → (List ℕ → List ℕ → Type 0) → Type 0
EachFile [] fact = Unit {0}
EachFile (file ∷ files) fact = fact file.0 file.1 × EachFile files fact

-- the status and the whole output are those said; after a fault outside and want of memory a front
-- part of the output went out
pub record IsSaid (status : Status) (before after : List ℕ → NameEntry SinkTold) (said : Said)
    : Type 0 where
  pub answered : OnWhole status (said.status ≡ status)
  pub output : Took status (taken_of (before output_name)) (taken_of (after output_name)) said.text
  pub files : EachFile said.files
      (λ name octets. Took status (taken_of (before name)) (taken_of (after name)) octets)

-- words that are no command are answered so, or by a fault outside where `usage` can't be printed;
-- no command is
abbrev pub MatchesWords : Bool → Status → Type 0
MatchesWords false status = (status ≡ Usage) ⊎ (status ≡ Outside)
MatchesWords true status = status ≢ Usage

-- a sink stands under the name, where anything is told of it
abbrev pub IsSinkThere : NameEntry SinkTold → Type 0
IsSinkThere untold = Unit {0}
IsSinkThere missing = ⊥
IsSinkThere lent = ⊥
IsSinkThere (there sink) = Unit {0}

-- and so does one under the name of each file that is said
abbrev pub AreOutputsThere : Said → (List ℕ → NameEntry SinkTold) → Type 0
AreOutputsThere said before = IsSinkThere (before output_name)
    × EachFile said.files (λ name octets. IsSinkThere (before name))

-- what a run may open for writing: standard output, and then the files that are said
abbrev pub outputs_of : Duty → List (List ℕ)
outputs_of duty = output_name ∷ names_in duty.says.files

-- no file was opened for writing, or standard output has taken all of a text
abbrev pub FilesBehind : OutsideTold → OutsideTold → List ℕ → Type 0
FilesBehind before after text =
    AsksFront before.written_names after.written_names (output_name ∷ [])
    ⊎ Adds (taken_of (before.sinks output_name)) (taken_of (after.sinks output_name)) text

-- where nothing outside failed, the status is the one said, but for want of memory
abbrev pub IsComplete : ℕ → ℕ → Status → Said → Type 0
IsComplete before now status said =
    (Rises before now → ⊥) → (status ≡ said.status) ⊎ (status ≡ Memory)

-- what a run with this duty leaves outside, and the status that it answers
pub record IsRun (duty : Duty) (before after : OutsideTold) (status : Status) : Type 0 where
  -- words out of the grammar are answered 2, and no others are
  pub words : MatchesWords duty.is_command status
  -- the status and what is printed are those said
  pub said : IsSaid status before.sinks after.sinks duty.says
  -- nothing is called whole where standard output or a file that is said couldn't be opened
  pub output : OnWhole status (AreOutputsThere duty.says before.sinks)
  -- the inputs, standard output and the files that are said alone are opened, in order, and each is
  -- closed again; a fault outside has its cause and its reason
  pub uses : Uses duty.inputs (outputs_of duty) (is_outside status) before after
  -- where the output is whole, all of the inputs were opened, and all outputs
  pub opened : OnWhole status (Asks before.read_names after.read_names duty.inputs)
  pub printed : OnWhole status (Asks before.written_names after.written_names (outputs_of duty))
  -- a file is opened only where all that is said was printed before
  pub filed : FilesBehind before after duty.says.text
  -- where nothing outside failed, all is done, but for want of memory
  pub complete : IsComplete before.faults after.faults status duty.says

-- what a command does to standard output while that is open: the status and what is taken are those
-- said, and no write comes after one that failed
abbrev pub TellsSaid : Said → SinkTold → SinkTold → Status → Type 0
TellsSaid said before after Done = (said.status ≡ Done) × AppendsAll before after said.text
TellsSaid said before after Usage = (said.status ≡ Usage) × AppendsAll before after said.text
TellsSaid said before after Input = (said.status ≡ Input) × AppendsAll before after said.text
TellsSaid said before after Full = (said.status ≡ Full) × AppendsAll before after said.text
TellsSaid said before after Differs = (said.status ≡ Differs) × AppendsAll before after said.text
TellsSaid said before after Peer = (said.status ≡ Peer) × AppendsAll before after said.text
TellsSaid said before after Outside = AppendsPart before after said.text true
TellsSaid said before after Memory = AppendsPart before after said.text false

-- a sink was opened, told a text, and closed again; no other was opened, and no input
pub record TellsOut (name text : List ℕ) (before after : OutsideTold) (status : Status) : Type 0
  where
    pub took : Took status (taken_of (before.sinks name)) (taken_of (after.sinks name)) text
    -- nothing is called whole where it couldn't be opened
    pub there : OnWhole status (IsSinkThere (before.sinks name))
    pub uses : Uses [] (name ∷ []) (is_outside status) before after
    pub asked : Asks before.written_names after.written_names (name ∷ [])
    pub unread : after.read_names ≡ before.read_names

-- a status that tells how a file was written
abbrev pub IsFileEnd : Status → Type 0
IsFileEnd Done = Unit {0}
IsFileEnd Outside = Unit {0}
IsFileEnd Memory = Unit {0}
IsFileEnd status = ⊥

-- a text was written to a file
pub record WritesFile (name text : List ℕ) (before after : OutsideTold) (status : Status) : Type 0
  where
    pub ends : IsFileEnd status
    pub tells : TellsOut name text before after status

-- the status of a command that has ended with one, and has written a file with another since
abbrev pub status_behind : Status → Status → Status
status_behind status Outside = Outside
status_behind status Memory = Memory
status_behind status written = status

-- what a command comes to that has no input: a refusal is printed, whether memory is left or not;
-- each other end is answered as it is
abbrev pub EndsUnread : List ℕ → InputEnd → OutsideTold → OutsideTold → Status → Type 0
EndsUnread input (Refused refusal) before after status =
    IsRun (duty_to_say true (prints Input (refusal_text input refusal))) before after status
    × ((status ≡ Input) ⊎ (status ≡ Outside))
EndsUnread input ends.Outside before after status = (status ≡ Outside) × (after ≡ before)
EndsUnread input ends.Memory before after status = (status ≡ Memory) × (after ≡ before)
