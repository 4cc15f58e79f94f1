-- What each command says, and which inputs it opens, from the octets of its inputs.
use Rattle.std.specs.Prelude.{ℕ, List, [], ◌∷◌, ◌++◌, length}
use Rattle.std.specs.Prelude.{Option, Some, None, Result, Ok, Err, codes}
use Rattle.commands.specs.declared.io.status.Status.TheVariants.{Done, Usage, Input, Full}
use Rattle.commands.specs.declared.io.input.Refusal.TheVariants.{BadLine}
use Rattle.commands.specs.declared.io.input.TheConstants.{TEXT_LIMIT}
use Rattle.commands.specs.Io.Saying.{Said, prints, refusal_text, full_text, with_file}
use Rattle.commands.specs.Io.Plans.{Asked, Plan, says, reads, reads_value, refused_said}
use Rattle.capture_text.specs.Captures.{capture_in}
use Rattle.bilateral.specs.Rows.{CentreRows}
use Rattle.tase_views.specs.Setup.{Setup}
use Rattle.tase_replay.specs.Play.{Played, PlayEnd, done, bad_line, history_full, shown_of}
use Rattle.tase_replay.specs.Play.{steps_of, entries_in, scenario_of}
use Rattle.texts.specs.Journal.Journals.{journal_text}
use Rattle.commands.specs.Load.Generated.{load_tables, load_scenario}
use Rattle.commands.specs.Load.Summaries.{summary_text}
use Rattle.commands.specs.Words.Words.{ReplayOptions, limit_of, Task, replays, lists_stream}
use Rattle.commands.specs.Words.Words.{no_options, decodes_pdu, verifies, loads}
use Rattle.commands.specs.Words.Words.{serves, plays_client, discovers}
use Rattle.tase_tool.specs.Decoding.{pdu_text}
use Rattle.tase_tool.specs.Listing.{stream_said}
use Rattle.commands.specs.Files.Tables.{tables_in}
use Rattle.tase_tool.specs.Verifying.{verify_plan}

abbrev pub usage : Said
usage = prints Usage (codes "usage" ++ 10 ∷ [])

-- all that a scenario shows; at its first bad line, or where the history is full, what the lines
-- before it show, and the refusal
abbrev pub said_at : List ℕ → PlayEnd → Said
said_at shown done = prints Done shown
said_at shown (bad_line line) =
    prints Input (shown ++ refusal_text (codes "scenario") (BadLine line))
said_at shown (history_full weight limit) = prints Full (shown ++ full_text weight limit)

abbrev pub played_said : Played → Said
played_said played = said_at (shown_of played) played.end

-- the setup of the node that a scenario is played on
abbrev pub setup_of : CentreRows → ℕ → Setup
setup_of rows limit = record { centre = rows; limit = limit }

-- the journal of a play: its entries, the oldest first
abbrev pub journal_of : Played → List ℕ
journal_of played = journal_text (entries_in (steps_of played))

-- what is said of a play whose journal goes to a file, or to none
abbrev pub kept_said : Option (List ℕ) → Played → Said
kept_said None played = played_said played
kept_said (Some name) played = with_file name (journal_of played) (played_said played)

abbrev pub scenario_said : CentreRows → ReplayOptions → List ℕ → Said
scenario_said rows options text =
    kept_said options.journal (scenario_of (setup_of rows (limit_of options)) text)

-- an input of a command that may have as many octets as a text
abbrev pub text_asked : List ℕ → List ℕ → Asked
text_asked called name = record { file = name; called = called; limit = TEXT_LIMIT }

-- the scenario under a name is read, and played over these tables
abbrev pub scenario_plan : CentreRows → ReplayOptions → List ℕ → Plan
scenario_plan rows options name = reads (text_asked (codes "scenario") name)
    (λ octets. says (scenario_said rows options octets))

-- tables are read, and a scenario over them
abbrev pub replay_plan : List ℕ → List ℕ → ReplayOptions → Plan
replay_plan tables scenario options =
    reads_value (text_asked (codes "tables") tables) tables_in
    (λ rows. scenario_plan rows options scenario)

-- the capture under a name
abbrev pub capture_asked : List ℕ → Asked
capture_asked name = text_asked (codes "in") name

-- what is counted of a play, in place of all that it shows; a refusal is told as a replay tells it,
-- without what the lines before show
abbrev pub counted_at : Played → PlayEnd → Said
counted_at played done =
    prints Done (summary_text (length (entries_in (steps_of played))) (shown_of played))
counted_at played (bad_line line) = refused_said (codes "scenario") (BadLine line)
counted_at played (history_full weight limit) = prints Full (full_text weight limit)

abbrev pub counted_said : Played → Said
counted_said played = counted_at played played.end

-- what is said of a load with so many rounds, over its tables as they are read: what is counted of
-- the play that a replay of its two texts without options prints
abbrev pub load_over : ℕ → Result CentreRows ℕ → Said
load_over rounds (Ok rows) =
    counted_said (scenario_of (setup_of rows (limit_of no_options)) (load_scenario rounds))
load_over rounds (Err line) = refused_said (codes "tables") (BadLine line)

abbrev pub load_said : ℕ → Said
load_said rounds = load_over rounds (tables_in load_tables)

-- the PDU that a capture holds is told
abbrev pub decode_plan : List ℕ → Plan
decode_plan name = reads (capture_asked name) pdu_text

-- the messages of the stream that a capture holds are listed
abbrev pub list_plan : List ℕ → Plan
list_plan name = reads (capture_asked name) (λ octets. says (stream_said (capture_in octets)))

-- nothing is read, and nothing said
abbrev pub no_plan : Plan
no_plan = says (prints Done [])

-- what these words ask for; a server, a client and a listing go by no plan (RunsTask says what they
-- do)
abbrev pub plan_of : Task → Plan
plan_of (replays tables scenario options) = replay_plan tables scenario options
plan_of (lists_stream capture) = list_plan capture
plan_of (decodes_pdu capture) = decode_plan capture
plan_of (verifies question) = verify_plan question
plan_of (loads rounds) = says (load_said rounds)
plan_of (serves task) = no_plan
plan_of (plays_client task) = no_plan
plan_of (discovers task) = no_plan
