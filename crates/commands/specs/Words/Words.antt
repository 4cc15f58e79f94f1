-- The words of a command.
use Rattle.std.specs.Prelude.{◌≡◌, ℕ, ◌≤◌, ◌-◌, ◌^◌, Bool, false, not, ◌&&◌, ◌||◌, ◌==◌}
use Rattle.std.specs.Prelude.{if◌then◌else◌, List, [], ◌∷◌, Option, Some, None, option_map}
use Rattle.std.specs.Prelude.{option_and_then}
use Rattle.std.specs.Prelude.{is_some, unwrap_or, IfSome, nat_le, codes, bytes_eq}
use Rattle.plain_text.specs.Numbers.{if_passes, number_up_to}
use Rattle.commands.specs.declared.load.scenario.TheConstants.{MOST_ROUNDS}
use Rattle.commands.specs.declared.words.words.TheConstants.{HISTORY_LIMIT, MOST_LIMIT}
use Rattle.commands.specs.declared.words.words.Options.{Options}
use Rattle.commands.specs.declared.words.words.Question.{Question as Questions}
use Rattle.commands.specs.declared.words.words.ServeWords.{ServeWords}
use Rattle.commands.specs.declared.words.words.ClientWords.{ClientWords}
use Rattle.commands.specs.declared.words.words.DiscoverWords.{DiscoverWords}
use Rattle.commands.specs.declared.words.words.Command.{Command}
use Rattle.commands.specs.declared.words.words.Command.TheVariants.{Replay, Decode, DecodePdu}
use Rattle.commands.specs.declared.words.words.Command.TheVariants.{Verify}
use Rattle.commands.specs.declared.words.words.Command.TheVariants.{Load, Serve, Client, Discover}

-- the octets that a history may weigh, and the file for its journal, where they are given
pub record ReplayOptions : Type 0 where
  pub limit : Option ℕ
  pub journal : Option (List ℕ)

-- the limit on a history's weight
abbrev pub limit_of : ReplayOptions → ℕ
limit_of options = unwrap_or options.limit HISTORY_LIMIT

-- the options of a command
abbrev pub options_seen : Options → ReplayOptions
options_seen options = record {
  limit = options.limit;
  journal = option_map (λ name. name.now) options.journal;
}

-- an association by the key of its peer and by how many that peer had opened before, and the files
-- that tell of it: the tables, the journal, and what its link gave and was sent
pub record Question : Type 0 where
  pub tables : List ℕ
  pub journal : List ℕ
  pub peer : List ℕ
  pub ordinal : ℕ
  pub given : List ℕ
  pub sent : List ℕ

-- what contracts see of it
abbrev pub question_seen : Questions → Question
question_seen question = record {
  tables = question.tables.now;
  journal = question.journal.now;
  peer = question.peer.now;
  ordinal = question.ordinal;
  given = question.given.now;
  sent = question.sent.now;
}

-- the tables that a server serves, the file for its journal, the address to listen at, and the
-- octets that its history may weigh, where they are given
pub record ServeTask : Type 0 where
  pub tables : List ℕ
  pub journal : List ℕ
  pub address : List ℕ
  pub limit : Option ℕ

abbrev pub served_limit : ServeTask → ℕ
served_limit task = unwrap_or task.limit HISTORY_LIMIT

abbrev pub serve_seen : ServeWords → ServeTask
serve_seen words = record {
  tables = words.tables.now;
  journal = words.journal.now;
  address = words.address.now;
  limit = words.limit;
}

-- the tables of a client, its script, and the address of the node that it connects to
pub record ClientTask : Type 0 where
  pub tables : List ℕ
  pub script : List ℕ
  pub address : List ℕ

abbrev pub client_seen : ClientWords → ClientTask
client_seen words = record {
  tables = words.tables.now;
  script = words.script.now;
  address = words.address.now;
}

-- the tables of a calling end that asks a node what it offers, the key of the peer in whose place it
-- calls, and the address of the node that it connects to
pub record DiscoverTask : Type 0 where
  pub tables : List ℕ
  pub key : List ℕ
  pub address : List ℕ

abbrev pub discover_seen : DiscoverWords → DiscoverTask
discover_seen words = record {
  tables = words.tables.now;
  key = words.key.now;
  address = words.address.now;
}

-- what words ask for
pub data Task : Type 0 where
  -- the scenario under the second name is played over the tables under the first, as options say
  replays : List ℕ → List ℕ → ReplayOptions → Task
  -- the messages of the stream that the capture under the name holds are listed
  lists_stream : List ℕ → Task
  -- the PDU that the capture under the name holds is told
  decodes_pdu : List ℕ → Task
  -- what an association was sent is held against its history and what its link gave
  verifies : Question → Task
  -- the scenario of the load run with so many rounds is played over its tables, and counted
  loads : ℕ → Task
  -- tables are served to whoever connects
  serves : ServeTask → Task
  -- the script of a client is played over a connection to another node
  plays_client : ClientTask → Task
  -- what another node offers is listed, and held against a peer's table
  discovers : DiscoverTask → Task

-- what a command asks for
abbrev pub task_of : Command → Task
task_of (Replay tables scenario options) =
    replays tables.now scenario.now (options_seen options)
task_of (Decode capture) = lists_stream capture.now
task_of (DecodePdu capture) = decodes_pdu capture.now
task_of (Verify question) = verifies (question_seen question)
task_of (Load rounds) = loads rounds
task_of (Serve words) = serves (serve_seen words)
task_of (Client words) = plays_client (client_seen words)
task_of (Discover words) = discovers (discover_seen words)

-- a limit that a history may have, and a journal that isn't standard output
pub record AreOptions (options : ReplayOptions) : Type 0 where
  pub limit : limit_of options ≤ MOST_LIMIT
  pub journal : IfSome options.journal (λ name. bytes_eq name (codes "-") ≡ false)

-- a limit that a history may have, and a file for the journal that isn't standard output
pub record IsServed (task : ServeTask) : Type 0 where
  pub limit : served_limit task ≤ MOST_LIMIT
  pub journal : bytes_eq task.journal (codes "-") ≡ false

abbrev pub IsLimited : Command → Type 0
IsLimited (Replay tables scenario options) = AreOptions (options_seen options)
IsLimited (Decode capture) = Unit {0}
IsLimited (DecodePdu capture) = Unit {0}
IsLimited (Verify question) = Unit {0}
IsLimited (Load rounds) = rounds ≤ MOST_ROUNDS
IsLimited (Serve words) = IsServed (serve_seen words)
IsLimited (Client words) = Unit {0}
IsLimited (Discover words) = Unit {0}

-- a name of a file: not empty, and beginning with `-` only where it is `-`, which is standard input
abbrev pub is_file_name : List ℕ → Bool
is_file_name [] = false
is_file_name (first ∷ more) = not (first == 45) || bytes_eq more []

-- `replay TABLES SCENARIO`
abbrev pub is_replay : List ℕ → List ℕ → List ℕ → Bool
is_replay verb tables scenario =
    bytes_eq verb (codes "replay") && is_file_name tables && is_file_name scenario

-- no option
abbrev pub no_options : ReplayOptions
no_options = record { limit = None; journal = None }

-- a limit: from 1 to 268,435,456
abbrev pub limit_in : List ℕ → Option ℕ
limit_in word =
    option_and_then (if_passes (λ limit. nat_le 1 limit)) (number_up_to MOST_LIMIT word)

-- the file of a journal, which isn't standard output
abbrev pub is_journal_name : List ℕ → Bool
is_journal_name word = is_file_name word && not (bytes_eq word (codes "-"))

-- `--limit N` or `--journal FILE` behind options, each once at most
abbrev pub with_limit : List ℕ → ReplayOptions → Option ReplayOptions
with_limit word options = if is_some options.limit then None
    else option_map (λ limit. record options { limit = Some limit }) (limit_in word)

abbrev pub with_journal : List ℕ → ReplayOptions → Option ReplayOptions
with_journal word options =
    if is_some options.journal || not (is_journal_name word) then None
    else Some (record options { journal = Some word })

abbrev pub with_option : List ℕ → List ℕ → ReplayOptions → Option ReplayOptions
with_option option word options =
    if bytes_eq option (codes "--limit") then with_limit word options
    else (if bytes_eq option (codes "--journal") then with_journal word options else None)

-- the options of a replay, in any order
abbrev pub options_in : List (List ℕ) → Option ReplayOptions
options_in [] = Some no_options
options_in (option ∷ word ∷ []) = with_option option word no_options
options_in (option ∷ word ∷ next ∷ other ∷ []) =
    option_and_then (with_option next other) (with_option option word no_options)
options_in words = None

-- `decode IN`
abbrev pub is_decode : List ℕ → List ℕ → Bool
is_decode verb capture = bytes_eq verb (codes "decode") && is_file_name capture

-- a number of rounds: from 1 to 2,000
abbrev pub rounds_in : List ℕ → Option ℕ
rounds_in word =
    option_and_then (if_passes (λ rounds. nat_le 1 rounds)) (number_up_to MOST_ROUNDS word)

-- `decode IN`, or `load N`
abbrev pub task_in_two : List ℕ → List ℕ → Option Task
task_in_two first second =
    if is_decode first second then Some (lists_stream second)
    else (if bytes_eq first (codes "load") then option_map loads (rounds_in second) else None)

-- `decode --pdu IN`
abbrev pub is_decode_pdu : List ℕ → List ℕ → List ℕ → Bool
is_decode_pdu verb option capture =
    bytes_eq verb (codes "decode") && bytes_eq option (codes "--pdu") && is_file_name capture

-- nothing behind `decode --pdu IN`
abbrev pub pdu_task_in : List ℕ → List (List ℕ) → Option Task
pdu_task_in capture [] = Some (decodes_pdu capture)
pdu_task_in capture more = None

-- `verify TABLES JOURNAL`
abbrev pub is_verify : List ℕ → List ℕ → List ℕ → Bool
is_verify verb tables journal =
    bytes_eq verb (codes "verify") && is_file_name tables && is_file_name journal

-- three names of files
abbrev pub are_file_names : List ℕ → List ℕ → List ℕ → Bool
are_file_names first second third =
    is_file_name first && is_file_name second && is_file_name third

-- `KEY ORDINAL IN OUT` behind it: a name, a number and two files
abbrev pub question_in : List ℕ → List ℕ → List ℕ → List ℕ → List ℕ → List ℕ → Option Question
question_in tables journal peer ordinal given sent =
    if not (are_file_names peer given sent) then None
    else option_map (λ number. record {
      tables = tables;
      journal = journal;
      peer = peer;
      ordinal = number;
      given = given;
      sent = sent;
    }) (number_up_to (2 ^ 64 - 1) ordinal)

-- exactly these four words
abbrev pub question_of : List ℕ → List ℕ → List (List ℕ) → Option Question
question_of tables journal (peer ∷ ordinal ∷ given ∷ sent ∷ []) =
    question_in tables journal peer ordinal given sent
question_of tables journal words = None

-- an address: as the name of a file
abbrev pub is_address : List ℕ → Bool
is_address word = is_file_name word

-- what options of a server give
pub record ServeOptions : Type 0 where
  pub limit : Option ℕ
  pub journal : Option (List ℕ)
  pub address : Option (List ℕ)

-- no option of a server
abbrev pub nothing_given : ServeOptions
nothing_given = record { limit = None; journal = None; address = None }

-- `--limit N`, `--journal FILE` or `--listen ADDRESS` behind options, each once at most
abbrev pub serve_limit : List ℕ → ServeOptions → Option ServeOptions
serve_limit word given = if is_some given.limit then None
    else option_map (λ limit. record given { limit = Some limit }) (limit_in word)

abbrev pub serve_journal : List ℕ → ServeOptions → Option ServeOptions
serve_journal word given = if is_some given.journal || not (is_journal_name word) then None
    else Some (record given { journal = Some word })

abbrev pub serve_address : List ℕ → ServeOptions → Option ServeOptions
serve_address word given = if is_some given.address || not (is_address word) then None
    else Some (record given { address = Some word })

abbrev pub serve_option : List ℕ → List ℕ → ServeOptions → Option ServeOptions
serve_option option word given =
    if bytes_eq option (codes "--limit") then serve_limit word given
    else (if bytes_eq option (codes "--journal") then serve_journal word given
    else (if bytes_eq option (codes "--listen") then serve_address word given else None))

-- the options of a server behind these, in any order
abbrev pub serve_options : List (List ℕ) → ServeOptions → Option ServeOptions
serve_options [] given = Some given
serve_options (option ∷ word ∷ more) given =
    option_and_then (serve_options more) (serve_option option word given)
serve_options words given = None

-- a journal and an address must be among them
abbrev pub serve_asked : List ℕ → ServeOptions → Option ServeTask
serve_asked tables given = option_and_then (λ journal. option_map (λ address. record {
  tables = tables;
  journal = journal;
  address = address;
  limit = given.limit;
}) given.address) given.journal

abbrev pub serve_in : List ℕ → List (List ℕ) → Option ServeTask
serve_in tables words = option_and_then (serve_asked tables) (serve_options words nothing_given)

-- `serve TABLES`
abbrev pub is_serve : List ℕ → List ℕ → Bool
is_serve verb tables = bytes_eq verb (codes "serve") && is_file_name tables

-- `client TABLES SCRIPT`
abbrev pub is_client : List ℕ → List ℕ → List ℕ → Bool
is_client verb tables script =
    bytes_eq verb (codes "client") && is_file_name tables && is_file_name script

-- `--connect ADDRESS`
abbrev pub is_connect : List ℕ → List ℕ → Bool
is_connect option word = bytes_eq option (codes "--connect") && is_address word

-- and nothing behind it
abbrev pub client_in : List ℕ → List ℕ → List (List ℕ) → Option ClientTask
client_in tables script (option ∷ word ∷ []) =
    if is_connect option word
    then Some (record { tables = tables; script = script; address = word }) else None
client_in tables script words = None

-- `discover TABLES KEY`: a key is any word that may name a file
abbrev pub is_discover : List ℕ → List ℕ → List ℕ → Bool
is_discover verb tables key =
    bytes_eq verb (codes "discover") && is_file_name tables && is_file_name key

-- `--connect ADDRESS`, and nothing behind it
abbrev pub discover_in : List ℕ → List ℕ → List (List ℕ) → Option DiscoverTask
discover_in tables key (option ∷ word ∷ []) =
    if is_connect option word
    then Some (record { tables = tables; key = key; address = word }) else None
discover_in tables key words = None

-- `replay TABLES SCENARIO` and its options, `decode --pdu IN`,
-- `verify TABLES JOURNAL KEY ORDINAL IN OUT`, `client TABLES SCRIPT --connect ADDRESS`, or
-- `discover TABLES KEY --connect ADDRESS`
abbrev pub task_in_three : List ℕ → List ℕ → List ℕ → List (List ℕ) → Option Task
task_in_three first second third more =
    if is_replay first second third then option_map (replays second third) (options_in more)
    else (if is_decode_pdu first second third then pdu_task_in third more
    else (if is_verify first second third
    then option_map verifies (question_of second third more)
    else (if is_client first second third
    then option_map plays_client (client_in second third more)
    else (if is_discover first second third
    then option_map discovers (discover_in second third more) else None))))

-- one of the above
abbrev pub task_behind : List ℕ → List ℕ → List (List ℕ) → Option Task
task_behind first second [] = task_in_two first second
task_behind first second (third ∷ more) = task_in_three first second third more

-- `serve TABLES` and its options, or one of the above; no other words are a command
abbrev pub task_in : List (List ℕ) → Option Task
task_in (first ∷ second ∷ more) = if is_serve first second
    then option_map serves (serve_in second more) else task_behind first second more
task_in words = None
