-- Where a command may lack memory.
use Rattle.std.specs.Prelude.{◌≡◌, ◌⊎◌, ℕ, List, Option, Some, Result, Ok, Err, IsOk, Vec}
use Rattle.std.specs.declared.alloc.Global.{Global}
use Rattle.outside.specs.Names.Outside.{OutsideTold}
use Rattle.capture_text.specs.Captures.{capture_in}
use Rattle.bilateral.specs.Rows.{CentreRows, place_of_peer}
use Rattle.centre_client.specs.Scripts.{IsScriptText}
use Rattle.tase_verify.specs.JournalIn.{journal_in}
use Rattle.tase_verify.specs.LinkText.{given_in}
use Rattle.tase_verify.specs.Verifying.{journal_setup}
use Rattle.commands.specs.declared.io.status.Status.TheVariants as statuses
use Rattle.commands.specs.declared.io.input.InputEnd.{InputEnd}
use Rattle.commands.specs.declared.io.input.InputEnd.TheVariants.{Memory}
use Rattle.commands.specs.declared.io.input.TheConstants.{TEXT_LIMIT, JOURNAL_LIMIT}
use Rattle.commands.specs.Files.Tables.{tables_in}
use Rattle.commands.specs.Io.Inputs.{ReadsInput}
use Rattle.commands.specs.Words.Words.{Question, ClientTask, Task, verifies, decodes_pdu}
use Rattle.commands.specs.Words.Words.{lists_stream, plays_client, DiscoverTask, discovers}
use Rattle.tase_tool.specs.Client.Playing.{PlaysAtNode}
use Rattle.tase_tool.specs.Discover.Discovering.{ListsAtNode}

-- ---- behind one input

-- memory was wanting for an input that was read to this, or behind its value
abbrev pub LacksBehind : {V : Type 0} → (V → OutsideTold → OutsideTold → Type 0)
    → Result V InputEnd → OutsideTold → OutsideTold → Type 0
LacksBehind {V} behind (Ok value) before after = behind value before after
LacksBehind {V} behind (Err Memory) before after = after ≡ before
LacksBehind {V} behind (Err end) before after = ⊥

-- the same by its octets
abbrev pub LacksText : (List ℕ → OutsideTold → OutsideTold → Type 0)
    → Result (Vec ℕ Global) InputEnd → OutsideTold → OutsideTold → Type 0
LacksText behind read before after =
    LacksBehind (λ (text : Vec ℕ Global). behind text.items) read before after

-- an input was opened, and memory was wanting for it, or behind its octets
pub record LacksRead (behind : List ℕ → OutsideTold → OutsideTold → Type 0) (name : List ℕ)
    (limit : ℕ) (before after : OutsideTold) : Type 0 where
  pub read : Result (Vec ℕ Global) InputEnd
  pub mid : OutsideTold
  pub reads : ReadsInput before mid name limit read
  pub lacks : LacksText behind read mid after

-- the same, or it wasn't opened
abbrev pub LacksAt : (List ℕ → OutsideTold → OutsideTold → Type 0) → List ℕ → ℕ → OutsideTold
    → OutsideTold → Type 0
LacksAt behind name limit before after =
    (after ≡ before) ⊎ LacksRead behind name limit before after

-- no line of the octets is bad, and nothing was done behind them
abbrev pub LacksSound : {V : Type 0} → (List ℕ → Result V ℕ) → List ℕ → OutsideTold → OutsideTold
    → Type 0
LacksSound {V} spelled octets before after = IsOk (spelled octets) × (after ≡ before)

-- no line of the octets is bad, and memory was wanting behind their value
abbrev pub LacksOver : {V : Type 0} → (List ℕ → Result V ℕ)
    → (V → OutsideTold → OutsideTold → Type 0) → List ℕ → OutsideTold → OutsideTold → Type 0
LacksOver {V} spelled behind octets before after =
    (value : V) × (spelled octets ≡ Ok value) × behind value before after

-- the same, or memory was wanting for the value
abbrev pub LacksFrom : {V : Type 0} → (List ℕ → Result V ℕ)
    → (V → OutsideTold → OutsideTold → Type 0) → List ℕ → OutsideTold → OutsideTold → Type 0
LacksFrom {V} spelled behind octets before after =
    (after ≡ before) ⊎ LacksOver spelled behind octets before after

-- ---- of a check

-- what the association was sent is its last input: once that is read, memory isn't wanting
abbrev pub LacksNothing : List ℕ → OutsideTold → OutsideTold → Type 0
LacksNothing octets before after = ⊥

abbrev pub LacksSent : List ℕ → OutsideTold → OutsideTold → Type 0
LacksSent name before after = LacksAt LacksNothing name TEXT_LIMIT before after

-- once what its link gave is read, no line of that is bad
abbrev pub LacksGiven : Question → OutsideTold → OutsideTold → Type 0
LacksGiven question before after = LacksAt (LacksOver given_in (λ given. LacksSent question.sent))
    question.given TEXT_LIMIT before after

-- by its journal, over these tables
abbrev pub LacksJournal : Question → CentreRows → OutsideTold → OutsideTold → Type 0
LacksJournal question rows before after =
    LacksAt (LacksFrom (journal_in (journal_setup rows)) (λ past. LacksGiven question))
    question.journal JOURNAL_LIMIT before after

-- its tables come first
abbrev pub LacksCheck : Question → OutsideTold → OutsideTold → Type 0
LacksCheck question before after =
    LacksAt (LacksFrom tables_in (LacksJournal question)) question.tables TEXT_LIMIT before after

-- ---- of a client

-- once its script is read, no line of it is bad, and nothing was connected to; or it was played at
-- its node
abbrev pub LacksPlay : ClientTask → CentreRows → List ℕ → OutsideTold → OutsideTold → Type 0
LacksPlay task rows text before after = ((after ≡ before) × IsScriptText rows text)
    ⊎ PlaysAtNode task rows text before after statuses.Memory

abbrev pub LacksScript : ClientTask → CentreRows → OutsideTold → OutsideTold → Type 0
LacksScript task rows before after =
    LacksAt (LacksPlay task rows) task.script TEXT_LIMIT before after

-- its tables come first
abbrev pub LacksClient : ClientTask → OutsideTold → OutsideTold → Type 0
LacksClient task before after =
    LacksAt (LacksFrom tables_in (LacksScript task)) task.tables TEXT_LIMIT before after

-- ---- of a listing

-- some peer has the key, and nothing was connected to; or it was listed at its node
abbrev pub LacksListing : DiscoverTask → CentreRows → OutsideTold → OutsideTold → Type 0
LacksListing task rows before after =
    (peer : ℕ) × (place_of_peer rows task.key ≡ Some peer)
    × ((after ≡ before) ⊎ ListsAtNode task rows peer before after statuses.Memory)

-- its tables come first
abbrev pub LacksDiscover : DiscoverTask → OutsideTold → OutsideTold → Type 0
LacksDiscover task before after =
    LacksAt (LacksFrom tables_in (LacksListing task)) task.tables TEXT_LIMIT before after

-- ---- of any command

-- once a capture is read, no line of it is bad
abbrev pub LacksMessages : List ℕ → OutsideTold → OutsideTold → Type 0
LacksMessages octets before after = IsOk (capture_in octets)

abbrev pub LacksCapture : List ℕ → OutsideTold → OutsideTold → Type 0
LacksCapture name before after = LacksAt LacksMessages name TEXT_LIMIT before after

-- where memory may be wanting for a command: a check hasn't read its last input to the end, no line
-- is bad of what its link gave, of a capture, or of a script, and a peer has the key of a listing
abbrev pub LacksFor : Option Task → OutsideTold → OutsideTold → Type 0
LacksFor (Some (verifies question)) before after = LacksCheck question before after
LacksFor (Some (decodes_pdu capture)) before after = LacksCapture capture before after
LacksFor (Some (lists_stream capture)) before after = LacksCapture capture before after
LacksFor (Some (plays_client task)) before after = LacksClient task before after
LacksFor (Some (discovers task)) before after = LacksDiscover task before after
LacksFor task before after = Unit {0}
