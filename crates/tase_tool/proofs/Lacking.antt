-- Where a command may lack memory.
use Rattle.std.proofs.Common.{◌≡◌, ◌≢◌, ◌⊎◌, inl, inr, ℕ, List, Option, Some, None}
use Rattle.std.proofs.Common.{refl, sym, subst, ◌∙◌}
use Rattle.std.specs.Prelude.{Result, Ok, Err, Vec, IsOk, IsErr, codes}
use Rattle.std.specs.declared.alloc.AllocError.{AllocError}
use Rattle.std.specs.declared.alloc.Global.{Global}
use Rattle.outside.specs.Names.Outside.{OutsideTold}
use Rattle.bilateral.specs.Rows.{CentreRows, place_of_peer}
use Rattle.sbo_device.specs.declared.key.Key.{Key}
use Rattle.tase_views.specs.History.{Past}
use Rattle.tase_verify.specs.declared.association.answered.AnsweredEvent.{AnsweredEvent}
use Rattle.tase_verify.specs.Verifying.{journal_setup, answered_for}
use Rattle.commands.specs.declared.io.status.Status.{Status}
use Rattle.commands.specs.declared.io.status.Status.TheVariants as statuses
use Rattle.commands.specs.declared.io.input.InputEnd.{InputEnd}
use Rattle.commands.specs.declared.io.input.InputEnd.TheVariants.{Refused, Outside, Memory}
use Rattle.commands.specs.declared.io.input.TheConstants.{TEXT_LIMIT}
use Rattle.commands.specs.Io.Inputs.{value_as, value_or_end}
use Rattle.commands.specs.Io.Runs.{EndsUnread}
use Rattle.commands.specs.Io.Plans.{IsValue, ReadsValue}
use Rattle.commands.specs.Files.Tables.{tables_in}
use Rattle.commands.specs.Words.Words.{ClientTask, Task, replays, lists_stream, decodes_pdu}
use Rattle.commands.specs.Words.Words.{verifies, loads, serves, plays_client, client_seen}
use Rattle.commands.specs.Words.Words.{DiscoverTask, discovers, discover_seen}
use Rattle.tase_tool.specs.declared.running.Waiting.{Waiting}
use Rattle.tase_tool.specs.declared.running.Waiting.TheVariants.{Serve, Client, Discover}
use Rattle.tase_tool.specs.Client.Playing.{GoesBehindScript, GoesBehindTables, PlaysScript}
use Rattle.tase_tool.specs.Client.Playing.{PlaysAtNode}
use Rattle.tase_tool.specs.Discover.Discovering.{ListsAtNode, ListsPeer, ListsByKey, ListsBehind}
use Rattle.tase_tool.specs.Verifying.{AreAnswers}
use Rattle.tase_tool.specs.Running.{RunsTask, RunsClient, RunsDiscover, waits_for}
use Rattle.tase_tool.specs.Lacking.{LacksBehind, LacksText, LacksRead, LacksSound, LacksOver}
use Rattle.tase_tool.specs.Lacking.{LacksFrom, LacksPlay, LacksScript, LacksClient, LacksFor}
use Rattle.tase_tool.specs.Lacking.{LacksListing, LacksDiscover}

-- ---- a command without an input

pub refused_told : (status : Status) → (status ≡ statuses.Input) ⊎ (status ≡ statuses.Outside)
    → status ≢ statuses.Memory
refused_told status (inl input) = λ lack. absurd cc
refused_told status (inr lost) = λ lack. absurd cc

-- a command ends by want of memory without an input only where memory was wanting for that
pub lacks_unread : {V : Type 0} (behind : V → OutsideTold → OutsideTold → Type 0)
    (input : List ℕ) (end : InputEnd) (before after : OutsideTold) (status : Status)
    → EndsUnread input end before after status → status ≡ statuses.Memory
    → LacksBehind behind (Err end) before after
lacks_unread behind input (Refused refusal) before after status ends lack =
    absurd (refused_told status ends.1 lack)
lacks_unread behind input Outside before after status ends lack =
    absurd (refused_told status (inr ends.0) lack)
lacks_unread behind input Memory before after status ends lack = ends.1

-- ---- an input that is read to a value

module _ {V W : Type 0} (one : V → OutsideTold → OutsideTold → Type 0)
    (other : W → OutsideTold → OutsideTold → Type 0) where
  same_unread : (end : InputEnd) (before after : OutsideTold)
      → LacksBehind one (Err end) before after → LacksBehind other (Err end) before after
  same_unread (Refused refusal) before after lacks = absurd lacks
  same_unread Outside before after lacks = absurd lacks
  same_unread Memory before after lacks = lacks

module _ {V : Type 0} (spelled : List ℕ → Result V ℕ)
    (behind : V → OutsideTold → OutsideTold → Type 0) where
  from_value : (read : Result (Vec ℕ Global) InputEnd) (value : Result V InputEnd)
      (mid after : OutsideTold) → IsValue spelled read value → LacksBehind behind value mid after
      → LacksText (LacksFrom spelled behind) read mid after
  from_value (Ok text) (Ok found) mid after is lacks = inr (found, is, lacks)
  from_value (Ok text) (Err (Refused refusal)) mid after is lacks = absurd lacks
  from_value (Ok text) (Err Outside) mid after is lacks = absurd lacks
  from_value (Ok text) (Err Memory) mid after is lacks = inl lacks
  from_value (Err end) value mid after is lacks =
      same_unread behind (λ (text : Vec ℕ Global). LacksFrom spelled behind text.items) end mid
      after (subst (λ (found : Result V InputEnd). LacksBehind behind found mid after) is lacks)

  -- memory may be wanting for the value, whatever the octets are
  pub lacks_from : (name : List ℕ) (limit : ℕ) (before mid after : OutsideTold)
      (value : Result V InputEnd) → ReadsValue spelled name limit value before mid
      → LacksBehind behind value mid after
      → LacksRead (LacksFrom spelled behind) name limit before after
  lacks_from name limit before mid after value found lacks = record {
    read = found.0;
    mid = mid;
    reads = found.1;
    lacks = from_value found.0 value mid after found.2 lacks;
  }

  sound_value : (spelling : Result V ℕ) → IsOk spelling → (value : V) × (spelling ≡ Ok value)
  sound_value (Ok value) sound = (value, refl)
  sound_value (Err line) sound = absurd cc

  over_value : (read : Result (Vec ℕ Global) InputEnd) (value : V) (mid after : OutsideTold)
      → IsValue spelled read (Ok value) → behind value mid after
      → LacksText (LacksOver spelled behind) read mid after
  over_value (Ok text) value mid after is lacks = (value, is, lacks)
  over_value (Err end) value mid after is lacks = absurd cc

  over_sound : ((value : V) (o : OutsideTold) → behind value o o)
      → (read : Result (Vec ℕ Global) InputEnd) (first mid after : OutsideTold) → after ≡ mid
      → LacksText (LacksSound spelled) read first mid
      → LacksText (LacksOver spelled behind) read first after
  over_sound idle (Ok text) first mid after same lacks =
      let found = sound_value (spelled text.items) lacks.0 in (
        found.0,
        found.1,
        subst (λ (o : OutsideTold). behind found.0 first o) (sym (same ∙ lacks.1))
            (idle found.0 first),
      )
  over_sound idle (Err (Refused refusal)) first mid after same lacks = absurd lacks
  over_sound idle (Err Outside) first mid after same lacks = absurd lacks
  over_sound idle (Err Memory) first mid after same lacks = same ∙ lacks

  -- memory may be wanting for the value only where no line of the octets is bad
  pub lacks_over : {T : Type 0} (meant : T → V) → ((value : V) (o : OutsideTold) → behind value o o)
      → (name : List ℕ) (limit : ℕ) (before mid after : OutsideTold) (result : Result T InputEnd)
      → ReadsValue spelled name limit (value_as meant result) before mid
      → (result ≡ Err Memory → LacksRead (LacksSound spelled) name limit before mid)
      → LacksBehind behind (value_as meant result) mid after
      → LacksRead (LacksOver spelled behind) name limit before after
  lacks_over meant idle name limit before mid after (Ok value) found wanting lacks = record {
    read = found.0;
    mid = mid;
    reads = found.1;
    lacks = over_value found.0 (meant value) mid after found.2 lacks;
  }
  lacks_over meant idle name limit before mid after (Err (Refused refusal)) found wanting lacks =
      absurd lacks
  lacks_over meant idle name limit before mid after (Err Outside) found wanting lacks =
      absurd lacks
  lacks_over meant idle name limit before mid after (Err Memory) found wanting lacks =
      let sound = wanting refl in record {
        read = sound.read;
        mid = sound.mid;
        reads = sound.reads;
        lacks = over_sound idle sound.read sound.mid mid after lacks sound.lacks;
      }

-- what wants memory for its value
pub lacks_value : {T : Type 0} (read : Result (Result T ℕ) AllocError)
    (result : Result T InputEnd) → result ≡ value_or_end read → result ≡ Err Memory → IsErr read
lacks_value (Ok (Ok value)) result is lack = absurd cc
lacks_value (Ok (Err line)) result is lack = absurd cc
lacks_value (Err out_of_memory) result is lack = refl

-- ---- a journal, by the events of the association that is meant

module _ (rows : CentreRows) (key : Option Key)
    (behind : Past → OutsideTold → OutsideTold → Type 0) (before after : OutsideTold)
    (status : Status) (read : Result (Vec AnsweredEvent Global) InputEnd) where
  pub answered_lacks : (events : Vec AnsweredEvent Global) → read ≡ Ok events
      → ((past : Past) → events.items ≡ answered_for (journal_setup rows) key past
      → status ≡ statuses.Memory → behind past before after)
      → (was : Result Past InputEnd) → AreAnswers rows key was read → status ≡ statuses.Memory
      → LacksBehind behind was before after
  answered_lacks events is lacks (Ok past) are lack =
      lacks past (subst (λ (r : Result (Vec AnsweredEvent Global) InputEnd).
      AreAnswers rows key (Ok past) r) is are) lack
  answered_lacks events is lacks (Err end) are lack =
      absurd (subst (λ (r : Result (Vec AnsweredEvent Global) InputEnd).
      AreAnswers rows key (Err end) r) is are)

  pub unanswered_lacks : (end : InputEnd) → read ≡ Err end
      → EndsUnread (codes "journal") end before after status
      → (was : Result Past InputEnd) → AreAnswers rows key was read → status ≡ statuses.Memory
      → LacksBehind behind was before after
  unanswered_lacks end is ends (Ok past) are lack =
      absurd (subst (λ (r : Result (Vec AnsweredEvent Global) InputEnd).
      AreAnswers rows key (Ok past) r) is are)
  unanswered_lacks end is ends (Err other) are lack =
      subst (λ (e : InputEnd). LacksBehind behind (Err e) before after)
      (sym (subst (λ (r : Result (Vec AnsweredEvent Global) InputEnd).
      AreAnswers rows key (Err other) r) is are))
      (lacks_unread behind (codes "journal") end before after status ends lack)

-- ---- a client

play_lacks : (task : ClientTask) (rows : CentreRows) (text : List ℕ) (before after : OutsideTold)
    (status : Status) → PlaysScript task rows text before after status
    → status ≡ statuses.Memory → LacksPlay task rows text before after
play_lacks task rows text before after status (inl (inl plays)) lack =
    inr (subst (λ (s : Status). PlaysAtNode task rows text before after s) lack plays)
play_lacks task rows text before after status (inl (inr unconnected)) lack =
    absurd (refused_told status (inr unconnected.answers) lack)
play_lacks task rows text before after status (inr (inl refuses)) lack =
    absurd (refused_told status refuses.told.1 lack)
play_lacks task rows text before after status (inr (inr lacks)) lack = inl (lacks.1, lacks.2)

script_lacks : (task : ClientTask) (rows : CentreRows) (read : Result (Vec ℕ Global) InputEnd)
    (before after : OutsideTold) (status : Status)
    → GoesBehindScript task rows read before after status → status ≡ statuses.Memory
    → LacksText (LacksPlay task rows) read before after
script_lacks task rows (Ok text) before after status goes lack =
    play_lacks task rows text.items before after status goes lack
script_lacks task rows (Err end) before after status goes lack =
    lacks_unread (λ (text : Vec ℕ Global). LacksPlay task rows text.items) (codes "script") end
    before after status goes lack

tables_lack : (task : ClientTask) (read : Result CentreRows InputEnd)
    (before after : OutsideTold) (status : Status)
    → GoesBehindTables task read before after status → status ≡ statuses.Memory
    → LacksBehind (LacksScript task) read before after
tables_lack task (Ok rows) before after status goes lack = inr (record {
  read = goes.read;
  mid = goes.mid;
  reads = goes.reads;
  lacks = script_lacks task rows goes.read goes.mid after status goes.goes lack;
})
tables_lack task (Err end) before after status goes lack =
    lacks_unread (LacksScript task) (codes "tables") end before after status goes lack

client_lacks : (task : ClientTask) (before after : OutsideTold) (status : Status)
    → RunsClient task before after status → status ≡ statuses.Memory
    → LacksClient task before after
client_lacks task before after status (inl ran) lack =
    inr
    (lacks_from tables_in (LacksScript task) task.tables TEXT_LIMIT before ran.mid after ran.read
    ran.tables (tables_lack task ran.read ran.mid after status ran.goes lack))
client_lacks task before after status (inr idle) lack = inl idle.1

-- ---- a listing

peer_lacks : (task : DiscoverTask) (rows : CentreRows) (peer : ℕ) (before after : OutsideTold)
    (status : Status) → place_of_peer rows task.key ≡ Some peer
    → ListsPeer task rows peer before after status
    → status ≡ statuses.Memory → LacksListing task rows before after
peer_lacks task rows peer before after status key (inl (inl lists)) lack =
    (peer, key, inr (subst (λ (s : Status). ListsAtNode task rows peer before after s) lack lists))
peer_lacks task rows peer before after status key (inl (inr unreached)) lack =
    absurd (refused_told status (inr unreached.answers) lack)
peer_lacks task rows peer before after status key (inr lacks) lack = (peer, key, inl lacks.1)

key_lacks : (task : DiscoverTask) (rows : CentreRows) (found : Option ℕ)
    (before after : OutsideTold) (status : Status) → place_of_peer rows task.key ≡ found
    → ListsByKey task rows found before after status
    → status ≡ statuses.Memory → LacksListing task rows before after
key_lacks task rows None before after status key ends lack =
    absurd (refused_told status ends.1 lack)
key_lacks task rows (Some peer) before after status key lists lack =
    peer_lacks task rows peer before after status key lists lack

read_lacks : (task : DiscoverTask) (read : Result CentreRows InputEnd)
    (before after : OutsideTold) (status : Status)
    → ListsBehind task read before after status → status ≡ statuses.Memory
    → LacksBehind (LacksListing task) read before after
read_lacks task (Ok rows) before after status goes lack =
    key_lacks task rows (place_of_peer rows task.key) before after status refl goes lack
read_lacks task (Err end) before after status goes lack =
    lacks_unread (LacksListing task) (codes "tables") end before after status goes lack

discover_lacks : (task : DiscoverTask) (before after : OutsideTold) (status : Status)
    → RunsDiscover task before after status → status ≡ statuses.Memory
    → LacksDiscover task before after
discover_lacks task before after status (inl ran) lack =
    inr
    (lacks_from tables_in (LacksListing task) task.tables TEXT_LIMIT before ran.mid after ran.read
    ran.tables (read_lacks task ran.read ran.mid after status ran.goes lack))
discover_lacks task before after status (inr idle) lack = inl idle.1

-- ---- any command

-- nothing was done
pub lacks_idle : (task : Option Task) (before : OutsideTold) → LacksFor task before before
lacks_idle None before = tt
lacks_idle (Some (verifies question)) before = inl refl
lacks_idle (Some (replays tables scenario options)) before = tt
lacks_idle (Some (lists_stream capture)) before = inl refl
lacks_idle (Some (decodes_pdu capture)) before = inl refl
lacks_idle (Some (loads rounds)) before = tt
lacks_idle (Some (serves task)) before = tt
lacks_idle (Some (plays_client task)) before = inl refl
lacks_idle (Some (discovers task)) before = inl refl

-- a command that waits
pub waits_lack : (waiting : Waiting) (before after : OutsideTold) (refused refused_after : ℕ)
    (status : Status)
    → RunsTask (Some (waits_for waiting)) before after refused refused_after status
    → status ≡ statuses.Memory → LacksFor (Some (waits_for waiting)) before after
waits_lack (Serve words) before after refused refused_after status runs lack = tt
waits_lack (Client words) before after refused refused_after status runs lack =
    client_lacks (client_seen words) before after status runs.0 lack
waits_lack (Discover words) before after refused refused_after status runs lack =
    discover_lacks (discover_seen words) before after status runs.0 lack
