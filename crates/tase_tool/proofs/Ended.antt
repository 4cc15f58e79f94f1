-- The statuses with which the runs of plans end, whatever the outside tells of their inputs.
use Rattle.std.proofs.Common.{◌≡◌, ℕ, Bool, true, false, List, Option, Some, None, Result, Ok, Err}
use Rattle.std.proofs.Common.{sym, subst, length}
use Rattle.std.specs.Prelude.{nat_lt, codes}
use Rattle.ber_values.specs.declared.fault.BerFault.{BerFault}
use Rattle.ber_values.specs.Reading.{Taken}
use Rattle.mms_services.specs.declared.pdu.MmsPdu.{MmsPdu}
use Rattle.mms_services.specs.Pdus.{pdu}
use Rattle.bilateral.specs.Rows.{CentreRows}
use Rattle.tase_views.specs.History.{Past}
use Rattle.tase_replay.specs.Play.{Played, PlayEnd, done, bad_line, history_full, scenario_of}
use Rattle.tase_replay.specs.Play.{shown_of}
use Rattle.tase_verify.specs.declared.association.verdict.Verdict.{Verdict}
use Rattle.tase_verify.specs.declared.association.verdict.Verdict.TheVariants as verdicts
use Rattle.tase_verify.specs.JournalIn.{journal_in}
use Rattle.tase_verify.specs.LinkText.{given_in}
use Rattle.tase_verify.specs.Verifying.{journal_setup, verdict_for}
use Rattle.outside.specs.Names.Outside.{OutsideTold}
use Rattle.capture_text.specs.Captures.{capture_in}
use Rattle.stack_assoc.specs.Listing.Listings.{listing_of}
use Rattle.commands.specs.declared.io.status.Status.{Status}
use Rattle.commands.specs.declared.io.status.Status.TheVariants.{Done, Usage, Input, Outside, Full}
use Rattle.commands.specs.declared.io.status.Status.TheVariants.{Differs, Memory, Peer}
use Rattle.commands.specs.declared.io.input.Refusal.TheVariants.{Long}
use Rattle.commands.specs.Io.Statuses.{OnWhole}
use Rattle.commands.specs.Io.Saying.{Duty, Text, untold, missing, told, duty_to_say, texts_of}
use Rattle.commands.specs.Io.Plans.{Asked, Plan, says, reads, RunsPlan, Owes, OwesFound, OwesWithin}
use Rattle.commands.specs.Io.Plans.{refused_said, by_value, texts_behind}
use Rattle.commands.specs.Load.Generated.{load_tables, load_scenario}
use Rattle.commands.specs.Words.Words.{ReplayOptions, Question, Task, replays, lists_stream}
use Rattle.commands.specs.Words.Words.{decodes_pdu, verifies, loads, serves, plays_client}
use Rattle.commands.specs.Words.Words.{discovers}
use Rattle.commands.specs.Words.Words.{limit_of, no_options}
use Rattle.commands.specs.Files.Tables.{tables_in}
use Rattle.tase_tool.specs.Decoding.{read_said}
use Rattle.tase_tool.specs.Listing.{status_of, stream_said}
use Rattle.tase_tool.specs.Verifying.{verdict_said, sent_plan, given_plan, key_meant}
use Rattle.tase_tool.specs.Verifying.{journal_plan, verify_plan}
use Rattle.tase_tool.specs.Saying.{said_at, kept_said, scenario_plan, replay_plan, counted_at}
use Rattle.tase_tool.specs.Saying.{setup_of, load_over, decode_plan, list_plan, plan_of}
use Rattle.tase_tool.specs.Running.{RunsTask}
use Rattle.tase_tool.specs.Statuses.{MayEndReading, MayEndPlaying, MayEndVerifying, MayEndWith}

-- ---- any plan

-- whatever octets its inputs have, what a plan says at last is said with such a status
abbrev pub EndsOnly : (Status → Type 0) → Plan → Type 0
EndsOnly May (says said) = May said.status
EndsOnly May (reads asked next) = (octets : List ℕ) → EndsOnly May (next octets)

-- so may a run that fails outside, and one for which memory is wanting
on_whole : (May : Status → Type 0) → May Outside → May Memory → (said status : Status) → May said
    → OnWhole status (said ≡ status) → May status
on_whole May out lack said Done may same = subst May same may
on_whole May out lack said Usage may same = subst May same may
on_whole May out lack said Input may same = subst May same may
on_whole May out lack said Outside may same = out
on_whole May out lack said Full may same = subst May same may
on_whole May out lack said Differs may same = subst May same may
on_whole May out lack said Memory may same = lack
on_whole May out lack said Peer may same = subst May same may

module _ (May : Status → Type 0) (bad : May Input) (out : May Outside) where
  abbrev MayOwe : Duty → Type 0
  MayOwe duty = May duty.says.status

  -- what is owed behind an input, whatever that is found to be
  found_ends : (asked : Asked) (next : List ℕ → Duty → Type 0)
      → ((octets : List ℕ) (duty : Duty) → next octets duty → MayOwe duty)
      → (found : Text) (duty : Duty) → OwesFound asked next found duty → MayOwe duty
  found_ends asked next each untold duty owes = absurd owes
  found_ends asked next each missing duty owes = subst MayOwe (sym owes) out
  found_ends asked next each (told octets) duty owes =
      by (nat_lt asked.limit (length octets)) owes
    where
      by : (long : Bool) → OwesWithin long (duty_to_say true (refused_said asked.called Long))
          (next octets) duty → MayOwe duty
      by true o = subst MayOwe (sym o) bad
      by false o = each octets duty o

  owes_ends : (plan : Plan) → EndsOnly May plan → (texts : List ℕ → Text) (duty : Duty)
      → Owes plan texts duty → MayOwe duty
  owes_ends (says said) ends texts duty owes = subst MayOwe (sym owes) ends
  owes_ends (reads asked next) ends texts duty owes = subst MayOwe (sym owes.2.2)
      (found_ends asked (λ octets. Owes (next octets) (texts_behind texts asked.file))
      (λ octets d o. owes_ends (next octets) (ends octets) (texts_behind texts asked.file) d o)
      owes.0 owes.2.0 owes.2.1)

  pub plan_ends : May Memory → (plan : Plan) → EndsOnly May plan → (before after : OutsideTold)
      (status : Status) → RunsPlan plan before after status → May status
  plan_ends lack (says said) ends before after status run =
      on_whole May out lack said.status status ends run.said.answered
  plan_ends lack (reads asked next) ends before after status run =
      on_whole May out lack run.0.says.status status
      (owes_ends (reads asked next) ends (texts_of before) run.0 run.1) run.2.said.answered

  -- an input that is read to a value
  value_ends : {V : Type 0} → (called : List ℕ) (onward : V → Plan)
      → ((value : V) → EndsOnly May (onward value)) → (spelled : Result V ℕ)
      → EndsOnly May (by_value called onward spelled)
  value_ends called onward each (Ok value) = each value
  value_ends called onward each (Err line) = bad

-- ---- a play

said_ends : (shown : List ℕ) (end : PlayEnd) → MayEndPlaying (said_at shown end).status
said_ends shown done = tt
said_ends shown (bad_line line) = tt
said_ends shown (history_full weight limit) = tt

kept_ends : (journal : Option (List ℕ)) (played : Played)
    → MayEndPlaying (kept_said journal played).status
kept_ends None played = said_ends (shown_of played) played.end
kept_ends (Some name) played = said_ends (shown_of played) played.end

replay_ends : (tables scenario : List ℕ) (options : ReplayOptions)
    → EndsOnly MayEndPlaying (replay_plan tables scenario options)
replay_ends tables scenario options = λ octets.
    value_ends MayEndPlaying tt tt (codes "tables") (λ rows. scenario_plan rows options scenario)
    (λ rows text. kept_ends options.journal (scenario_of (setup_of rows (limit_of options)) text))
    (tables_in octets)

counted_ends : (played : Played) (end : PlayEnd) → MayEndPlaying (counted_at played end).status
counted_ends played done = tt
counted_ends played (bad_line line) = tt
counted_ends played (history_full weight limit) = tt

load_ends : (rounds : ℕ) (tables : Result CentreRows ℕ)
    → MayEndPlaying (load_over rounds tables).status
load_ends rounds (Ok rows) =
    let played = scenario_of (setup_of rows (limit_of no_options)) (load_scenario rounds) in
    counted_ends played played.end
load_ends rounds (Err line) = tt

-- ---- a capture

broken_ends : (broken : Bool) → MayEndReading (status_of broken)
broken_ends true = tt
broken_ends false = tt

stream_ends : (capture : Result (List ℕ) ℕ) → MayEndReading (stream_said capture).status
stream_ends (Ok octets) = broken_ends (listing_of octets).broken
stream_ends (Err line) = tt

list_ends : (capture : List ℕ) → EndsOnly MayEndReading (list_plan capture)
list_ends capture = λ octets. stream_ends (capture_in octets)

read_ends : (len : ℕ) (result : Result (Taken MmsPdu) BerFault)
    → MayEndReading (read_said len result).status
read_ends len (Ok taken) = tt
read_ends len (Err fault) = tt

decode_ends : (capture : List ℕ) → EndsOnly MayEndReading (decode_plan capture)
decode_ends capture = λ octets. value_ends MayEndReading tt tt (codes "in") _
    (λ all. read_ends (length all) (pdu.reading 0 all)) (capture_in octets)

-- ---- a verdict

verdict_ends : (verdict : Verdict) → MayEndVerifying (verdict_said verdict).status
verdict_ends verdicts.Equal = tt
verdict_ends (verdicts.Differs place got want) = tt
verdict_ends (verdicts.Stray number) = tt

sent_ends : (question : Question) (rows : CentreRows) (past : Past) (given : List ℕ × Bool)
    → EndsOnly MayEndVerifying (sent_plan question rows (key_meant rows question) past given)
sent_ends question rows past given = λ octets. value_ends MayEndVerifying tt tt (codes "out") _
    (λ sent. verdict_ends (verdict_for rows past (key_meant rows question) given.0 given.1 sent))
    (capture_in octets)

journal_ends : (question : Question) (rows : CentreRows)
    → EndsOnly MayEndVerifying (journal_plan question rows)
journal_ends question rows = λ octets. value_ends MayEndVerifying tt tt (codes "journal")
    (given_plan question rows (key_meant rows question))
    (λ past text. value_ends MayEndVerifying tt tt (codes "in")
    (sent_plan question rows (key_meant rows question) past) (sent_ends question rows past)
    (given_in text))
    (journal_in (journal_setup rows) octets)

verify_ends : (question : Question) → EndsOnly MayEndVerifying (verify_plan question)
verify_ends question = λ octets. value_ends MayEndVerifying tt tt (codes "tables")
    (journal_plan question) (journal_ends question) (tables_in octets)

-- ---- a run

pub task_ends : (task : Task) (before after : OutsideTold) (refused refused_after : ℕ)
    (status : Status) → RunsTask (Some task) before after refused refused_after status
    → MayEndWith task status
task_ends (replays tables scenario options) before after refused refused_after status run =
    plan_ends MayEndPlaying tt tt tt (replay_plan tables scenario options)
    (replay_ends tables scenario options) before after status run.0
task_ends (lists_stream capture) before after refused refused_after status run =
    plan_ends MayEndReading tt tt tt (list_plan capture) (list_ends capture) before after status
    run.0
task_ends (decodes_pdu capture) before after refused refused_after status run =
    plan_ends MayEndReading tt tt tt (decode_plan capture) (decode_ends capture) before after status
    run.0
task_ends (verifies question) before after refused refused_after status run =
    plan_ends MayEndVerifying tt tt tt (verify_plan question) (verify_ends question) before after
    status run.0
task_ends (loads rounds) before after refused refused_after status run =
    plan_ends MayEndPlaying tt tt tt (plan_of (loads rounds))
    (load_ends rounds (tables_in load_tables)) before after status run.0
task_ends (serves task) before after refused refused_after status run = tt
task_ends (plays_client task) before after refused refused_after status run = tt
task_ends (discovers task) before after refused refused_after status run = tt
