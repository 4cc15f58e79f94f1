-- Words of a kind: `clap` takes them, and its matches ask for what the words ask for.
use Rattle.std.proofs.Common.{◌≡◌, ◌∙◌, ◌^◌, ◌-◌, true, List, ℕ, Option, Some, None, refl, ap, sym}
use Rattle.std.proofs.Common.{subst}
use Rattle.std.proofs.Common.{codes, is_some, option_map, option_and_then, Result, Ok, Err, IfErr}
use Rattle.commands.specs.declared.load.scenario.TheConstants.{MOST_ROUNDS}
use Rattle.clap.specs.Words.{first_of, matches_of, one_of, takes}
use Rattle.commands.specs.declared.words.words.CommandKind.{CommandKind}
use Rattle.commands.specs.declared.words.words.CommandKind.TheVariants as kind
use Rattle.commands.specs.Words.Words.{Question, ReplayOptions, Task, decodes_pdu, lists_stream}
use Rattle.commands.specs.Words.Words.{loads, replays}
use Rattle.commands.specs.Words.Words.{rounds_in, task_in, verifies}
use Rattle.commands.specs.Words.Words.{ClientTask, ServeTask, plays_client, serves}
use Rattle.commands.specs.Words.Words.{DiscoverTask, discovers}
use Rattle.commands.specs.Words.Kinds.{kind_in, kind_of_task}
use Rattle.commands.specs.Words.Matched.{client_app, client_matched, decode_app, load_app}
use Rattle.commands.specs.Words.Matched.{load_matched, serve_app, serve_matched}
use Rattle.commands.specs.Words.Matched.{discover_app, discover_matched}
use Rattle.commands.specs.Words.Matched.{replay_app, replay_matched, verify_app, verify_matched}
use Rattle.commands.proofs.OfWords.Tests.{mapped, not_none}
use Rattle.commands.proofs.OfWords.Forms.{AreClient, AreLoad, ArePdu, AreReplay, AreServe, AreStream}
use Rattle.commands.proofs.OfWords.Forms.{AreDiscover, AreVerify, HasForm, has_form}
use Rattle.commands.proofs.OfWords.OptionWords.{counted}
use Rattle.commands.proofs.OfWords.PlainWords.{plain_name, plain_number}
use Rattle.commands.proofs.OfWords.DecodeRead.{pdu_seen, pdu_taken, stream_seen, stream_taken}
use Rattle.commands.proofs.OfWords.ClientRead.{client_read}
use Rattle.commands.proofs.OfWords.DiscoverRead.{discover_read}
use Rattle.commands.proofs.OfWords.LoadRead.{load_first, load_taken}
use Rattle.commands.proofs.OfWords.ReplayRead.{replay_read}
use Rattle.commands.proofs.OfWords.ServeRead.{serve_read}
use Rattle.commands.proofs.OfWords.VerifyRead.{ArePlain, verify_asked, verify_taken}

-- ---- `load`

abbrev LoadReads : List (List ℕ) → Option Task → Type 0
LoadReads words task =
    (takes load_app words ≡ true) × (load_matched (matches_of load_app words) ≡ task)

load_form : (rounds : ℕ) (words : List (List ℕ)) → AreLoad rounds words
    → LoadReads words (Some (loads rounds))
load_form rounds words form =
    let plain = plain_number MOST_ROUNDS form.word rounds
    (counted MOST_ROUNDS form.word rounds form.rounds_are).number in
    subst (λ (v : List (List ℕ)). LoadReads v (Some (loads rounds))) (sym form.words_are) (
      load_taken form.word plain,
      ap (λ (o : Option (List ℕ)). option_map loads (option_and_then rounds_in o))
          (load_first form.word plain)
          ∙ ap (option_map loads) form.rounds_are,
    )

-- ---- `decode`

-- what `decode` asks for, by the text of its flag
pub record DecodeReads (words : List (List ℕ)) (task : Option Task) : Type 0 where
  pub taken : takes decode_app words ≡ true
  pub stream : (asked : Option Task) → (one_of (codes "pdu") (matches_of decode_app words)
      ≡ Some (codes "false") → asked ≡ option_map lists_stream
      (first_of (codes "IN") (matches_of decode_app words)))
      → (one_of (codes "pdu") (matches_of decode_app words)
      ≡ Some (codes "true") → asked ≡ option_map decodes_pdu
      (first_of (codes "IN") (matches_of decode_app words)))
      → asked ≡ task

stream_form : (capture : List ℕ) (words : List (List ℕ)) → AreStream capture words
    → DecodeReads words (Some (lists_stream capture))
stream_form capture words form =
    let plain = plain_name capture form.capture_name in
    subst (λ (v : List (List ℕ)). DecodeReads v (Some (lists_stream capture)))
    (sym form.words_are) (record {
      taken = stream_taken capture plain;
      stream = λ asked unset set.
          unset (ap (λ (p : Option (List ℕ) × Option (List ℕ)). p.0) (stream_seen capture plain))
          ∙ ap (λ (p : Option (List ℕ) × Option (List ℕ)). option_map lists_stream p.1)
          (stream_seen capture plain);
    })

pdu_form : (capture : List ℕ) (words : List (List ℕ)) → ArePdu capture words
    → DecodeReads words (Some (decodes_pdu capture))
pdu_form capture words form =
    let plain = plain_name capture form.capture_name in
    subst (λ (v : List (List ℕ)). DecodeReads v (Some (decodes_pdu capture)))
    (sym form.words_are) (record {
      taken = pdu_taken capture plain;
      stream = λ asked unset set.
          set (ap (λ (p : Option (List ℕ) × Option (List ℕ)). p.0) (pdu_seen capture plain))
          ∙ ap (λ (p : Option (List ℕ) × Option (List ℕ)). option_map decodes_pdu p.1)
          (pdu_seen capture plain);
    })

-- ---- `verify`

abbrev VerifyReads : List (List ℕ) → Option Task → Type 0
VerifyReads words task = (takes verify_app words ≡ true)
    × (verify_matched (matches_of verify_app words) ≡ task)

verify_form : (q : Question) (words : List (List ℕ)) → AreVerify q words
    → VerifyReads words (Some (verifies q))
verify_form q words form =
    let plain : ArePlain q.tables q.journal q.peer form.ordinal q.given q.sent = record {
      tables_plain = plain_name q.tables form.tables_name;
      journal_plain = plain_name q.journal form.journal_name;
      peer_plain = plain_name q.peer form.peer_name;
      ordinal_plain = plain_number (2 ^ 64 - 1) form.ordinal q.ordinal form.ordinal_is;
      given_plain = plain_name q.given form.given_name;
      sent_plain = plain_name q.sent form.sent_name;
    } in
    subst (λ (v : List (List ℕ)). VerifyReads v (Some (verifies q))) (sym form.words_are) (
      verify_taken q.tables q.journal q.peer form.ordinal q.given q.sent plain,
      ap (option_map verifies) (verify_asked q.tables q.journal q.peer form.ordinal q.given q.sent
          plain q.ordinal form.ordinal_is),
    )

-- ---- `replay`

abbrev ReplayReads : List (List ℕ) → Option Task → Type 0
ReplayReads words task =
    (takes replay_app words ≡ true) × (replay_matched (matches_of replay_app words) ≡ task)

replay_form : (tables scenario : List ℕ) (options : ReplayOptions) (words : List (List ℕ))
    → AreReplay tables scenario options words
    → ReplayReads words (Some (replays tables scenario options))
replay_form tables scenario options words form =
    let read = replay_read tables scenario (plain_name tables form.tables_name)
    (plain_name scenario form.scenario_name) form.more options form.options_are in
    subst (λ (v : List (List ℕ)). ReplayReads v (Some (replays tables scenario options)))
    (sym form.words_are) (read.takes_them, read.asks_for)

-- ---- `serve`

abbrev ServeReads : List (List ℕ) → Option Task → Type 0
ServeReads words task =
    (takes serve_app words ≡ true) × (serve_matched (matches_of serve_app words) ≡ task)

serve_form : (task : ServeTask) (words : List (List ℕ)) → AreServe task words
    → ServeReads words (Some (serves task))
serve_form task words form =
    let read = serve_read form.tables (plain_name form.tables form.tables_name) task form.more
    form.task_is in
    subst (λ (v : List (List ℕ)). ServeReads v (Some (serves task))) (sym form.words_are)
    (read.takes_them, ap (option_map serves) read.names)

-- ---- `client`

abbrev ClientReads : List (List ℕ) → Option Task → Type 0
ClientReads words task =
    (takes client_app words ≡ true) × (client_matched (matches_of client_app words) ≡ task)

client_form : (task : ClientTask) (words : List (List ℕ)) → AreClient task words
    → ClientReads words (Some (plays_client task))
client_form task words form =
    let read = client_read form.tables form.script form.more task
    (plain_name form.tables form.tables_name) (plain_name form.script form.script_name)
    form.task_is in
    subst (λ (v : List (List ℕ)). ClientReads v (Some (plays_client task))) (sym form.words_are)
    (read.takes_them, ap (option_map plays_client) read.names)

-- ---- `discover`

abbrev DiscoverReads : List (List ℕ) → Option Task → Type 0
DiscoverReads words task =
    (takes discover_app words ≡ true) × (discover_matched (matches_of discover_app words) ≡ task)

discover_form : (task : DiscoverTask) (words : List (List ℕ)) → AreDiscover task words
    → DiscoverReads words (Some (discovers task))
discover_form task words form =
    let read = discover_read form.tables form.key form.more task
    (plain_name form.tables form.tables_name) (plain_name form.key form.key_name)
    form.task_is in
    subst (λ (v : List (List ℕ)). DiscoverReads v (Some (discovers task))) (sym form.words_are)
    (read.takes_them, ap (option_map discovers) read.names)

-- ---- by the kind of the words

-- the task of words of a kind
record HasTask (words : List (List ℕ)) (k : CommandKind) : Type 0 where
  pub task : Task
  pub asked : task_in words ≡ Some task
  pub of_kind : kind_of_task task ≡ k

has_task : (words : List (List ℕ)) (k : CommandKind) → kind_in words ≡ Some k → HasTask words k
has_task words k e =
    let m = mapped (task_in words) kind_of_task k e in
    record { task = m.0; asked = m.1; of_kind = m.2 }

load_by : (words : List (List ℕ)) (task : Task) → kind_of_task task ≡ kind.Load
    → HasForm task words → LoadReads words (Some task)
load_by words (replays tables scenario options) e form = absurd cc
load_by words (lists_stream capture) e form = absurd cc
load_by words (decodes_pdu capture) e form = absurd cc
load_by words (verifies question) e form = absurd cc
load_by words (loads rounds) e form = load_form rounds words form
load_by words (serves task) e form = absurd cc
load_by words (plays_client task) e form = absurd cc
load_by words (discovers task) e form = absurd cc

decode_by : (words : List (List ℕ)) (task : Task) → kind_of_task task ≡ kind.Decode
    → HasForm task words → DecodeReads words (Some task)
decode_by words (replays tables scenario options) e form = absurd cc
decode_by words (lists_stream capture) e form = stream_form capture words form
decode_by words (decodes_pdu capture) e form = pdu_form capture words form
decode_by words (verifies question) e form = absurd cc
decode_by words (loads rounds) e form = absurd cc
decode_by words (serves task) e form = absurd cc
decode_by words (plays_client task) e form = absurd cc
decode_by words (discovers task) e form = absurd cc

verify_by : (words : List (List ℕ)) (task : Task) → kind_of_task task ≡ kind.Verify
    → HasForm task words → VerifyReads words (Some task)
verify_by words (replays tables scenario options) e form = absurd cc
verify_by words (lists_stream capture) e form = absurd cc
verify_by words (decodes_pdu capture) e form = absurd cc
verify_by words (verifies question) e form = verify_form question words form
verify_by words (loads rounds) e form = absurd cc
verify_by words (serves task) e form = absurd cc
verify_by words (plays_client task) e form = absurd cc
verify_by words (discovers task) e form = absurd cc

replay_by : (words : List (List ℕ)) (task : Task) → kind_of_task task ≡ kind.Replay
    → HasForm task words → ReplayReads words (Some task)
replay_by words (replays tables scenario options) e form =
    replay_form tables scenario options words form
replay_by words (lists_stream capture) e form = absurd cc
replay_by words (decodes_pdu capture) e form = absurd cc
replay_by words (verifies question) e form = absurd cc
replay_by words (loads rounds) e form = absurd cc
replay_by words (serves task) e form = absurd cc
replay_by words (plays_client task) e form = absurd cc
replay_by words (discovers task) e form = absurd cc

serve_by : (words : List (List ℕ)) (task : Task) → kind_of_task task ≡ kind.Serve
    → HasForm task words → ServeReads words (Some task)
serve_by words (replays tables scenario options) e form = absurd cc
serve_by words (lists_stream capture) e form = absurd cc
serve_by words (decodes_pdu capture) e form = absurd cc
serve_by words (verifies question) e form = absurd cc
serve_by words (loads rounds) e form = absurd cc
serve_by words (serves task) e form = serve_form task words form
serve_by words (plays_client task) e form = absurd cc
serve_by words (discovers task) e form = absurd cc

client_by : (words : List (List ℕ)) (task : Task) → kind_of_task task ≡ kind.Client
    → HasForm task words → ClientReads words (Some task)
client_by words (replays tables scenario options) e form = absurd cc
client_by words (lists_stream capture) e form = absurd cc
client_by words (decodes_pdu capture) e form = absurd cc
client_by words (verifies question) e form = absurd cc
client_by words (loads rounds) e form = absurd cc
client_by words (serves task) e form = absurd cc
client_by words (plays_client task) e form = client_form task words form
client_by words (discovers task) e form = absurd cc

discover_by : (words : List (List ℕ)) (task : Task) → kind_of_task task ≡ kind.Discover
    → HasForm task words → DiscoverReads words (Some task)
discover_by words (replays tables scenario options) e form = absurd cc
discover_by words (lists_stream capture) e form = absurd cc
discover_by words (decodes_pdu capture) e form = absurd cc
discover_by words (verifies question) e form = absurd cc
discover_by words (loads rounds) e form = absurd cc
discover_by words (serves task) e form = absurd cc
discover_by words (plays_client task) e form = absurd cc
discover_by words (discovers task) e form = discover_form task words form

pub load_reads : (words : List (List ℕ)) → kind_in words ≡ Some kind.Load
    → LoadReads words (task_in words)
load_reads words e =
    let h = has_task words kind.Load e in
    subst (LoadReads words) (sym h.asked)
    (load_by words h.task h.of_kind (has_form words h.task h.asked))

pub decode_reads : (words : List (List ℕ)) → kind_in words ≡ Some kind.Decode
    → DecodeReads words (task_in words)
decode_reads words e =
    let h = has_task words kind.Decode e in
    subst (DecodeReads words) (sym h.asked)
    (decode_by words h.task h.of_kind (has_form words h.task h.asked))

pub verify_reads : (words : List (List ℕ)) → kind_in words ≡ Some kind.Verify
    → VerifyReads words (task_in words)
verify_reads words e =
    let h = has_task words kind.Verify e in
    subst (VerifyReads words) (sym h.asked)
    (verify_by words h.task h.of_kind (has_form words h.task h.asked))

pub replay_reads : (words : List (List ℕ)) → kind_in words ≡ Some kind.Replay
    → ReplayReads words (task_in words)
replay_reads words e =
    let h = has_task words kind.Replay e in
    subst (ReplayReads words) (sym h.asked)
    (replay_by words h.task h.of_kind (has_form words h.task h.asked))

pub serve_reads : (words : List (List ℕ)) → kind_in words ≡ Some kind.Serve
    → ServeReads words (task_in words)
serve_reads words e =
    let h = has_task words kind.Serve e in
    subst (ServeReads words) (sym h.asked)
    (serve_by words h.task h.of_kind (has_form words h.task h.asked))

pub client_reads : (words : List (List ℕ)) → kind_in words ≡ Some kind.Client
    → ClientReads words (task_in words)
client_reads words e =
    let h = has_task words kind.Client e in
    subst (ClientReads words) (sym h.asked)
    (client_by words h.task h.of_kind (has_form words h.task h.asked))

pub discover_reads : (words : List (List ℕ)) → kind_in words ≡ Some kind.Discover
    → DiscoverReads words (task_in words)
discover_reads words e =
    let h = has_task words kind.Discover e in
    subst (DiscoverReads words) (sym h.asked)
    (discover_by words h.task h.of_kind (has_form words h.task h.asked))

-- words of a kind ask for a task
pub kind_asks : (words : List (List ℕ)) (k : CommandKind) → kind_in words ≡ Some k
    → is_some (task_in words) ≡ true
kind_asks words k e = ap (λ (o : Option Task). is_some o) (has_task words k e).asked

nothing_made : {A B : Type 0} (o : Option A) (f : A → B) → None ≡ option_map f o → None ≡ o
nothing_made None f e = refl
nothing_made (Some x) f e = absurd (not_none (f x) e)

-- words of no kind ask for nothing
pub no_task : (words : List (List ℕ)) → None ≡ kind_in words → None ≡ task_in words
no_task words e = nothing_made (task_in words) kind_of_task e

-- an error comes with words that ask for a task
pub error_asks : {X E : Type 0} (r : Result X E) (words : List (List ℕ)) (k : CommandKind)
    → kind_in words ≡ Some k → IfErr r (λ e. is_some (task_in words) ≡ true)
error_asks (Ok x) words k e = tt
error_asks (Err error) words k e = kind_asks words k e
