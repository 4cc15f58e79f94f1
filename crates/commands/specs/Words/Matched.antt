-- The commands as `clap` reads their words, and what its matches ask for.
use Rattle.std.specs.Prelude.{List, ℕ, ◌^◌, ◌-◌, Option, Some, None, option_map, option_and_then}
use Rattle.std.specs.Prelude.{codes, true}
use Rattle.clap.specs.declared.builder.action.ArgAction.TheVariants.{SetTrue}
use Rattle.clap.specs.Words.{App, Row, Rule, Text, first_of, new_app, new_rule, with_rule}
use Rattle.plain_text.specs.Numbers.{number_up_to}
use Rattle.commands.specs.Words.Words.{Question, ReplayOptions, Task, limit_in, loads, replays}
use Rattle.commands.specs.Words.Words.{ClientTask, ServeTask, plays_client, rounds_in, serves}
use Rattle.commands.specs.Words.Words.{DiscoverTask, discovers, verifies}

-- a word at its place, which must be there
abbrev pub positional_rule : Text → Rule
positional_rule name = record (new_rule name) { required = true }

-- `--NAME`, with a word behind it
abbrev pub option_rule : Text → Rule
option_rule name = record (new_rule name) { long = Some name }

-- `--NAME` alone
abbrev pub flag_rule : Text → Rule
flag_rule name = record (option_rule name) { action = Some SetTrue }

-- a command with one more word at its place
abbrev pub with_positional : List ℕ → App → App
with_positional name app = with_rule app (positional_rule name)

-- a command with one more option
abbrev pub with_option : List ℕ → App → App
with_option name app = with_rule app (option_rule name)

-- `replay TABLES SCENARIO`, with `--limit N` and `--journal FILE` behind it
abbrev pub replay_app : App
replay_app = with_option (codes "journal")
    (with_option (codes "limit")
    (with_positional (codes "SCENARIO")
    (with_positional (codes "TABLES") (new_app (codes "replay")))))

-- `decode IN`, with `--pdu` before it
abbrev pub decode_app : App
decode_app = with_positional (codes "IN")
    (with_rule (new_app (codes "decode")) (flag_rule (codes "pdu")))

-- `verify TABLES JOURNAL KEY ORDINAL IN OUT`
abbrev pub verify_app : App
verify_app = with_positional (codes "OUT")
    (with_positional (codes "IN")
    (with_positional (codes "ORDINAL")
    (with_positional (codes "KEY")
    (with_positional (codes "JOURNAL")
    (with_positional (codes "TABLES") (new_app (codes "verify")))))))

-- `load N`
abbrev pub load_app : App
load_app = with_positional (codes "N") (new_app (codes "load"))

-- `serve TABLES`, with `--limit N`, `--journal FILE` and `--listen ADDRESS` behind it
abbrev pub serve_app : App
serve_app = with_option (codes "listen")
    (with_option (codes "journal")
    (with_option (codes "limit")
    (with_positional (codes "TABLES") (new_app (codes "serve")))))

-- `client TABLES SCRIPT`, with `--connect ADDRESS` behind it
abbrev pub client_app : App
client_app = with_option (codes "connect")
    (with_positional (codes "SCRIPT")
    (with_positional (codes "TABLES") (new_app (codes "client"))))

-- `discover TABLES KEY`, with `--connect ADDRESS` behind it
abbrev pub discover_app : App
discover_app = with_option (codes "connect")
    (with_positional (codes "KEY")
    (with_positional (codes "TABLES") (new_app (codes "discover"))))

-- the limit that a word gives, where there is one
abbrev pub limit_matched : Option Text → Option (Option ℕ)
limit_matched None = Some None
limit_matched (Some word) = option_map (λ limit. Some limit) (limit_in word)

-- the options of a replay
abbrev pub options_matched : List Row → Option ReplayOptions
options_matched rows = option_map (λ limit. record {
  limit = limit;
  journal = first_of (codes "journal") rows;
}) (limit_matched (first_of (codes "limit") rows))

-- what the matches of each command ask for
abbrev pub replay_matched : List Row → Option Task
replay_matched rows = option_and_then (λ tables. option_and_then (λ scenario.
    option_map (replays tables scenario) (options_matched rows))
    (first_of (codes "SCENARIO") rows)) (first_of (codes "TABLES") rows)

-- the association and the files that `verify` names
abbrev pub question_matched : List Row → Option Question
question_matched rows =
    option_and_then (λ tables. option_and_then (λ journal. option_and_then (λ peer.
    option_and_then (λ word. option_and_then (λ ordinal. option_and_then (λ given.
    option_map (λ sent. record {
      tables = tables;
      journal = journal;
      peer = peer;
      ordinal = ordinal;
      given = given;
      sent = sent;
    }) (first_of (codes "OUT") rows)) (first_of (codes "IN") rows))
    (number_up_to (2 ^ 64 - 1) word)) (first_of (codes "ORDINAL") rows))
    (first_of (codes "KEY") rows)) (first_of (codes "JOURNAL") rows))
    (first_of (codes "TABLES") rows)

abbrev pub verify_matched : List Row → Option Task
verify_matched rows = option_map verifies (question_matched rows)

abbrev pub load_matched : List Row → Option Task
load_matched rows = option_map loads (option_and_then rounds_in (first_of (codes "N") rows))

-- what a server is to serve
abbrev pub served_matched : List Row → Option ServeTask
served_matched rows = option_and_then (λ tables. option_and_then (λ journal.
    option_and_then (λ address. option_map (λ limit. record {
      tables = tables;
      journal = journal;
      address = address;
      limit = limit;
    }) (limit_matched (first_of (codes "limit") rows))) (first_of (codes "listen") rows))
    (first_of (codes "journal") rows)) (first_of (codes "TABLES") rows)

abbrev pub serve_matched : List Row → Option Task
serve_matched rows = option_map serves (served_matched rows)

-- what a client is to play
abbrev pub played_matched : List Row → Option ClientTask
played_matched rows = option_and_then (λ tables. option_and_then (λ script.
    option_map (λ address. record { tables = tables; script = script; address = address })
    (first_of (codes "connect") rows)) (first_of (codes "SCRIPT") rows))
    (first_of (codes "TABLES") rows)

abbrev pub client_matched : List Row → Option Task
client_matched rows = option_map plays_client (played_matched rows)

-- what a node is to be asked for
abbrev pub asked_matched : List Row → Option DiscoverTask
asked_matched rows = option_and_then (λ tables. option_and_then (λ key.
    option_map (λ address. record { tables = tables; key = key; address = address })
    (first_of (codes "connect") rows)) (first_of (codes "KEY") rows))
    (first_of (codes "TABLES") rows)

abbrev pub discover_matched : List Row → Option Task
discover_matched rows = option_map discovers (asked_matched rows)
