-- Which command words are.
use Rattle.std.specs.Prelude.{List, [], ◌∷◌, ℕ, ◌^◌, ◌-◌, Option, option_map, is_some, Bool, true}
use Rattle.std.specs.Prelude.{false, ◌&&◌, ◌||◌, bytes_eq, codes}
use Rattle.commands.specs.declared.words.words.CommandKind.{CommandKind}
use Rattle.commands.specs.declared.words.words.CommandKind.TheVariants as kind
use Rattle.commands.specs.declared.words.words.ServerOptions.{ServerOptions}
use Rattle.plain_text.specs.Numbers.{number_up_to}
use Rattle.commands.specs.Words.Words.{Task, task_in, replays, lists_stream, decodes_pdu, verifies}
use Rattle.commands.specs.Words.Words.{are_file_names, is_journal_name, limit_in, loads, serves}
use Rattle.commands.specs.Words.Words.{ServeOptions, discovers, is_connect, plays_client}

-- the command that asks for it
abbrev pub kind_of_task : Task → CommandKind
kind_of_task (replays tables scenario options) = kind.Replay
kind_of_task (lists_stream capture) = kind.Decode
kind_of_task (decodes_pdu capture) = kind.Decode
kind_of_task (verifies question) = kind.Verify
kind_of_task (loads rounds) = kind.Load
kind_of_task (serves task) = kind.Serve
kind_of_task (plays_client task) = kind.Client
kind_of_task (discovers task) = kind.Discover

-- `--limit N`
abbrev pub is_limit : List ℕ → List ℕ → Bool
is_limit option word = bytes_eq option (codes "--limit") && is_some (limit_in word)

-- `--journal FILE`
abbrev pub is_journal : List ℕ → List ℕ → Bool
is_journal option word = bytes_eq option (codes "--journal") && is_journal_name word

-- both, in any order
abbrev pub are_both : List ℕ → List ℕ → List ℕ → List ℕ → Bool
are_both option word next other = (is_limit option word && is_journal next other)
    || (is_journal option word && is_limit next other)

-- options of a replay, each once at most
abbrev pub are_options : List (List ℕ) → Bool
are_options [] = true
are_options (option ∷ word ∷ []) = is_limit option word || is_journal option word
are_options (option ∷ word ∷ next ∷ other ∷ []) = are_both option word next other
are_options words = false

-- `KEY ORDINAL IN OUT`
abbrev pub is_question : List (List ℕ) → Bool
is_question (peer ∷ ordinal ∷ given ∷ sent ∷ []) =
    are_file_names peer given sent && is_some (number_up_to (2 ^ 64 - 1) ordinal)
is_question words = false

-- `--connect ADDRESS`, and nothing behind it
abbrev pub are_connect : List (List ℕ) → Bool
are_connect (option ∷ word ∷ []) = is_connect option word
are_connect words = false

-- what contracts see of the options of a server that were read
abbrev pub given_seen : ServerOptions → ServeOptions
given_seen given = record {
  limit = given.limit;
  journal = option_map (λ name. name.now) given.journal;
  address = option_map (λ name. name.now) given.address;
}

-- the command that words are, where they are one
abbrev pub kind_in : List (List ℕ) → Option CommandKind
kind_in words = option_map kind_of_task (task_in words)
