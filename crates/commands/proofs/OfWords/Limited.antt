-- What a command asks for is within its limits, by the words that ask for it.
use Rattle.std.proofs.Common.{◌≡◌, List, ℕ, Option, Some, None, IfSome, option_map, sym}
use Rattle.std.proofs.Common.{Result, Ok, Err, IfOk}
use Rattle.commands.specs.declared.load.scenario.TheConstants.{MOST_ROUNDS}
use Rattle.commands.specs.declared.words.words.Command.{Command}
use Rattle.commands.specs.declared.words.words.Command.TheVariants.{Replay, Decode, DecodePdu}
use Rattle.commands.specs.declared.words.words.Command.TheVariants.{Verify}
use Rattle.commands.specs.declared.words.words.Command.TheVariants.{Load, Serve, Client, Discover}
use Rattle.commands.specs.Words.Words.{IsLimited, loads, options_seen, replays, task_in, task_of}
use Rattle.commands.specs.Words.Words.{serve_seen, serves}
use Rattle.commands.proofs.OfWords.Forms.{has_form}
use Rattle.commands.proofs.OfWords.OptionWords.{counted, options_lawful}
use Rattle.commands.proofs.OfWords.ServeOptions.{served_lawful}

command_limited : (command : Command) (words : List (List ℕ))
    → task_in words ≡ Some (task_of command) → IsLimited command
command_limited (Replay tables scenario options) words e =
    let form = has_form words (replays tables.now scenario.now (options_seen options)) e in
    options_lawful form.more (options_seen options) form.options_are
command_limited (Decode capture) words e = tt
command_limited (DecodePdu capture) words e = tt
command_limited (Verify question) words e = tt
command_limited (Load rounds) words e =
    let form = has_form words (loads rounds) e in
    (counted MOST_ROUNDS form.word rounds form.rounds_are).below
command_limited (Serve served) words e =
    let form = has_form words (serves (serve_seen served)) e in
    served_lawful form.tables form.more (serve_seen served) form.task_is
command_limited (Client played) words e = tt
command_limited (Discover asked) words e = tt

pub asked_limited : (command : Option Command) (words : List (List ℕ))
    → option_map task_of command ≡ task_in words → IfSome command IsLimited
asked_limited None words e = tt
asked_limited (Some command) words e = command_limited command words (sym e)

pub result_limited : {E : Type 0} (r : Result (Option Command) E) (words : List (List ℕ))
    → IfOk r (λ command. option_map task_of command ≡ task_in words)
    → IfOk r (λ command. IfSome command IsLimited)
result_limited (Ok command) words e = asked_limited command words e
result_limited (Err error) words e = tt
