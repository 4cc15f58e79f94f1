use Rattle.std.proofs.Common.{map, string_bytes}
use Rattle.clap.specs.Words.{app_of}
use Rattle.commands.proofs.OfWords.Walked.{takes_simple}
use Rattle.commands.proofs.words.matched.matches_in.Goals as goal

pub want_of_memory-requires : goal.want_of_memory-requires
want_of_memory-requires c = c.in-Err.ensures.passes c.requires

pub returns-in-Ok : goal.returns-in-Ok
returns-in-Ok c =
    (c.in-Ok.ensures.matches
    (takes_simple (app_of c.args.command) (map string_bytes c.args.words.now) c.requires)).0
