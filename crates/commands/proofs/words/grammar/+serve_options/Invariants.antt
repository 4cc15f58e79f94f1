use Rattle.std.proofs.Common.{length}
use Rattle.commands.proofs.words.grammar.+serve_options.Given as goal

abbrev pub decreases-serve_options : goal.decreases-serve_options
decreases-serve_options l = length l.words.now
