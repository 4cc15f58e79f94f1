use Rattle.commands.proofs.OfWords.Unasked.{no_kind}
use Rattle.commands.proofs.words.grammar.kind_of_words.Goals as goal

pub returns-in_default : goal.returns-in_default
returns-in_default c = no_kind c.args.words.now c.in_default.len_below
