use Rattle.std.proofs.Common.{sym, ◌∙◌}
use Rattle.bilateral.proofs.OfWords.Titles.{dotted_lawful}
use Rattle.bilateral.proofs.words.words.read_title.Goals as goal

pub returns-clause-lawful : goal.returns-clause-lawful
returns-clause-lawful c =
    dotted_lawful c.args.word.now c.in-Some.oid (sym c.in_ok-oid.ensures ∙ c.in-Some.is)
