use Rattle.std.proofs.Common.{arith}
use Rattle.commands.proofs.OfWords.Unasked.{no_more_options}
use Rattle.commands.proofs.words.grammar.are_options.Goals as goal

pub returns-in_default : goal.returns-in_default
returns-in_default c = no_more_options c.args.words.now (λ n. grind (arith, n))
    (λ n. grind (arith, n)) (λ n. grind (arith, n))

pub returns-in_default-2 : goal.returns-in_default-2
returns-in_default-2 c = no_more_options c.args.words.now (λ n. grind (arith, n))
    (λ n. grind (arith, n)) (λ n. grind (arith, n))

pub returns-in_default-3 : goal.returns-in_default-3
returns-in_default-3 c = no_more_options c.args.words.now (λ n. grind (arith, n))
    (λ n. grind (arith, n)) (λ n. grind (arith, n))
