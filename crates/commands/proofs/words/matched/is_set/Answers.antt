use Rattle.std.proofs.Common.{◌∙◌}
use Rattle.clap.specs.Words.{found_of}
use Rattle.clap.proofs.WalkLemmas.{one_text-rows}
use Rattle.commands.proofs.words.matched.is_set.Goals as goal

pub returns-clause-set : goal.returns-clause-set
returns-clause-set c =
    λ e. c.get_flag.ensures.value
    (one_text-rows (found_of c.args.matches.now) c.args.name.now ∙ e)

pub returns-clause-unset : goal.returns-clause-unset
returns-clause-unset c =
    λ e. c.get_flag.ensures.other
    (one_text-rows (found_of c.args.matches.now) c.args.name.now ∙ e)
