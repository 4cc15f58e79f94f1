use Rattle.std.proofs.Common.{arith}
use Rattle.std.proofs.lemmas.Grind.{common_steps}
use Rattle.plain_text.proofs.Parts.{slice_split-found, slice_split-last}
use Rattle.plain_text.proofs.words.next_part.Goals as goal

pub returns-in-Some-clause-parts : goal.returns-in-Some-clause-parts
returns-in-Some-clause-parts c =
    let e = slice_split-found c.args.separator c.args.text.now c.in-Some.end c.in-Some.ensures in
    grind (arith, common_steps)

pub returns-in-None-clause-parts : goal.returns-in-None-clause-parts
returns-in-None-clause-parts c = slice_split-last c.args.separator c.args.text.now c.in-None.ensures
