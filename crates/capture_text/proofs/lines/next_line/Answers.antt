use Rattle.std.proofs.Common.{arith}
use Rattle.std.proofs.lemmas.Grind.{common_steps}
use Rattle.plain_text.proofs.Parts.{lines-found, lines-last}
use Rattle.capture_text.proofs.lines.next_line.Goals as goal

pub returns-in-Some-clause-some : goal.returns-in-Some-clause-some
returns-in-Some-clause-some c =
    let e = lines-found c.args.text.now c.in-Some.end c.in-Some.ensures in
    grind (arith, common_steps)

pub returns-in-None-clause-some : goal.returns-in-None-clause-some
returns-in-None-clause-some c = let e = lines-last c.args.text.now in grind (arith, common_steps)
