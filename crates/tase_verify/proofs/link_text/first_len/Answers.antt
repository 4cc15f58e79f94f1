use Rattle.tase_verify.proofs.FirstLines.{takes_found, takes_last}
use Rattle.tase_verify.proofs.link_text.first_len.Goals as goal

pub returns-in-Some : goal.returns-in-Some
returns-in-Some c = takes_found c.args.text.now c.in-Some.end c.in-Some.ensures

pub returns-in-None : goal.returns-in-None
returns-in-None c = takes_last c.args.text.now c.in-None.ensures
