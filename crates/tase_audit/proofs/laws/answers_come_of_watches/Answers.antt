use Rattle.tase_audit.proofs.EntriesAnswered.{answers_told}
use Rattle.tase_audit.proofs.laws.answers_come_of_watches.Goals as goal

pub returns : goal.returns
returns c = answers_told
