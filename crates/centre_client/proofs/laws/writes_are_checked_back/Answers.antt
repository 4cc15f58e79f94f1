use Rattle.centre_client.proofs.Exchanged.{says_checked}
use Rattle.centre_client.proofs.Guarded.{checked_before}
use Rattle.centre_client.proofs.laws.writes_are_checked_back.Goals as goal

pub returns-clause-message : goal.returns-clause-message
returns-clause-message c = checked_before

pub returns-clause-all : goal.returns-clause-all
returns-clause-all c = says_checked
