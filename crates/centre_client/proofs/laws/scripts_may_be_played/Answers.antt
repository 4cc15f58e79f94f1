use Rattle.centre_client.proofs.PlaysHeard.{new_played, begun_played, reply_played, report_played}
use Rattle.centre_client.proofs.PlaysHeard.{concluded_played}
use Rattle.centre_client.proofs.laws.scripts_may_be_played.Goals as goal

pub returns-clause-new : goal.returns-clause-new
returns-clause-new c = new_played

pub returns-clause-begin : goal.returns-clause-begin
returns-clause-begin c = begun_played

pub returns-clause-reply : goal.returns-clause-reply
returns-clause-reply c = reply_played

pub returns-clause-report : goal.returns-clause-report
returns-clause-report c = report_played

pub returns-clause-concluded : goal.returns-clause-concluded
returns-clause-concluded c = concluded_played
