use Rattle.ber_values.proofs.Runs.{pass-is_run, pass-breaks, pass-reads_run, run-longest, run-one}
use Rattle.ber_values.proofs.laws.passing_takes_the_longest_run.Goals as goal

pub returns-clause-run : goal.returns-clause-run
returns-clause-run c = pass-is_run

pub returns-clause-breaks : goal.returns-clause-breaks
returns-clause-breaks c = pass-breaks

pub returns-clause-longest : goal.returns-clause-longest
returns-clause-longest c = run-longest

pub returns-clause-one : goal.returns-clause-one
returns-clause-one c = run-one

pub returns-clause-read : goal.returns-clause-read
returns-clause-read c = pass-reads_run
