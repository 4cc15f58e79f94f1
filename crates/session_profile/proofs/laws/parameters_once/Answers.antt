use Rattle.session_profile.proofs.Counts.{once_each, any_order}
use Rattle.session_profile.proofs.laws.parameters_once.Goals as goal

pub returns-clause-only : goal.returns-clause-only
returns-clause-only c = once_each

pub returns-clause-any : goal.returns-clause-any
returns-clause-any c = any_order
