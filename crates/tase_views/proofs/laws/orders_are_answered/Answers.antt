use Rattle.tase_views.proofs.OrdersAnswered.{answered, held_alone}
use Rattle.tase_views.proofs.laws.orders_are_answered.Goals as goal

pub returns-clause-answered : goal.returns-clause-answered
returns-clause-answered c = answered

pub returns-clause-held : goal.returns-clause-held
returns-clause-held c = held_alone
