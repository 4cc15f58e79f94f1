use Rattle.std.proofs.Common.{sym}
use Rattle.tase_views.specs.Orders.{orders_of}
use Rattle.tase_views.proofs.OrdersGiven.{taken_and_left, none_behind}
use Rattle.tase_views.proofs.laws.orders_are_given_once.Goals as goal

pub returns-clause-all : goal.returns-clause-all
returns-clause-all c = taken_and_left

pub returns-clause-taken : goal.returns-clause-taken
returns-clause-taken c = λ rows owns moves. sym (taken_and_left rows owns moves)

pub returns-clause-left : goal.returns-clause-left
returns-clause-left c = λ rows owns moves. none_behind (orders_of rows owns moves)
