use Rattle.server_main.proofs.OfPlant.Alone.{told-once, lines-once}
use Rattle.server_main.proofs.plant.laws.orders_are_told_once.Goals as goal

pub returns-clause-orders : goal.returns-clause-orders
returns-clause-orders c = told-once

pub returns-clause-lines : goal.returns-clause-lines
returns-clause-lines c = lines-once
