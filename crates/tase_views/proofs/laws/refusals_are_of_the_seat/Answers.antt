use Rattle.tase_views.specs.History.{association_in}
use Rattle.tase_views.specs.Outcomes.{seat_refusal, name_refusal, stop_refusal, clock_refusal}
use Rattle.tase_views.specs.Outcomes.{weight_refusal}
use Rattle.tase_views.proofs.OwnRefusals.{own_refusal-own, first_refusal-within}
use Rattle.tase_views.proofs.laws.refusals_are_of_the_seat.Goals as goal

pub returns-clause-own : goal.returns-clause-own
returns-clause-own c = own_refusal-own

pub returns-clause-all : goal.returns-clause-all
returns-clause-all c = λ setup past who event.
    first_refusal-within (stop_refusal past event) (seat_refusal (association_in past who) event)
    (name_refusal setup.centre event) (clock_refusal past event) (weight_refusal setup past event)
