use Rattle.std.proofs.Common.{subst, sym}
use Rattle.bilateral.specs.Rows.{CentreRows}
use Rattle.tase_views.specs.declared.event.EventKind.{EventKind}
use Rattle.share_turn.specs.Public.{Came}
use Rattle.node_server.specs.Turn.Logged.{IsRightTurn}
use Rattle.server_main.specs.Plant.Taking.{TellsPlant}
use Rattle.server_main.specs.Plant.PlantHistory.{HasPlantLines, HasThen}
use Rattle.server_main.proofs.OfPlant.Told.{call-of_orders, lines-kept}
use Rattle.server_main.proofs.plant.taking.OrderTaker.take_orders.Goals as goal

pub tell_outcome-requires : goal.tell_outcome-requires
tell_outcome-requires g c =
    let setup = c.args.self.now.shared.now.setup in
    let seat = c.args.seat.now in
    let outcome = c.call-outcome.result in
    let front = c.call-outcome.new.seat.front in
    let came = subst (λ (e : EventKind). Came IsRightTurn setup seat e outcome front)
    c.new-event.ensures c.call-outcome.ensures.one in
    call-of_orders setup seat outcome front came

pub returns-clause-takes : goal.returns-clause-takes
returns-clause-takes g c =
    let setup = c.args.self.now.shared.now.setup in
    let seat = c.args.seat.now in
    let outcome = c.call-outcome.result in
    let front = c.call-outcome.new.seat.front in
    let before = g.K.Sink.told c.args.plant.now in
    let after = g.K.Sink.told c.tell_outcome.new.plant in
    let end = c.tell_outcome.result in record {
      outcome = outcome;
      came = subst (λ (e : EventKind). Came IsRightTurn setup seat e outcome front)
          c.new-event.ensures c.call-outcome.ensures.one;
      told = subst (λ (rows : CentreRows). TellsPlant rows outcome before after end)
          c.requires.centre c.tell_outcome.ensures;
    }

pub returns-clause-keeps : goal.returns-clause-keeps
returns-clause-keeps g c = λ start has.
    let setup = c.args.self.now.shared.now.setup in
    let seat = c.args.seat.now in
    let outcome = c.call-outcome.result in
    let front = c.call-outcome.new.seat.front in
    let before = g.K.Sink.told c.args.plant.now in
    let after = g.K.Sink.told c.tell_outcome.new.plant in
    let end = c.tell_outcome.result in
    let came = subst (λ (e : EventKind). Came IsRightTurn setup seat e outcome front)
    c.new-event.ensures c.call-outcome.ensures.one in
    let told = subst (λ (rows : CentreRows). TellsPlant rows outcome before after end)
    c.requires.centre c.tell_outcome.ensures in
    let had = subst (λ (rows : CentreRows). HasPlantLines rows seat.number seat.front start before)
    c.requires.centre has in
    subst (λ (rows : CentreRows). HasThen end rows seat.number front start after)
    (sym c.requires.centre)
    (lines-kept setup seat outcome front start before after end came told had)
