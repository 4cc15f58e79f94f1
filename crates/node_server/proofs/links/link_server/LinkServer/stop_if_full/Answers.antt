use Rattle.std.proofs.Common.{[], refl, sym, ◌∙◌}
use Rattle.node_server.proofs.Ticked.{stop-asked}
use Rattle.node_server.proofs.OfLinks.Stopped.{no_stop, full_stop}
use Rattle.node_server.proofs.links.link_server.LinkServer.stop_if_full.Goals as goal

pub returns-then-not-is_full-clause-stops : goal.returns-then-not-is_full-clause-stops
returns-then-not-is_full-clause-stops g c =
    ([], no_stop c.args.end (sym c.is_full.ensures ∙ c.if-not-is_full.true), refl)

pub returns-clause-stops : goal.returns-clause-stops
returns-clause-stops g c =
    let asked = stop-asked c.args.self.now.shared.now.setup c.args.seat.now c.call.result
    c.call.new.seat.front c.new-stop.result c.new-stop.ensures c.call.ensures.one in (
      asked.0,
      full_stop c.args.end asked.0 (sym c.is_full.ensures ∙ c.if-not-is_full.false) asked.1,
      asked.2,
    )
