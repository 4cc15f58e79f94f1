-- Rounds of a server, one after another.
use Rattle.std.proofs.Common.{◌≡◌, ℕ, suc, zero, List, sym, subst, arith, Option, Some, None}
use Rattle.outside.specs.Sink.{SinkTold}
use Rattle.outside.specs.Links.Links.{LinkTold}
use Rattle.outside.specs.Links.Listeners.{ListenerTold, RetiredIsWithin}
use Rattle.bilateral.specs.Rows.{CentreRows}
use Rattle.share_turn.specs.Public.{at}
use Rattle.node_server.specs.NodeCalls.{NodeSeat}
use Rattle.node_server.specs.declared.jobs.parts.JobParts.{JobParts}
use Rattle.server_main.specs.declared.plant.taking.OrdersTaken.{OrdersTaken}
use Rattle.server_main.specs.Plant.Taking.{TakesOrders}
use Rattle.server_main.specs.Plant.PlantHistory.{HasPlantLines, HasThen}
use Rattle.server_main.specs.Run.Gathering.{SharedNode}
use Rattle.server_main.specs.Run.Retiring.{AreOut}
use Rattle.server_main.specs.Run.Accepting.{Accepting}
use Rattle.server_main.specs.Run.Serving.{IsServing}
use Rattle.server_main.specs.declared.run.serving.ServingEnd.{ServingEnd}
use Rattle.server_main.specs.Run.Rounds.{ServingState, GoesBehind, ServesRound}
use Rattle.server_main.specs.Run.Rounds.{ServesOn, TakesOrdersOnce, end_of_accept, end_of_orders}
use Rattle.server_main.proofs.OfRun.KeptServing.{kept-serving}

within : (many : ℕ) (links : Option (List LinkTold)) (count : Option ℕ) (listener : ListenerTold)
    → AreOut many (record listener { retired = links; accepted = count })
    → RetiredIsWithin (record listener { retired = links; accepted = count })
within many None count listener out = tt
within many (Some l) None listener out = tt
within many (Some l) (Some n) listener out = omega (arith, out)

-- no more links were retired than accept gave
pub out-within : (many : ℕ) (listener : ListenerTold) → AreOut many listener
    → RetiredIsWithin listener
out-within many listener out = within many listener.retired listener.accepted listener out

-- the node and the centre as they are lent
pub told-orders : (node got : SharedNode) (rows : CentreRows) (seat later : NodeSeat)
    (before after : SinkTold) (taken : OrdersTaken) (end : Option ServingEnd) → got ≡ node
    → rows ≡ node.setup.centre → TakesOrders got.setup seat later.front before after taken
    → later ≡ at seat later.front
    → ((start : SinkTold) → HasPlantLines rows seat.number seat.front start before
    → HasThen taken rows seat.number later.front start after)
    → end ≡ end_of_orders taken → TakesOrdersOnce node seat later before after end
told-orders node got rows seat later before after taken end same centre takes stays keeps ends =
    record {
      taken = taken;
      takes = subst (λ (n : SharedNode). TakesOrders n.setup seat later.front before after taken)
          same takes;
      same = stays;
      keeps = subst (λ (r : CentreRows). (start : SinkTold)
          → HasPlantLines r seat.number seat.front start before
          → HasThen taken r seat.number later.front start after) centre keeps;
      end_is = ends;
    }

module _ {L S C : Type 0} (told : L → LinkTold) (node : SharedNode) where
  seat-moved : (first : List (JobParts L S C)) (now : Accepting L S C) (seat later : NodeSeat)
      → later ≡ at now.seat later.front → IsServing told node first now
      → IsServing told node first (record now { seat = later })
  seat-moved first now seat later same serving =
      subst (λ (s : NodeSeat). IsServing told node first (record now { seat = s })) (sym same)
      (record {
        of = serving.of;
        serving = serving.serving;
        pending = serving.pending;
        jobs = serving.jobs;
        rooms = serving.rooms;
        out = serving.out;
      })

  behind-keeps : (first : List (JobParts L S C)) (before after : ServingState L S C)
      (stop end : Option ServingEnd) → GoesBehind node before after stop end
      → IsServing told node first before.now → IsServing told node first after.now
  behind-keeps first before after (Some stop) end behind serving =
      subst (λ (s : ServingState L S C). IsServing told node first s.now) (sym behind.1) serving
  behind-keeps first before after None end behind serving =
      subst (λ (n : Accepting L S C). IsServing told node first n) (sym behind.1)
      (seat-moved first before.now before.now.seat after.now.seat behind.0.same serving)

  pub round-keeps : (first : List (JobParts L S C)) (before after : ServingState L S C)
      (end : Option ServingEnd) → ServesRound told node before after end
      → IsServing told node first before.now → IsServing told node first after.now
  round-keeps first before after end round serving =
      behind-keeps first (record { now = round.mid; plant = before.plant }) after
      (end_of_accept round.accepted) end round.behind
      (kept-serving told node first before.now round.mid round.accepted serving round.accepts)

  pub one-round : (before mid after : ServingState L S C) (end : ServingEnd)
      → ServesRound told node before mid None → ServesOn told node mid after end
      → ServesOn told node before after end
  one-round before mid after end round rest = (suc rest.0, (mid, round, rest.1))

  pub last-round : (before after : ServingState L S C) (end : ServingEnd)
      → ServesRound told node before after (Some end) → ServesOn told node before after end
  last-round before after end round = (zero, round)
