-- Rounds of a server, one after another.
use Rattle.std.proofs.Common.{◌≡◌, ℕ, zero, suc, ◌+◌, Bool, List, [], ◌∷◌, ◌++◌, map}
use Rattle.std.proofs.Common.{length, refl, sym, ap, ◌∙◌, subst, append_assoc, arith}
use Rattle.std.proofs.Common.{Option, Some, None, length-append}
use Rattle.std.proofs.lemmas.List.{map-append}
use Rattle.outside.specs.Faults.{counted}
use Rattle.outside.specs.Sink.{SinkTold}
use Rattle.outside.specs.Links.Links.{LinkTold}
use Rattle.share_turn.specs.Public.{IsOf}
use Rattle.node_server.specs.NodeCalls.{NodeCall, NodeSeat}
use Rattle.server_main.specs.Plant.PlantHistory.{HasPlantLines}
use Rattle.server_main.specs.declared.run.seats.LinkSeat.{LinkSeat}
use Rattle.server_main.specs.declared.run.serving.ServingEnd.{ServingEnd}
use Rattle.server_main.specs.declared.run.serving.ServingEnd.TheVariants as ends
use Rattle.server_main.specs.Run.Gathering.{SharedNode}
use Rattle.server_main.specs.Run.Accepting.{Accepting}
use Rattle.server_main.specs.Run.Rounds.{ServingState, GoesBehind, ServesRound, ServesRounds, ServesOn}
use Rattle.server_main.specs.Run.Rounds.{end_of_accept}
use Rattle.server_main.specs.Rounds.Rounds.{counted_up, SeatAfterRounds, RoundsDone, without_seat}
use Rattle.server_main.proofs.OfRounds.Counts.{up_then}
use Rattle.server_main.proofs.OfRounds.Listened.{ListenerSoFar, listener-then}
use Rattle.server_main.proofs.OfRounds.Listened.{listener-after}
use Rattle.server_main.proofs.OfRounds.Given.{GivenSoFar, given-then}
use Rattle.server_main.proofs.OfRounds.Seated.{seat-called, seats-then}
use Rattle.server_main.proofs.OfRounds.Accepted.{is_listener_end_so, is_plant_end_so, LastSo, PlantSo}
use Rattle.server_main.proofs.OfRounds.Accepted.{CountsSo, AcceptDone, StopsByAccept, accept-done}
use Rattle.server_main.proofs.OfRounds.Accepted.{accept-stops}
use Rattle.server_main.proofs.OfRounds.Ordered.{OrdersDone, orders-done}

-- rounds that ended so, or go on
pub record RoundsSoFar {L S C : Type 0} (node : SharedNode) (before after : ServingState L S C)
    (end : Option ServingEnd) : Type 0 where
  pub calls : List NodeCall
  pub turned : List LinkTold
  pub seat : SeatAfterRounds node before.now.seat after.now.seat calls (length turned)
  pub last : LastSo end calls
  pub listener : ListenerSoFar before.now.listener after.now.listener (length calls) turned
      (is_listener_end_so end)
  pub given : GivenSoFar before.now.listener after.now.listener before.now.spawner
      after.now.spawner (length turned)
  pub noted : after.now.links.seats ≡ before.now.links.seats ++ map without_seat turned
  pub counts : CountsSo end (length turned) before.now.spawner.faults after.now.spawner.faults
  pub plant : (start : SinkTold)
      → HasPlantLines node.setup.centre before.now.seat.number before.now.seat.front start
      before.plant
      → PlantSo end node after.now.seat start after.plant
  pub plant_faults : after.plant.faults ≡ counted (is_plant_end_so end) before.plant.faults

-- ---- one round

module _ {L S C : Type 0} (node : SharedNode) where
  -- it ended by accept
  ended-so-far : (before : ServingState L S C) (mid : Accepting L S C) (stop : ServingEnd)
      → AcceptDone node before.now mid (Some stop) → StopsByAccept (Some stop)
      → RoundsSoFar node before (record { now = mid; plant = before.plant }) (Some stop)
  ended-so-far before mid stop done stops = record {
    calls = [];
    turned = done.turned;
    seat = seat-called node before.now.seat mid.seat mid.seat [] (length done.turned) done.back
        refl tt refl;
    last = stops.last;
    listener = done.listener;
    given = done.given;
    noted = done.noted;
    counts = done.counts;
    plant = λ start has. stops.plant node mid.seat start before.plant
        (subst (λ (n : ℕ). HasPlantLines node.setup.centre n mid.seat.front start before.plant)
        (sym done.back.number)
        (subst (λ l. HasPlantLines node.setup.centre before.now.seat.number l start before.plant)
        (sym done.back.front) has));
    plant_faults = ap (λ (b : Bool). counted b before.plant.faults) (sym stops.no_fault);
  }

  -- orders were taken
  taken-so-far : (before : ServingState L S C) (mid : Accepting L S C) (seat : NodeSeat)
      (plant : SinkTold) (end : Option ServingEnd) → AcceptDone node before.now mid None
      → OrdersDone node mid.seat seat before.plant plant end
      → RoundsSoFar node before (record { now = record mid { seat = seat }; plant = plant }) end
  taken-so-far before mid seat plant end done orders = record {
    calls = orders.call ∷ [];
    turned = done.turned;
    seat = seat-called node before.now.seat mid.seat seat (orders.call ∷ []) (length done.turned)
        done.back orders.same (orders.asks, tt) orders.made;
    last = orders.last;
    listener = subst (λ (b : Bool). ListenerSoFar before.now.listener mid.listener 1 done.turned b)
        (sym orders.quiet) done.listener;
    given = done.given;
    noted = done.noted;
    counts = orders.counts (length done.turned) before.now.spawner.faults mid.spawner.faults
        done.counts;
    plant = λ start has. orders.plant start
        (subst (λ (n : ℕ). HasPlantLines node.setup.centre n mid.seat.front start before.plant)
        (sym done.back.number)
        (subst (λ l. HasPlantLines node.setup.centre before.now.seat.number l start before.plant)
        (sym done.back.front) has));
    plant_faults = orders.plant_faults;
  }

  behind-so-far : (before after : ServingState L S C) (mid : Accepting L S C)
      (stop end : Option ServingEnd) → AcceptDone node before.now mid stop → StopsByAccept stop
      → GoesBehind node (record { now = mid; plant = before.plant }) after stop end
      → RoundsSoFar node before after end
  behind-so-far before after mid (Some stop) end done stops behind =
      subst (λ (e : Option ServingEnd). RoundsSoFar node before after e) (sym behind.0)
      (subst (λ (s : ServingState L S C). RoundsSoFar node before s (Some stop)) (sym behind.1)
      (ended-so-far before mid stop done stops))
  behind-so-far before after mid None end done stops behind =
      subst (λ (n : Accepting L S C). RoundsSoFar node before
      (record { now = n; plant = after.plant }) end) (sym behind.1)
      (taken-so-far before mid after.now.seat after.plant end done
      (orders-done node mid.seat after.now.seat before.plant after.plant end behind.0))

  pub round-so-far : (told : L → LinkTold) (before after : ServingState L S C)
      (end : Option ServingEnd) → IsOf node before.now.seat
      → ServesRound told node before after end → RoundsSoFar node before after end
  round-so-far told before after end of round =
      behind-so-far before after round.mid (end_of_accept round.accepted) end
      (accept-done told node before.now round.mid round.accepted of round.accepts)
      (accept-stops round.accepted) round.behind

-- ---- two in a row

last-then : (end : Option ServingEnd) (xs ys : List NodeCall) → LastSo end ys
    → LastSo end (xs ++ ys)
last-then None xs ys last = tt
last-then (Some ends.Stopped) xs ys (before, place, is) =
    (xs ++ before, place, ap (λ (l : List NodeCall). xs ++ l) is ∙ sym (append_assoc xs before _))
last-then (Some ends.ListenerFault) xs ys last = tt
last-then (Some ends.PlantFault) xs ys last = tt
last-then (Some (ends.Full weight limit)) xs ys (before, is) =
    (xs ++ before, ap (λ (l : List NodeCall). xs ++ l) is ∙ sym (append_assoc xs before _))
last-then (Some ends.Memory) xs ys last = tt

counts-up : (m n a b c : ℕ) → b ≡ counted_up m a → c ≡ counted_up n b → c ≡ counted_up (m + n) a
counts-up m n a b c first then = then ∙ (ap (counted_up n) first ∙ up_then m n a)

counts-then : (end : Option ServingEnd) (m n a b c : ℕ) → b ≡ counted_up m a
    → CountsSo end n b c → CountsSo end (m + n) a c
counts-then None m n a b c first then = counts-up m n a b c first then
counts-then (Some ends.Stopped) m n a b c first then = counts-up m n a b c first then
counts-then (Some ends.ListenerFault) m n a b c first then = counts-up m n a b c first then
counts-then (Some ends.PlantFault) m n a b c first then = counts-up m n a b c first then
counts-then (Some (ends.Full weight limit)) m n a b c first then = counts-up m n a b c first then
counts-then (Some ends.Memory) m n a b c first (refused, up, few, most) =
    (m + refused, counts-up m refused a b c first up, omega (arith, few), omega (arith, most))

module _ {L S C : Type 0} (node : SharedNode) where
  pub rounds-then : (a b c : ServingState L S C) (end : Option ServingEnd)
      → RoundsSoFar node a b None → RoundsSoFar node b c end → RoundsSoFar node a c end
  rounds-then a b c end first then = record {
    calls = first.calls ++ then.calls;
    turned = first.turned ++ then.turned;
    seat = subst (λ (n : ℕ). SeatAfterRounds node a.now.seat c.now.seat
        (first.calls ++ then.calls) n) (sym (length-append first.turned then.turned))
        (seats-then node a.now.seat b.now.seat c.now.seat first.calls then.calls
        (length first.turned) (length then.turned) first.seat then.seat);
    last = last-then end first.calls then.calls then.last;
    listener = subst (λ (n : ℕ). ListenerSoFar a.now.listener c.now.listener n
        (first.turned ++ then.turned) (is_listener_end_so end))
        (sym (length-append first.calls then.calls))
        (listener-then a.now.listener b.now.listener c.now.listener (length first.calls)
        (length then.calls) first.turned then.turned (is_listener_end_so end) first.listener
        then.listener);
    given = subst (λ (n : ℕ). GivenSoFar a.now.listener c.now.listener a.now.spawner
        c.now.spawner n) (sym (length-append first.turned then.turned))
        (given-then a.now.listener b.now.listener c.now.listener a.now.spawner b.now.spawner
        c.now.spawner (length first.turned) (length then.turned) first.given then.given);
    noted = then.noted ∙ (ap (λ (l : List (Option LinkSeat)). l ++ map without_seat then.turned)
        first.noted ∙ (append_assoc a.now.links.seats (map without_seat first.turned)
        (map without_seat then.turned)
        ∙ ap (λ (l : List (Option LinkSeat)). a.now.links.seats ++ l)
        (sym (map-append without_seat first.turned then.turned))));
    counts = subst (λ (n : ℕ). CountsSo end n a.now.spawner.faults c.now.spawner.faults)
        (sym (length-append first.turned then.turned))
        (counts-then end (length first.turned) (length then.turned) a.now.spawner.faults
        b.now.spawner.faults c.now.spawner.faults first.counts then.counts);
    plant = λ start has. then.plant start (first.plant start has);
    plant_faults = then.plant_faults
        ∙ ap (counted (is_plant_end_so end)) first.plant_faults;
  }

  rounds-so-far : (told : L → LinkTold) (many : ℕ) (before after : ServingState L S C)
      (end : ServingEnd) → IsOf node before.now.seat → ServesRounds many told node before after end
      → RoundsSoFar node before after (Some end)
  rounds-so-far told zero before after end of rounds =
      round-so-far node told before after (Some end) of rounds
  rounds-so-far told (suc many) before after end of rounds =
      let first = round-so-far node told before rounds.0 None of rounds.1 in
      rounds-then before rounds.0 after (Some end) first
      (rounds-so-far told many rounds.0 after end first.seat.of rounds.2)

  pub rounds-done : (told : L → LinkTold) (before after : ServingState L S C) (end : ServingEnd)
      → IsOf node before.now.seat → ServesOn told node before after end
      → RoundsDone node before after end
  rounds-done told before after end of on =
      let all = rounds-so-far told on.0 before after end of on.1 in
      record {
        calls = all.calls;
        turned = all.turned;
        started = all.given.started;
        seat = all.seat;
        last = all.last;
        listener = listener-after before.now.listener after.now.listener (length all.calls)
            all.turned (is_listener_end_so (Some end)) all.listener;
        accepted = all.given.accepted;
        pending = all.given.pending;
        noted = all.noted;
        counts = all.counts;
        plant = all.plant;
        plant_faults = all.plant_faults;
      }
