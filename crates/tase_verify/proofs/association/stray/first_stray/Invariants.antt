-- What is stray from here on.
use Rattle.std.proofs.Common.{◌≡◌, ◌≤◌, drop}
use Rattle.tase_conn.specs.Map.Asks.{without_takes}
use Rattle.tase_verify.specs.Association.Spelled.{events_spelled}
use Rattle.tase_verify.specs.Association.Stray as strays
use Rattle.tase_verify.proofs.OfAssociation.StrayOn.{stray_at}
use Rattle.tase_verify.proofs.association.stray.first_stray.Given as goal

abbrev pub invariant-loop-event : goal.invariant-loop-event
invariant-loop-event l = record {
  count : l.number ≤ l.event-index;
  ahead : strays.first_stray (without_takes (events_spelled l.events)) (events_spelled l.asked)
      ≡ stray_at l.number (without_takes (events_spelled (drop l.event-index l.events)))
      (events_spelled (drop l.done l.asked));
}
