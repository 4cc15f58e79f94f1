use Rattle.std.proofs.Common.{length, ◌-◌, ◌≤◌, take, false}
use Rattle.outside.specs.Sink.{Appends}
use Rattle.outside.proofs.sink.write_front.Given as goal

abbrev pub invariant-loop-sent : goal.invariant-loop-sent
invariant-loop-sent g l = record {
  in_range : l.sent ≤ length l.bytes;
  so_far : Appends (g.S.Sink.told l.initial.sink) (g.S.Sink.told l.sink)
      (take l.sent l.bytes) false;
}

abbrev pub decreases-loop-sent : goal.decreases-loop-sent
decreases-loop-sent g l = length l.bytes - l.sent
