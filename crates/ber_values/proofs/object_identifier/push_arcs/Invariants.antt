use Rattle.std.proofs.Common.{◌≡◌, ◌≤◌, ◌+◌, ◌*◌, ◌++◌, length, take}
use Rattle.std.specs.List.{flat_map}
use Rattle.ber_values.specs.Dotted.{base_128}
use Rattle.ber_values.proofs.object_identifier.push_arcs.Given as goal

abbrev pub invariant-loop-arc : goal.invariant-loop-arc
invariant-loop-arc l = record {
  written : l.out.items ≡ l.initial.out.items ++ flat_map base_128 (take l.arc-index l.arcs);
  sized : length l.out.items ≤ length l.initial.out.items + 5 * l.arc-index;
}
