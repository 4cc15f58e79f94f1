use Rattle.std.proofs.Common.{◌≡◌, ◌≤◌, length, drop}
use Rattle.outside.specs.Links.Scripts.{script_answer, script_after}
use Rattle.outside.proofs.links.script.Script.give.Given as goal

abbrev pub invariant-loop-self : goal.invariant-loop-self
invariant-loop-self l = record {
  within : l.self-inside.at ≤ length l.self-inside.begun.items;
  answer : script_answer (length l.buf) l.fn.self.begun l.fn.self.items
      ≡ script_answer (length l.buf)
      (drop l.self-inside.at l.self-inside.begun.items) l.self-inside.items.items;
  after : script_after (length l.buf) l.fn.self.begun l.fn.self.items
      ≡ script_after (length l.buf)
      (drop l.self-inside.at l.self-inside.begun.items) l.self-inside.items.items;
}

abbrev pub decreases-loop-self : goal.decreases-loop-self
decreases-loop-self l = length l.self-inside.items.items
