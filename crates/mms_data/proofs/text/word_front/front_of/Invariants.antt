-- The octets so far go on, and as many more as from here.
use Rattle.std.proofs.Common.{◌≡◌, ◌+◌, drop}
use Rattle.mms_data.specs.Text.WordFront as own
use Rattle.mms_data.proofs.text.word_front.front_of.Given as goal

abbrev pub invariant-loop-octet : goal.invariant-loop-octet
invariant-loop-octet l = record {
  counted : l.count ≡ l.octet-index;
  front : own.front_of l.word l.fn.start ≡ l.count + own.front_of (drop l.octet-index l.word) l.next;
}
