use Rattle.std.proofs.Common.{◌≡◌, ◌<◌, length, take, drop, min, sym, ◌∙◌, arith}
use Rattle.std.proofs.lemmas.Grind.{common_steps}
use Rattle.std.proofs.lemmas.List.{take_rest}
use Rattle.outside.proofs.OfLinks.Saying.{copied_answer, copied_after}
use Rattle.outside.proofs.links.script.Script.give.Goals as goal

pub returns-then-self-len-clause-answer : goal.returns-then-self-len-clause-answer
returns-then-self-len-clause-answer c =
    let octets = c.loop-self.self-inside.begun.items in
    let at = c.loop-self.self-inside.at in
    let rest = take_rest octets at in
    let some : at < length octets = grind (arith, common_steps) in
    let copied : c.copy_from_slice.new.self ≡ take c.min-count.result (drop at octets) =
    rw (c.deref.ensures.value, rest) at c.copy_from_slice.ensures.after in
    let count : c.min-count.result ≡ min (length c.loop-self.buf) (length (drop at octets)) =
    rw (c.deref.ensures.value, rest) at c.min-count.ensures in
    rw (← c.loop-self.auto.buf) (copied_answer octets c.loop-self.buf c.copy_from_slice.new.self at
    (length c.loop-self.buf) c.min-count.result c.loop-self.self-inside.items.items some count
    copied
    ∙ sym c.loop-self.invariant.answer)

pub returns-then-self-len-clause-after : goal.returns-then-self-len-clause-after
returns-then-self-len-clause-after c =
    let octets = c.loop-self.self-inside.begun.items in
    let at = c.loop-self.self-inside.at in
    let rest = take_rest octets at in
    let some : at < length octets = grind (arith, common_steps) in
    let count : c.min-count.result ≡ min (length c.loop-self.buf) (length (drop at octets)) =
    rw (c.deref.ensures.value, rest) at c.min-count.ensures in
    rw (← c.loop-self.auto.buf) (copied_after octets at (length c.loop-self.buf) c.min-count.result
    c.loop-self.self-inside.items.items some count ∙ sym c.loop-self.invariant.after)
