use Rattle.std.proofs.Common.{◌++◌, List, length, sym, ap, subst, ◌∙◌, arith}
use Rattle.std.specs.List.{All}
use Rattle.std.specs.Vec.Iter.{into_iter_items}
use Rattle.node_core.specs.declared.slots.writes.Asked.{Asked}
use Rattle.node_core.specs.Slots.SlotWrites.{IsAskedThere, all_answers, all_slots}
use Rattle.node_core.proofs.OfReplies.SlotWrites.{answers-step, there-rest}
use Rattle.node_core.proofs.slots.writes.write_all.Goals as goal

pub loop-one-preserved : goal.loop-one-preserved
loop-one-preserved c =
    let book = c.args.book.now in
    let ordinal = c.args.ordinal in
    let now = c.args.now in
    let one = c.in-Some.one in
    let rest = into_iter_items c.next.new.self in
    let slots = c.loop-one.slots in
    let results = c.loop-one.results.items in
    let front = c.in-Some.ensures.steps.0 in
    record {
      answers = λ table domain.
          answers-step table book ordinal now one rest slots c.write_one-answer.new.slots results
          c.push_reserved.new.self.items c.write_one-answer.result c.push_reserved.ensures.items
          (c.write_one-answer.ensures.answer table domain)
          (c.write_one-answer.ensures.slots table domain)
          ∙ ap (λ (asked : List Asked). results ++ all_answers table book ordinal now asked slots)
          (sym front)
          ∙ c.loop-one.invariant.answers table domain;
      slots = λ table domain.
          ap (all_slots table book ordinal now rest) (c.write_one-answer.ensures.slots table domain)
          ∙ ap (λ (asked : List Asked). all_slots table book ordinal now asked slots) (sym front)
          ∙ c.loop-one.invariant.slots table domain;
      many = c.write_one-answer.ensures.many;
      there = there-rest 0 one rest (subst (All (IsAskedThere 0)) front c.loop-one.invariant.there);
      room = omega (
        arith,
        c.push_reserved.ensures.len,
        c.push_reserved.ensures.capacity,
        c.loop-one.invariant.room,
        ap length front,
      );
    }
