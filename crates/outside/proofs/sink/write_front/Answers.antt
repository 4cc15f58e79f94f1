use Rattle.std.proofs.Common.{arith}
use Rattle.std.proofs.lemmas.List.{take_rest}
use Rattle.outside.proofs.Writing.{Appends-more}
use Rattle.outside.proofs.sink.write_front.Goals as goal

pub loop-sent-preserved : goal.loop-sent-preserved
loop-sent-preserved g c =
    let rest = take_rest c.args.bytes.now c.loop-sent.sent in
    record {
      in_range = omega (arith, c.in-Took.ensures.count);
      so_far = Appends-more _ _ _ c.args.bytes.now c.loop-sent.sent c.in-Took.count
          c.loop-sent.invariant.so_far
          (rw rest at c.in-Took.ensures.appends);
    }
