use Rattle.std.proofs.Common.{◌++◌, take, arith}
use Rattle.std.proofs.lemmas.Result.{err_from_is_err_and}
use Rattle.outside.proofs.Reading.{reads_long, reads_no_memory}
use Rattle.outside.proofs.text.read_pieces.Goals as goal

pub returns-then-count-limit : goal.returns-then-count-limit
returns-then-count-limit g c = (
  c.loop-count.text.items ++ take c.in-Got.count c.read.new.buf,
  reads_long _ _ _ c.loop-count.text.items c.read.new.buf c.in-Got.count c.args.limit
      c.loop-count.invariant.so_far c.in-Got.ensures
      c.loop-count.invariant.within (omega arith) (omega arith),
)

pub returns-in_err-extend_from_slice-in-Got : goal.returns-in_err-extend_from_slice-in-Got
returns-in_err-extend_from_slice-in-Got g c =
    let p = err_from_is_err_and c.from_residual.result c.from_residual.ensures.1 in (
      c.loop-count.text.items ++ take c.in-Got.count c.read.new.buf,
      rw p.1 (
          reads_no_memory _ _ _ c.loop-count.text.items c.read.new.buf c.in-Got.count c.args.limit
          p.0 c.loop-count.invariant.so_far
          c.in-Got.ensures (omega arith)
          ),
    )
