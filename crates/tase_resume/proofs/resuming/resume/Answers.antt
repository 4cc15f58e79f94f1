use Rattle.std.proofs.lemmas.Result.{err_from_is_err_and}
use Rattle.tase_resume.proofs.TakenBehind.{cut_behind}
use Rattle.tase_resume.proofs.resuming.resume.Goals as goal

pub returns-in_err-take_entry-clause-err : goal.returns-in_err-take_entry-clause-err
returns-in_err-take_entry-clause-err c =
    let p = err_from_is_err_and c.from_residual.result c.from_residual.ensures.1 in
    rw (p.1, p.2) (cut_behind c.args.node.now c.loop-entry.node c.take_entry.new.node
    c.args.snapshot.now c.entries-entries.result.now c.loop-entry.entry-index c.entry-item.result
    _ c.requires.sound c.entries-entries.ensures c.loop-entry-test.true c.entry-item.is
    c.loop-entry.invariant c.in_err-take_entry.ensures.err c.in_err-take_entry.ensures.cause)
