use Rattle.std.proofs.Common.{ℕ, ◌<◌, subst}
use Rattle.tase_resume.proofs.LinesTaken.{entry_more}
use Rattle.tase_resume.proofs.reading.entries_of.Goals as goal

pub loop-place-preserved : goal.loop-place-preserved
loop-place-preserved c =
    entry_more c.args.node.now.history c.loop-place.place c.loop-place.entries c.put_entry.new.out
    (subst (λ (n : ℕ). c.loop-place.place < n) c.history_len-place-end.ensures
    c.loop-place-test.true)
    c.loop-place.invariant c.in_ok-put_entry.ensures
