use Rattle.std.proofs.Common.{ℕ, subst, sym}
use Rattle.std.specs.Prelude.{IfOk}
use Rattle.tase_resume.specs.Snapshots.{snapshot_with}
use Rattle.tase_resume.specs.Reading.{state_of, TakesLine}
use Rattle.tase_resume.proofs.reading.take_entry.Goals as goal

pub returns-then-who-eq0 : goal.returns-then-who-eq0
returns-then-who-eq0 c =
    subst (λ (who : ℕ). IfOk c.take_event.result (TakesLine c.args.node.now c.take_event.new.node
    (snapshot_with c.args.node.now.setup.centre (state_of c.args.node.now c.args.before)
    (record { who = who; event = c.args.entry.event })))) (sym c.if-who-eq0.true)
    c.take_event.ensures
