use Rattle.std.proofs.Common.{sym, ◌∙◌}
use Rattle.server_main.proofs.EndFirst.{ends-outside, ends-inside}
use Rattle.server_main.proofs.ending.serve_end.Goals as goal

pub returns-then-has_failed : goal.returns-then-has_failed
returns-then-has_failed c = ends-outside c.args.work c.args.plant_failed c.args.seats.now
    (sym c.has_failed.ensures ∙ c.if-has_failed.true)

pub returns : goal.returns
returns c = ends-inside c.args.work c.args.plant_failed c.args.seats.now
    (sym c.has_failed.ensures ∙ c.if-has_failed.false) c.end_inside.result c.end_inside.ensures
