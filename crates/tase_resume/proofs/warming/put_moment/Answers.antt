use Rattle.std.proofs.Common.{reverse}
use Rattle.tase_views.specs.declared.event.EventKind.TheVariants.{Tick}
use Rattle.tase_views.specs.History.{last_tick}
use Rattle.tase_resume.specs.Bases.{settled_past}
use Rattle.tase_resume.specs.Warming.{moment_event}
use Rattle.tase_resume.proofs.WarmNow.{no_moment, one_moment}
use Rattle.tase_resume.proofs.PutPlaces.{none_put, one_put}
use Rattle.tase_resume.proofs.warming.put_moment.Goals as goal

pub returns-then-now-eq0 : goal.returns-then-now-eq0
returns-then-now-eq0 c =
    let rows = c.args.node.now.setup.centre in
    let past = reverse c.args.node.now.history in
    none_put (moment_event (last_tick (settled_past past))) c.args.out.now
    (no_moment rows past c.last_tick-now.result c.last_tick-now.ensures c.if-now-eq0.true)

pub returns : goal.returns
returns c =
    let rows = c.args.node.now.setup.centre in
    let past = reverse c.args.node.now.history in
    let now = c.last_tick-now.result in
    one_put c.put.result (moment_event (last_tick (settled_past past))) (Tick now)
    c.args.out.now c.put.new.out
    (one_moment rows past now c.last_tick-now.ensures c.if-now-eq0.false) c.put.ensures
