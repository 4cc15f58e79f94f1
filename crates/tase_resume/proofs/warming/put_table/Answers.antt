use Rattle.std.proofs.Common.{reverse}
use Rattle.tase_views.specs.declared.event.EventKind.TheVariants.{Table}
use Rattle.tase_resume.specs.Bases.{settled_past}
use Rattle.tase_resume.specs.Warming.{table_told}
use Rattle.tase_resume.proofs.WarmNow.{no_table, one_table}
use Rattle.tase_resume.proofs.PutPlaces.{none_put, one_put}
use Rattle.tase_resume.proofs.warming.put_table.Goals as goal

pub returns-then-variant-eq0 : goal.returns-then-variant-eq0
returns-then-variant-eq0 c =
    let rows = c.args.node.now.setup.centre in
    let past = reverse c.args.node.now.history in
    none_put (table_told rows (settled_past past) c.args.peer) c.args.out.now
    (no_table rows past c.args.peer c.chosen-variant.result c.chosen-variant.ensures.chosen
    c.if-variant-eq0.true)

pub returns : goal.returns
returns c =
    let rows = c.args.node.now.setup.centre in
    let past = reverse c.args.node.now.history in
    let variant = c.chosen-variant.result in
    one_put c.put.result (table_told rows (settled_past past) c.args.peer)
    (Table c.args.peer variant) c.args.out.now c.put.new.out
    (one_table rows past c.args.peer variant c.chosen-variant.ensures.chosen
    c.if-variant-eq0.false) c.put.ensures
