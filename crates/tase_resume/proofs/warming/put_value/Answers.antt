use Rattle.std.proofs.Common.{Some, None, sym, ap, ◌∙◌, reverse}
use Rattle.std.specs.Option.{option_copied}
use Rattle.tase_views.specs.declared.event.EventKind.TheVariants.{Update}
use Rattle.tase_resume.specs.Bases.{settled_past}
use Rattle.tase_resume.specs.Warming.{value_told}
use Rattle.tase_resume.proofs.WarmNow.{value_now}
use Rattle.tase_resume.proofs.PutPlaces.{none_put, one_put}
use Rattle.tase_resume.proofs.warming.put_value.Goals as goal

pub returns-in-Some : goal.returns-in-Some
returns-in-Some c =
    let rows = c.args.node.now.setup.centre in
    let past = reverse c.args.node.now.history in
    let point = c.args.point in
    let value = c.in-Some.value.now in
    one_put c.put.result (value_told rows (settled_past past) point) (Update point value)
    c.args.out.now c.put.new.out
    (value_now rows past point (Some value)
    (ap option_copied (sym c.in-Some.is) ∙ c.last_update.ensures)) c.put.ensures

pub returns-in-None : goal.returns-in-None
returns-in-None c =
    let rows = c.args.node.now.setup.centre in
    let past = reverse c.args.node.now.history in
    none_put (value_told rows (settled_past past) c.args.point) c.args.out.now
    (value_now rows past c.args.point None
    (ap option_copied (sym c.in-None.is) ∙ c.last_update.ensures))
