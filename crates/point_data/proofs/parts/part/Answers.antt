use Rattle.point_data.proofs.Members.{found, missed}
use Rattle.point_data.proofs.parts.part.Goals as goal

pub returns-clause-shown : goal.returns-clause-shown
returns-clause-shown c =
    found c.member.result c.args.layout.now c.args.value.now c.args.component
    c.in_ok-place_of.field-0 c.member.ensures c.in_ok-place_of.ensures.found

pub returns-clause-missed : goal.returns-clause-missed
returns-clause-missed c =
    missed c.member.result c.args.layout.now c.args.value.now c.args.component
    c.in_ok-place_of.field-0 c.member.ensures c.in_ok-place_of.ensures.found
