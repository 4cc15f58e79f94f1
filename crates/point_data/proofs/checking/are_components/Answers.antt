use Rattle.std.proofs.Common.{◌∙◌, sym, ap, refl, arith}
use Rattle.std.specs.Option.{option_copied}
use Rattle.point_data.specs.Shown.{shown_component}
use Rattle.point_data.proofs.Members.{components_more}
use Rattle.point_data.proofs.checking.are_components.Goals as goal

pub loop-place-preserved : goal.loop-place-preserved
loop-place-preserved c =
    components_more (shown_component c.args.value.now c.args.cov)
    c.args.components.now c.args.members.now c.loop-place.place _ c.in-Some.member.now
    (omega arith)
    (sym c.get.ensures ∙ ap option_copied c.in-Some.is)
    (c.if-is_component.ensures.0 refl)
    c.loop-place.invariant
