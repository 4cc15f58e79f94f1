-- The comparison of types decides whether they are one.
use Rattle.std.proofs.Common.{sym, ◌∙◌}
use Rattle.mms_data.specs.Types.SameShape.{same_shape-Decides}
use Rattle.mms_data.proofs.types.tree.ShapePartialEq.eq.Goals as goal

pub returns-clause-same : goal.returns-clause-same
returns-clause-same c =
    let decides = same_shape-Decides c.self.inside.tree c.other.inside.tree in
    let is = c.same_tree.ensures in (
      λ e. sym c.self.view_is ∙ decides.0 (sym is ∙ e) ∙ c.other.view_is,
      λ e. is ∙ decides.1 (c.self.view_is ∙ e ∙ sym c.other.view_is),
    )
