use Rattle.std.proofs.Common.{rules, ◌∙◌, ap}
use Rattle.std.proofs.lemmas.Fn.{filter_same}
use Rattle.std.specs.Prelude.{◌==◌, not}
use Rattle.node_core.specs.Slots.Associations.{OpenAssociation, open_without}
use Rattle.node_core.proofs.slots.associations.Associations.close.Goals as goal

pub returns : goal.returns
returns c =
    filter_same _ (λ (a : OpenAssociation). not (a.ordinal == c.args.ordinal)) _
    (λ x b f k. search rules) _ _ c.retain.ensures.filtered
    ∙ ap (open_without c.args.ordinal) c.self.view_is
