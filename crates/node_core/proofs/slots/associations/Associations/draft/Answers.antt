use Rattle.std.proofs.Common.{map, ap, ◌∙◌}
use Rattle.node_core.specs.Slots.Associations.{undrafted}
use Rattle.node_core.proofs.OfSlots.OpenLists.{map_set_same}
use Rattle.node_core.proofs.slots.associations.Associations.draft.Goals as goal

pub returns-in_err-draft-clause-made : goal.returns-in_err-draft-clause-made
returns-in_err-draft-clause-made c =
    map_set_same undrafted c.self.inside.list.items c.args.place c.draft.new.self _
    (c.draft.ensures.made ∙ ap undrafted c.index_mut.ensures.value)
    ∙ ap (map undrafted) c.self.view_is

pub returns-clause-made : goal.returns-clause-made
returns-clause-made c =
    map_set_same undrafted c.self.inside.list.items c.args.place c.draft.new.self _
    (c.draft.ensures.made ∙ ap undrafted c.index_mut.ensures.value)
    ∙ ap (map undrafted) c.self.view_is
