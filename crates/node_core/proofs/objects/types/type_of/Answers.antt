use Rattle.std.proofs.Common.{sym, subst}
use Rattle.mms_data.specs.Types.TypeShape.{IsTypeShape}
use Rattle.node_core.specs.Objects.Found.{offered, object_found}
use Rattle.node_core.proofs.objects.types.type_of.Goals as goal

pub new-requires : goal.new-requires
new-requires c =
    subst IsTypeShape (sym c.in_ok-tree-in-Some.ensures)
    (c.types_may_be_told.ensures (offered c.args.table.now) c.args.name.now
    (object_found c.args.table.now c.in-Some.found) (sym c.in-Some.ensures.named))
