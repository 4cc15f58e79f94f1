use Rattle.std.proofs.Common.{length}
use Rattle.node_core.proofs.OfObjects.Known.{named_is_there}
use Rattle.node_core.proofs.objects.types.see_type.Goals as goal

pub point-requires : goal.point-requires
point-requires c =
    named_is_there (length c.args.table.now.rows.points) c.args.table.now.table
    c.args.see.now.point c.table-lawful.ensures.lawful.known c.requires
