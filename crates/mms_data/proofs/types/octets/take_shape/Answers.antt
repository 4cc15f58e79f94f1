use Rattle.ber_values.specs.Readers.{taken_from}
use Rattle.mms_data.specs.Types.ShapeOctets.{one_shape}
use Rattle.mms_data.proofs.OfTypes.ShapesRead.{one_shape_reads}
use Rattle.mms_data.proofs.OfTypes.ShapesLawful.{shape_lawful}
use Rattle.mms_data.proofs.types.octets.take_shape.Goals as goal

pub new-requires : goal.new-requires
unfolding one_shape
new-requires c =
    let at = c.args.at in
    let octets = c.args.octets.now in
    let t = taken_from at octets (c.in_ok-tree.tree, c.in_ok-tree.next) in
    shape_lawful at octets t ((one_shape_reads at octets).found t c.in_ok-tree.ensures.exact)
