use Rattle.std.proofs.Common.{arith}
use Rattle.mms_data.specs.Types.ShapeWritten.{shape_octets}
use Rattle.mms_data.proofs.DataLengths.{container-written, few_contents}
use Rattle.mms_services.proofs.access.type_of.put_told.Goals as goal

pub returns-clause-ok : goal.returns-clause-ok
returns-clause-ok c =
    let shape = shape_octets c.args.shape.now in
    container-written 162 c.shape_len.result c.args.out.now.items c.write_head.new.out.items
    c.write_shape.new.out.items shape c.shape_len.ensures
    (omega (arith, c.requires, few_contents 162 shape)) c.in_ok-write_head.ensures.ok
    c.in_ok-write_shape.ensures.ok
