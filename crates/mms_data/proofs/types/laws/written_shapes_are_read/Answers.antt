use Rattle.mms_data.proofs.OfTypes.ShapesWritten.{one_shape_begins}
use Rattle.mms_data.proofs.types.laws.written_shapes_are_read.Goals as goal

pub returns : goal.returns
returns c = one_shape_begins
