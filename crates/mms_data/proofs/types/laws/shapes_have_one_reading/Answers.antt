use Rattle.ber_values.specs.Reading.{Taken}
use Rattle.ber_values.proofs.Reading.{HasOneReading-from}
use Rattle.mms_data.specs.Types.TypeShape.{TypeShape}
use Rattle.mms_data.specs.Types.ShapeOctets.{one_shape}
use Rattle.mms_data.proofs.OfTypes.ShapesRead.{one_shape_reads}
use Rattle.mms_data.proofs.OfTypes.ShapesLawful.{shape_lawful}
use Rattle.mms_data.proofs.types.laws.shapes_have_one_reading.Goals as goal

pub returns-clause-one : goal.returns-clause-one
returns-clause-one c at octets = HasOneReading-from (Taken TypeShape) (one_shape.begins at octets)
    (one_shape.fault at octets) (one_shape.reading at octets) (one_shape_reads at octets)

pub returns-clause-lawful : goal.returns-clause-lawful
returns-clause-lawful c = shape_lawful
