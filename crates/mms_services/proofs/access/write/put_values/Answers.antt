use Rattle.mms_data.specs.DataWritten.{datum_octets}
use Rattle.mms_services.specs.Access.Writes.{values_octets}
use Rattle.ber_values.proofs.Pieces.{item-few}
use Rattle.mms_services.proofs.access.write.put_values.Goals as goal

pub write_data-requires-clause-bounded : goal.write_data-requires-clause-bounded
unfolding values_octets
write_data-requires-clause-bounded c =
    item-few datum_octets c.args.values.now c.loop-value.value-index c.value-item.result
    c.value-item.result c.loop-value-test.true c.value-item.is c.requires.bounded
