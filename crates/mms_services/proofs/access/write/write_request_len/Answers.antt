use Rattle.ber_values.proofs.Pieces.{listed-capped}
use Rattle.mms_services.specs.Access.Specifications.{spec_octets}
use Rattle.mms_services.specs.Access.Writes.{values_octets, write_request_octets}
use Rattle.mms_services.proofs.access.write.write_request_len.Goals as goal

pub returns : goal.returns
unfolding write_request_octets
returns c =
    listed-capped 160 values_octets (spec_octets c.args.request.now.spec)
    c.as_slice.ensures c.spec_len.ensures c.values_len-values.ensures
    c.part_len.ensures c.add_len.ensures
