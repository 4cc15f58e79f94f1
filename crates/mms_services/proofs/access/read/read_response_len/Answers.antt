use Rattle.ber_values.proofs.Pieces.{listed-capped}
use Rattle.mms_services.specs.Access.Reads.{echoed_octets, outcomes_octets, read_response_octets}
use Rattle.mms_services.proofs.access.read.read_response_len.Goals as goal

pub returns : goal.returns
unfolding read_response_octets
returns c =
    listed-capped 161 outcomes_octets (echoed_octets c.args.response.now.spec)
    c.as_slice.ensures c.echoed_len.ensures c.outcomes_len-results.ensures
    c.part_len.ensures c.add_len.ensures
