use Rattle.ber_values.specs.Writing.{written}
use Rattle.ber_values.proofs.Pieces.{first-few, listed-few, listed-joined}
use Rattle.mms_services.specs.Access.Reads.{echoed_octets, outcomes_octets, read_response_octets}
use Rattle.mms_services.proofs.access.read.put_read_response.Goals as goal

pub put_echoed-requires : goal.put_echoed-requires
unfolding read_response_octets
put_echoed-requires c =
    first-few (echoed_octets c.args.response.now.spec) (written 161 (outcomes_octets c.args.response.now.results))
    c.requires.bounded

pub put_outcomes_part-requires-clause-bounded : goal.put_outcomes_part-requires-clause-bounded
unfolding read_response_octets
put_outcomes_part-requires-clause-bounded c =
    listed-few (λ xs. written 161 (outcomes_octets xs)) (echoed_octets c.args.response.now.spec)
    c.as_slice.ensures c.requires.bounded

pub returns-clause-ok : goal.returns-clause-ok
unfolding read_response_octets
returns-clause-ok c =
    listed-joined (λ xs. written 161 (outcomes_octets xs)) c.args.out.now.items
    (echoed_octets c.args.response.now.spec) c.as_slice.ensures c.in_ok-put_echoed.ensures.ok
    c.in_ok-put_outcomes_part.ensures.ok
