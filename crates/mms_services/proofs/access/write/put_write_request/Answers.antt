use Rattle.ber_values.specs.Writing.{written}
use Rattle.ber_values.proofs.Pieces.{first-few, listed-few, listed-joined}
use Rattle.mms_services.specs.Access.Specifications.{spec_octets}
use Rattle.mms_services.specs.Access.Writes.{values_octets, write_request_octets}
use Rattle.mms_services.proofs.access.write.put_write_request.Goals as goal

pub put_spec-requires : goal.put_spec-requires
unfolding write_request_octets
put_spec-requires c =
    first-few (spec_octets c.args.request.now.spec) (written 160 (values_octets c.args.request.now.values))
    c.requires.bounded

pub put_values_part-requires-clause-bounded : goal.put_values_part-requires-clause-bounded
unfolding write_request_octets
put_values_part-requires-clause-bounded c =
    listed-few (λ xs. written 160 (values_octets xs)) (spec_octets c.args.request.now.spec)
    c.as_slice.ensures c.requires.bounded

pub returns-clause-ok : goal.returns-clause-ok
unfolding write_request_octets
returns-clause-ok c =
    listed-joined (λ xs. written 160 (values_octets xs)) c.args.out.now.items
    (spec_octets c.args.request.now.spec) c.as_slice.ensures c.in_ok-put_spec.ensures.ok
    c.in_ok-put_values_part.ensures.ok
