use Rattle.std.proofs.Common.{arith}
use Rattle.std.proofs.lemmas.List.{length-append}
use Rattle.ber_values.specs.Writing.{written}
use Rattle.mms_services.specs.Access.Specifications.{spec_octets}
use Rattle.mms_services.specs.Access.Reads.{echo_octets, read_request_octets}
use Rattle.ber_values.proofs.Pieces.{joined}
use Rattle.mms_services.proofs.access.read.put_read_request.Goals as goal

pub put_spec_part-requires-clause-bounded : goal.put_spec_part-requires-clause-bounded
unfolding read_request_octets
put_spec_part-requires-clause-bounded c =
    let one = echo_octets c.args.request.now.echo in
    let two = written 161 (spec_octets c.args.request.now.spec) in
    omega (arith, c.requires, length-append one two)

pub returns-clause-ok : goal.returns-clause-ok
unfolding read_request_octets
returns-clause-ok c =
    joined c.args.out.now.items c.put_echo.new.out.items c.put_spec_part.new.out.items
    (echo_octets c.args.request.now.echo) (written 161 (spec_octets c.args.request.now.spec))
    c.in_ok-put_echo.ensures.ok c.in_ok-put_spec_part.ensures.ok
