use Rattle.std.proofs.Common.{◌∙◌}
use Rattle.ber_values.specs.Writing.{written}
use Rattle.ber_values.proofs.Capped.{capped-written}
use Rattle.mms_services.specs.Access.Specifications.{spec_octets}
use Rattle.mms_services.specs.Access.Reads.{echo_octets, read_request_octets}
use Rattle.ber_values.proofs.Pieces.{capped-both}
use Rattle.mms_services.proofs.access.read.read_request_len.Goals as goal

pub returns : goal.returns
unfolding read_request_octets
returns c =
    let spec = spec_octets c.args.request.now.spec in
    c.add_len.ensures
    ∙ capped-both c.echo_len.result c.part_len.result (echo_octets c.args.request.now.echo)
    (written 161 spec) c.echo_len.ensures
    (c.part_len.ensures ∙ capped-written 161 c.spec_len.result spec c.spec_len.ensures)
