use Rattle.std.proofs.Common.{◌∙◌}
use Rattle.ber_values.proofs.Capped.{capped-written}
use Rattle.mms_services.specs.PduOctets.{request_tag, request_contents, request_octets}
use Rattle.mms_services.proofs.request.request_len.Goals as goal

pub returns-clause-value : goal.returns-clause-value
unfolding request_octets
returns-clause-value c =
    let r = c.args.request.now in
    c.part_len.ensures
    ∙ capped-written (request_tag r) c.contents_len.result (request_contents r) c.contents_len.ensures.value
