use Rattle.std.proofs.Common.{◌∙◌}
use Rattle.ber_values.proofs.Capped.{capped-written}
use Rattle.mms_services.specs.PduOctets.{response_tag, response_contents, response_octets}
use Rattle.mms_services.proofs.response.response_len.Goals as goal

pub returns-clause-value : goal.returns-clause-value
unfolding response_octets
returns-clause-value c =
    let r = c.args.response.now in
    c.part_len.ensures
    ∙ capped-written (response_tag r) c.contents_len.result (response_contents r) c.contents_len.ensures.value
