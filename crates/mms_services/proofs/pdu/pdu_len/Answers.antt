use Rattle.std.proofs.Common.{◌∙◌}
use Rattle.ber_values.proofs.Capped.{capped-written}
use Rattle.mms_services.specs.PduOctets.{pdu_tag, pdu_contents, pdu_octets}
use Rattle.mms_services.proofs.pdu.pdu_len.Goals as goal

pub returns : goal.returns
unfolding pdu_octets
returns c =
    let p = c.args.pdu.now in
    c.part_len.ensures
    ∙ capped-written (pdu_tag p) c.contents_len.result (pdu_contents p) c.contents_len.ensures.value
