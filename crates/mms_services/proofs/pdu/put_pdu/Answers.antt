use Rattle.std.proofs.Common.{arith}
use Rattle.ber_values.proofs.Pieces.{contents-few, tagged-written}
use Rattle.mms_services.specs.PduOctets.{pdu_tag, pdu_contents, pdu_octets}
use Rattle.mms_services.proofs.pdu.put_pdu.Goals as goal

pub put_contents-requires-clause-bounded : goal.put_contents-requires-clause-bounded
unfolding pdu_octets
put_contents-requires-clause-bounded c =
    contents-few (pdu_tag c.args.pdu.now) (pdu_contents c.args.pdu.now) (omega (arith, c.requires.bounded))

pub returns-clause-ok : goal.returns-clause-ok
unfolding pdu_octets
returns-clause-ok c =
    tagged-written c.args.out.now.items (pdu_contents c.args.pdu.now) c.pdu_tag.ensures.value
    c.contents_len.ensures.value (omega (arith, c.requires.bounded)) c.in_ok-write_head.ensures.ok
    c.in_ok-put_contents.ensures.ok
