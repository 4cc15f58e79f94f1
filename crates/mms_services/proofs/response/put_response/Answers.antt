use Rattle.ber_values.proofs.Pieces.{contents-few, tagged-written}
use Rattle.mms_services.specs.PduOctets.{response_tag, response_contents, response_octets}
use Rattle.mms_services.proofs.response.put_response.Goals as goal

pub put_contents-requires-clause-bounded : goal.put_contents-requires-clause-bounded
unfolding response_octets
put_contents-requires-clause-bounded c =
    contents-few (response_tag c.args.response.now) (response_contents c.args.response.now) c.requires.bounded

pub returns-clause-ok : goal.returns-clause-ok
unfolding response_octets
returns-clause-ok c =
    tagged-written c.args.out.now.items (response_contents c.args.response.now) c.response_tag.ensures.value
    c.contents_len.ensures.value c.requires.bounded c.in_ok-write_head.ensures.ok
    c.in_ok-put_contents.ensures.ok
