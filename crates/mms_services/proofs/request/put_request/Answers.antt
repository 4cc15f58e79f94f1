use Rattle.ber_values.proofs.Pieces.{contents-few, tagged-written}
use Rattle.mms_services.specs.PduOctets.{request_tag, request_contents, request_octets}
use Rattle.mms_services.proofs.request.put_request.Goals as goal

pub put_contents-requires-clause-bounded : goal.put_contents-requires-clause-bounded
unfolding request_octets
put_contents-requires-clause-bounded c =
    contents-few (request_tag c.args.request.now) (request_contents c.args.request.now) c.requires.bounded

pub returns-clause-ok : goal.returns-clause-ok
unfolding request_octets
returns-clause-ok c =
    tagged-written c.args.out.now.items (request_contents c.args.request.now) c.request_tag.ensures.value
    c.contents_len.ensures.value c.requires.bounded c.in_ok-write_head.ensures.ok
    c.in_ok-put_contents.ensures.ok
