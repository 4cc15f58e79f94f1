use Rattle.std.proofs.Common.{◌∙◌, refl}
use Rattle.ber_values.specs.Writing.{written, length_octets}
use Rattle.mms_services.specs.Access.Specifications.{variables_octets}
use Rattle.mms_services.specs.Names.MemberLists.{deletable_octets, members_response_octets}
use Rattle.ber_values.proofs.Pieces.{capped-both}
use Rattle.mms_services.proofs.names.members.members_response_len.Goals as goal

pub returns : goal.returns
unfolding members_response_octets deletable_octets length_octets
returns c =
    let r = c.args.response.now in
    c.add_len.ensures ∙ capped-both 3 c.members_len.result deletable_octets
    (written 161 (variables_octets r.members)) refl (c.members_len.ensures.value 161)
