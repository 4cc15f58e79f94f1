use Rattle.std.proofs.Common.{◌∙◌, arith}
use Rattle.mms_services.specs.Names.NameLists.{list_octets, more_octets, name_list_response_octets}
use Rattle.ber_values.proofs.Pieces.{capped-both}
use Rattle.mms_services.proofs.OfNames.NameListsSized.{more-sized}
use Rattle.mms_services.proofs.names.name_list.name_list_response_len.Goals as goal

pub returns : goal.returns
unfolding name_list_response_octets
returns c =
    let response = c.args.response.now in
    c.add_len.ensures
    ∙ capped-both c.list_len.result 3 (list_octets response.names) (more_octets response.more)
    c.list_len.ensures (omega (arith, more-sized response.more))
