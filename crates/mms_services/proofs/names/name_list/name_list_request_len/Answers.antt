use Rattle.std.proofs.Common.{rules, ◌≡◌, ◌∙◌, ap, length}
use Rattle.std.specs.Int.{w64}
use mir.Val.{to_z, of_z}
use Rattle.mms_services.specs.Names.NameLists.{class_octets}
use Rattle.mms_services.proofs.OfNames.NameListsSized.{name_list_request-sized}
use Rattle.mms_services.proofs.names.name_list.name_list_request_len.Goals as goal

pub returns-clause-value : goal.returns-clause-value
returns-clause-value c =
    let request = c.args.request.now in
    let class : to_z w64 (of_z w64 request.class) ≡ request.class = search rules in
    name_list_request-sized request c.class_len.result c.in_scope_len.result c.after_len.result
    (c.class_len.ensures.value ∙ ap (λ z. length (class_octets z)) class)
    c.in_scope_len.ensures.value c.after_len.ensures.value
