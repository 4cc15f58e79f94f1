use Rattle.std.proofs.Common.{◌≡◌, sym, ap, ◌∙◌, List}
use Rattle.mms_data.specs.Datum.{Datum, structure, data_of}
use Rattle.mms_data.specs.DatumOf.{datum_of}
use Rattle.tase_views.specs.Devices.{tag_in}
use Rattle.node_core.proofs.OfReplies.TagForms.{untagged}
use Rattle.node_core.proofs.replies.write_requests.tag_parts.Goals as goal

pub returns-in_default-two_of-clause-parts : goal.returns-in_default-two_of-clause-parts
returns-in_default-two_of-clause-parts c =
    let is : structure (data_of c.as_slice.result.now) ≡ c.args.value.now =
    ap (λ (ds : List Datum). structure (data_of ds)) c.as_slice.ensures
    ∙ sym (c.kind.ensures ∙ ap datum_of c.in-Structure.is) in
    untagged c.as_slice.result.now (c.two_of.ensures.other c.in_default-two_of.is) ∙ ap tag_in is
