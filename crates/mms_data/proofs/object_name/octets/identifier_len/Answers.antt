use Rattle.std.proofs.Common.{◌+◌, ◌∙◌, sym, ap, length}
use Rattle.mms_data.proofs.NameWritten.{visible-size}
use Rattle.mms_data.proofs.object_name.octets.identifier_len.Goals as goal

pub returns-clause-length : goal.returns-clause-length
returns-clause-length c =
    ap (λ os. 2 + length os) c.as_slice.ensures.value
    ∙ sym (visible-size 26 c.args.identifier.now c.as_slice.ensures.visible)
