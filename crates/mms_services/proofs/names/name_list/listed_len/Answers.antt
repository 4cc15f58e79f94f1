use Rattle.std.proofs.Common.{◌+◌, ◌∙◌, ap, length}
use Rattle.mms_services.proofs.OfNames.NameListsSized.{listed-sized}
use Rattle.mms_services.proofs.names.name_list.listed_len.Goals as goal

pub returns : goal.returns
returns c = ap (λ os. 2 + length os) c.as_slice.ensures.value
    ∙ listed-sized c.args.name.now c.as_slice.ensures.visible
