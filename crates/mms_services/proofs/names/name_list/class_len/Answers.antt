use Rattle.std.proofs.Common.{◌∙◌, ap, length}
use Rattle.std.specs.Int.{w64}
use Rattle.std.proofs.lemmas.Int.{to_z-of_z}
use Rattle.ber_values.specs.Writing.{integer_octets}
use Rattle.mms_services.proofs.OfNames.NameListsSized.{class-sized}
use Rattle.mms_services.proofs.names.name_list.class_len.Goals as goal

pub returns-clause-value : goal.returns-clause-value
returns-clause-value c = class-sized c.args.class c.integer_len.result
    (c.integer_len.ensures.value
    ∙ ap (λ z. length (integer_octets z)) (to_z-of_z w64 c.args.class c.ranges.class))
    c.integer_len.ensures.few
