use Rattle.std.proofs.Common.{ap, ◌∙◌}
use Rattle.mms_data.specs.DatumOf.{datum_of}
use Rattle.node_core.proofs.DeedsFound.{unsigned_small}
use Rattle.node_core.proofs.deeds.number_of.Goals as goal

pub signed-requires : goal.signed-requires
signed-requires c =
    unsigned_small c.args.value.now _ c.requires (c.kind.ensures ∙ ap datum_of c.in-Unsigned.is)
