use Rattle.std.proofs.Common.{ℕ, List, map, Bor, ap}
use Rattle.std.specs.Fmt.{digits}
use Rattle.tase_views.specs.Objects as objects
use Rattle.node_core.proofs.OfObjects.SlotNames.{text_at}
use Rattle.node_core.proofs.objects.naming.slot_item.Goals as goal

pub returns : goal.returns
unfolding digits
returns c =
    text_at objects.slot_item 16 c.as_slice-items.result.now c.args.slot _ c.requires
    (ap (λ (texts : List (Bor (List ℕ))). map (λ text. text.now) texts) c.as_slice-items.ensures)
