use Rattle.std.proofs.Common.{◌<◌, sym, ap, ◌∙◌, length}
use Rattle.bilateral.specs.Words.Words.{is_distinct}
use Rattle.bilateral.proofs.OfWords.Components.{IsLayout-from_distinct}
use Rattle.bilateral.proofs.words.layouts.read_layout.Goals as goal

pub new-requires : goal.new-requires
new-requires c =
    let some : 0 < length c.in-Some.components.items =
    rw c.in-Some.is at c.in_ok-components.ensures.nonempty in
    IsLayout-from_distinct c.in-Some.components.items some
    (ap is_distinct (sym c.as_slice.ensures.value) ∙ sym c.if-is_distinct.ensures)
