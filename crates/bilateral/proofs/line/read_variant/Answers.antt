use Rattle.std.proofs.Common.{sym}
use Rattle.bilateral.proofs.OfWords.VisibleWords.{IsVisible-from_identifier}
use Rattle.bilateral.proofs.line.read_variant.Goals as goal

pub visible_word-requires : goal.visible_word-requires
visible_word-requires c =
    IsVisible-from_identifier c.in-Some.key.now (sym c.if-not-is_identifier.ensures)

pub visible_word-requires-2 : goal.visible_word-requires-2
visible_word-requires-2 c =
    IsVisible-from_identifier c.in-Some.domain.now (sym c.if-not-is_identifier-2.ensures)

pub visible_word-requires-3 : goal.visible_word-requires-3
visible_word-requires-3 c =
    IsVisible-from_identifier c.in-Some.id.now (sym c.if-not-is_identifier-3.ensures)
