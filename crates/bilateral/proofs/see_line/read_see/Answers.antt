use Rattle.std.proofs.Common.{sym}
use Rattle.bilateral.proofs.OfWords.VisibleWords.{IsVisible-from_name}
use Rattle.bilateral.proofs.see_line.read_see.Goals as goal

pub visible_word-requires : goal.visible_word-requires
visible_word-requires c = IsVisible-from_name c.in-Some.name.now (sym c.if-not-is_name.ensures)
