use Rattle.capture_text.proofs.LineEnds.{position_found}
use Rattle.capture_text.proofs.lines.line_end.Goals as goal

pub returns : goal.returns
returns c = position_found 10 c.args.text.now c.memchr.result c.memchr.ensures
