use Rattle.std.proofs.Common.{map, string_bytes, sym}
use Rattle.commands.proofs.OfWords.Limited.{result_limited}
use Rattle.commands.proofs.OfWords.ReadForms.{error_asks}
use Rattle.commands.proofs.words.reading.read_command.Goals as goal

pub returns-clause-limit : goal.returns-clause-limit
returns-clause-limit c = result_limited c.read_of_kind.result
    (map string_bytes c.args.words.now) c.read_of_kind.ensures

pub returns-clause-memory : goal.returns-clause-memory
returns-clause-memory c = error_asks c.read_of_kind.result (map string_bytes c.args.words.now)
    c.in-Some.kind (sym c.in-Some.ensures)
