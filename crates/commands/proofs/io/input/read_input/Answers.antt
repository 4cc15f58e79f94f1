use Rattle.std.proofs.Common.{sym, subst}
use Rattle.commands.specs.Io.Inputs.{ReadsInput}
use Rattle.commands.proofs.OfIo.Reading.{ReadsInput-from}
use Rattle.commands.proofs.io.input.read_input.Goals as goal

pub returns : goal.returns
returns g c =
    subst (λ r. ReadsInput (g.O.Outside.told c.args.outside.now)
    (g.O.Outside.told c.close_in.new.self) c.args.name.now c.args.limit r)
    (sym c.input_from-input.ensures)
    (ReadsInput-from (g.O.Outside.told c.args.outside.now) (g.O.Outside.told c.open_in.new.self)
    (g.O.Outside.told c.close_in.new.self) c.args.name.now c.args.limit c.requires
    (g.O.In.Source.told c.in-Some.source) (g.O.In.Source.told c.read_text-read.new.source)
    c.read_text-read.result c.read_text-read.ensures.0
    c.in-Some.ensures c.read_text-read.ensures.1 c.close_in.ensures)
