use Rattle.std.proofs.Common.{true, sym, subst, ◌++◌, [], ◌∷◌}
use Rattle.std.specs.Prelude.{codes, decimal}
use Rattle.std.proofs.lemmas.Result.{err_from_is_err_and}
use Rattle.outside.specs.Sink.{WritesAll}
use Rattle.outside.proofs.Writing.{AppendsPart-front, WritesAll-then}
use Rattle.commands.proofs.OfIo.Printing.{full_parts}
use Rattle.commands.proofs.io.output.write_full.Goals as goal

pub returns-in_err-write_number : goal.returns-in_err-write_number
returns-in_err-write_number g c =
    let p = err_from_is_err_and c.from_residual.result c.from_residual.ensures.1 in
    let old = g.K.Sink.told c.args.sink.now in
    let now = g.K.Sink.told c.write_number.new.sink in
    subst (λ os. WritesAll old now os c.from_residual.result)
    (sym (full_parts c.args.weight c.args.limit))
    (rw p.1 (AppendsPart-front old now ((codes "full " ++ decimal c.args.weight) ++ codes " ")
    (decimal c.args.limit ++ 10 ∷ []) true c.in_err-write_number.ensures))

pub returns : goal.returns
returns g c =
    let old = g.K.Sink.told c.args.sink.now in
    let after = g.K.Sink.told c.write_number-2.new.sink in
    subst (λ os. WritesAll old after os c.write_number-2.result)
    (sym (full_parts c.args.weight c.args.limit))
    (WritesAll-then old (g.K.Sink.told c.write_number.new.sink) after
    ((codes "full " ++ decimal c.args.weight) ++ codes " ")
    (decimal c.args.limit ++ 10 ∷ []) c.write_number-2.result
    c.in_ok-write_number.ensures c.write_number-2.ensures)
