use Rattle.std.proofs.Common.{◌++◌, ◌∷◌, [], List, ℕ, subst}
use Rattle.outside.specs.Sink.{WritesAll}
use Rattle.tase_tool.specs.Lines.{named_line}
use Rattle.tase_tool.specs.Verifying.{octet_word}
use Rattle.tase_tool.proofs.verdicts.write_octets.Goals as goal

pub returns : goal.returns
returns g c =
    let Gives : List ℕ → List ℕ → Type 0 = λ x y. WritesAll (g.K.Sink.told c.args.sink.now)
    (g.K.Sink.told c.write_line.new.sink) (named_line [] (x ++ 32 ∷ [] ++ y))
    c.write_line.result in
    subst (λ x. Gives x (octet_word c.args.want)) c.octet_word.ensures
    (subst (λ y. Gives c.octet_word.result.now y) c.octet_word-2.ensures c.write_line.ensures)
