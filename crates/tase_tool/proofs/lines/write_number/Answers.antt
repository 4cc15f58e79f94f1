use Rattle.std.proofs.Common.{true, ◌++◌, ◌∷◌, [], ◌∙◌, List, ℕ, subst}
use Rattle.std.specs.Prelude.{decimal}
use Rattle.std.proofs.lemmas.Result.{err_from_is_err_and}
use Rattle.outside.specs.Sink.{AppendsPart, AppendsAll}
use Rattle.outside.proofs.Writing.{AppendsPart-front, WritesAll-then}
use Rattle.tase_tool.proofs.lines.write_number.Goals as goal

pub returns-in_err-write_both : goal.returns-in_err-write_both
returns-in_err-write_both g c =
    let p = err_from_is_err_and c.from_residual.result c.from_residual.ensures.1 in
    let old = g.K.Sink.told c.args.sink.now in
    let now = g.K.Sink.told c.write_both.new.sink in
    rw p.1 (AppendsPart-front old now (c.args.name.now ++ decimal c.args.number) (10 ∷ []) true
    (subst (λ (d : List ℕ). AppendsPart old now (c.args.name.now ++ d) true)
    (c.as_bytes.ensures.value ∙ c.format-digits.ensures.text) c.in_err-write_both.ensures))

pub returns : goal.returns
returns g c =
    let old = g.K.Sink.told c.args.sink.now in
    let now = g.K.Sink.told c.write_both.new.sink in
    WritesAll-then old now (g.K.Sink.told c.write_all.new.sink)
    (c.args.name.now ++ decimal c.args.number) (10 ∷ []) c.write_all.result
    (subst (λ (d : List ℕ). AppendsAll old now (c.args.name.now ++ d))
    (c.as_bytes.ensures.value ∙ c.format-digits.ensures.text) c.in_ok-write_both.ensures)
    c.write_all.ensures
