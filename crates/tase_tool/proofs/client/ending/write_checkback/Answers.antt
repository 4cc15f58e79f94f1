use Rattle.std.proofs.Common.{◌∙◌, ◌++◌, [], ◌∷◌, List, ℕ, ap, codes, subst, rules}
use Rattle.std.specs.Fmt.{signed_decimal}
use Rattle.std.specs.Int.{w64}
use Rattle.std.specs.Int.RustNames.{FitsSigned}
use Rattle.std.proofs.lemmas.Int.{to_z-of_z}
use Rattle.outside.specs.Sink.{WritesAll}
use Rattle.tase_tool.specs.Lines.{named_line}
use Rattle.tase_tool.proofs.client.ending.write_checkback.Goals as goal

pub returns : goal.returns
returns g c =
    let want = c.args.checkback.want in
    let got = c.args.checkback.got in
    let want_fits : FitsSigned w64 want = search rules in
    let got_fits : FitsSigned w64 got = search rules in
    let Gives : List ℕ → List ℕ → Type 0 = λ x y. WritesAll (g.K.Sink.told c.args.sink.now)
    (g.K.Sink.told c.write_line.new.sink) (named_line (codes "checkback") (x ++ 32 ∷ [] ++ y))
    c.write_line.result in
    subst (λ x. Gives x (signed_decimal got))
    (c.as_bytes.ensures.value ∙ c.format-first.ensures.text
    ∙ ap signed_decimal (to_z-of_z w64 want want_fits))
    (subst (λ y. Gives c.as_bytes.result.now y)
    (c.as_bytes-2.ensures.value ∙ c.format-second.ensures.text
    ∙ ap signed_decimal (to_z-of_z w64 got got_fits)) c.write_line.ensures)
