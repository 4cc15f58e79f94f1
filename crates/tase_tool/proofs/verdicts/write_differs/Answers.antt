use Rattle.std.proofs.Common.{true, ◌++◌, ◌∷◌, [], ◌∙◌, List, ℕ, codes, sym, subst}
use Rattle.std.specs.Prelude.{decimal}
use Rattle.std.proofs.lemmas.Result.{err_from_is_err_and}
use Rattle.outside.specs.Sink.{AppendsPart, AppendsAll, WritesAll}
use Rattle.outside.proofs.Writing.{AppendsPart-front, WritesAll-then}
use Rattle.tase_tool.specs.Verifying.{octet_word, octets_line}
use Rattle.tase_tool.proofs.LineParts.{in_two}
use Rattle.tase_tool.proofs.verdicts.write_differs.Goals as goal

pub returns-in_err-write_words : goal.returns-in_err-write_words
returns-in_err-write_words g c =
    let p = err_from_is_err_and c.from_residual.result c.from_residual.ensures.1 in
    let old = g.K.Sink.told c.args.sink.now in
    let now = g.K.Sink.told c.write_words.new.sink in
    let place = decimal c.args.place in
    let front = codes "differs" ++ 32 ∷ [] in
    subst (λ (l : List ℕ). WritesAll old now l c.from_residual.result)
    (sym (in_two (codes "differs") place (octet_word c.args.got) (octet_word c.args.want)))
    (rw p.1 (AppendsPart-front old now (front ++ place) (octets_line c.args.got c.args.want) true
    (subst (λ (l : List ℕ). AppendsPart old now (front ++ l) true)
    (c.as_bytes.ensures.value ∙ c.format-digits.ensures.text) c.in_err-write_words.ensures)))

pub returns : goal.returns
returns g c =
    let old = g.K.Sink.told c.args.sink.now in
    let mid = g.K.Sink.told c.write_words.new.sink in
    let now = g.K.Sink.told c.write_octets.new.sink in
    let place = decimal c.args.place in
    let front = codes "differs" ++ 32 ∷ [] in
    subst (λ (l : List ℕ). WritesAll old now l c.write_octets.result)
    (sym (in_two (codes "differs") place (octet_word c.args.got) (octet_word c.args.want)))
    (WritesAll-then old mid now (front ++ place) (octets_line c.args.got c.args.want)
    c.write_octets.result
    (subst (λ (l : List ℕ). AppendsAll old mid (front ++ l))
    (c.as_bytes.ensures.value ∙ c.format-digits.ensures.text) c.in_ok-write_words.ensures)
    c.write_octets.ensures)
