use Rattle.std.proofs.Common.{◌≡◌, true, ◌++◌, ◌∷◌, [], ◌∙◌, List, ℕ, codes, sym, subst}
use Rattle.std.specs.Prelude.{decimal}
use Rattle.std.proofs.lemmas.Result.{err_from_is_err_and}
use Rattle.outside.specs.Sink.{AppendsPart, AppendsAll, WritesAll}
use Rattle.outside.proofs.Writing.{AppendsPart-front, WritesAll-then}
use Rattle.stack_assoc.specs.Listing.Names.{layer_name, why_name}
use Rattle.tase_tool.specs.Lines.{named_line}
use Rattle.tase_tool.proofs.LineParts.{in_two}
use Rattle.tase_tool.proofs.asking.ending.write_refused.Goals as goal

pub returns-in_err-write_words : goal.returns-in_err-write_words
returns-in_err-write_words g c =
    let p = err_from_is_err_and c.from_residual.result c.from_residual.ensures.1 in
    let old = g.K.Sink.told c.args.sink.now in
    let now = g.K.Sink.told c.write_words.new.sink in
    let layer = layer_name c.args.fault.layer in
    let place = decimal c.args.fault.place in
    let why = why_name c.args.fault.why in
    let front = codes "peer refused" ++ 32 ∷ [] in
    subst (λ (l : List ℕ). WritesAll old now l c.from_residual.result)
    (sym (in_two (codes "peer refused") layer place why))
    (rw p.1 (AppendsPart-front old now (front ++ layer)
    (named_line [] (place ++ 32 ∷ [] ++ why)) true
    (subst (λ (l : List ℕ). AppendsPart old now (front ++ l) true)
    (c.as_bytes.ensures.value ∙ c.layer_name.ensures) c.in_err-write_words.ensures)))

pub returns : goal.returns
returns g c =
    let old = g.K.Sink.told c.args.sink.now in
    let mid = g.K.Sink.told c.write_words.new.sink in
    let now = g.K.Sink.told c.write_line.new.sink in
    let layer = layer_name c.args.fault.layer in
    let place = decimal c.args.fault.place in
    let why = why_name c.args.fault.why in
    let front = codes "peer refused" ++ 32 ∷ [] in
    let Gives : List ℕ → List ℕ → Type 0 = λ x y.
    WritesAll mid now (named_line [] (x ++ 32 ∷ [] ++ y)) c.write_line.result in
    subst (λ (l : List ℕ). WritesAll old now l c.write_line.result)
    (sym (in_two (codes "peer refused") layer place why))
    (WritesAll-then old mid now (front ++ layer) (named_line [] (place ++ 32 ∷ [] ++ why))
    c.write_line.result
    (subst (λ (l : List ℕ). AppendsAll old mid (front ++ l))
    (c.as_bytes.ensures.value ∙ c.layer_name.ensures) c.in_ok-write_words.ensures)
    (subst (λ x. Gives x why) (c.as_bytes-2.ensures.value ∙ c.format-digits.ensures.text)
    (subst (λ y. Gives c.as_bytes-2.result.now y)
    (c.as_bytes-3.ensures.value ∙ c.why_name.ensures) c.write_line.ensures)))
