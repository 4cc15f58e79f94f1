use Rattle.std.proofs.Common.{◌≡◌, true, List, ℕ, [], ◌∷◌, ◌++◌, codes, append_assoc, sym, subst}
use Rattle.std.proofs.lemmas.Result.{err_from_is_err_and}
use Rattle.outside.specs.Sink.{AppendsAll, AppendsPart, WritesAll}
use Rattle.outside.proofs.Writing.{AppendsPart-front, WritesAll-then}
use Rattle.plain_text.specs.Escaped.{escaped_text}
use Rattle.tase_discover.specs.Ends.{item_from_end}
use Rattle.tase_tool.proofs.discover.ending.write_unordered.Goals as goal

-- the line is a front part, and the rest behind it
in_two : (first next end : List ℕ) → first ++ next ++ end ≡ first ++ (next ++ end)
in_two first next end = append_assoc first next end

pub returns-in_err-write_item : goal.returns-in_err-write_item
returns-in_err-write_item g c =
    let p = err_from_is_err_and c.from_residual.result c.from_residual.ensures.1 in
    let old = g.K.Sink.told c.args.sink.now in
    let now = g.K.Sink.told c.write_item.new.sink in
    let first = escaped_text (item_from_end c.args.names.now 2) in
    let next = escaped_text (item_from_end c.args.names.now 1) in
    subst (λ (l : List ℕ). WritesAll old now l c.from_residual.result)
    (sym (in_two (codes "unordered " ++ first) (32 ∷ next) (10 ∷ [])))
    (rw p.1 (AppendsPart-front old now (codes "unordered " ++ first)
    (codes " " ++ next ++ 10 ∷ []) true
    (subst (λ (i : List ℕ). AppendsPart old now (codes "unordered " ++ escaped_text i) true)
    c.from_end.ensures c.in_err-write_item.ensures)))

pub returns : goal.returns
returns g c =
    let old = g.K.Sink.told c.args.sink.now in
    let mid = g.K.Sink.told c.write_item.new.sink in
    let now = g.K.Sink.told c.write_last.new.sink in
    let first = escaped_text (item_from_end c.args.names.now 2) in
    let next = escaped_text (item_from_end c.args.names.now 1) in
    subst (λ (l : List ℕ). WritesAll old now l c.write_last.result)
    (sym (in_two (codes "unordered " ++ first) (32 ∷ next) (10 ∷ [])))
    (WritesAll-then old mid now (codes "unordered " ++ first) (codes " " ++ next ++ 10 ∷ [])
    c.write_last.result
    (subst (λ (i : List ℕ). AppendsAll old mid (codes "unordered " ++ escaped_text i))
    c.from_end.ensures c.in_ok-write_item.ensures)
    (subst (λ (i : List ℕ).
    WritesAll mid now (codes " " ++ escaped_text i ++ 10 ∷ []) c.write_last.result)
    c.from_end-2.ensures c.write_last.ensures))
