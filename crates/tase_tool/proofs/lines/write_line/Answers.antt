use Rattle.std.proofs.Common.{true, false, ◌++◌, [], ◌∷◌}
use Rattle.std.proofs.lemmas.Result.{err_from_is_err_and}
use Rattle.outside.proofs.Writing.{AppendsPart-front, AppendsPart-append, WritesAll-then}
use Rattle.outside.proofs.Writing.{Appends-append}
use Rattle.tase_tool.proofs.lines.write_line.Goals as goal

pub returns-in_err-write_both : goal.returns-in_err-write_both
returns-in_err-write_both g c =
    let p = err_from_is_err_and c.from_residual.result c.from_residual.ensures.1 in
    let old = g.K.Sink.told c.args.sink.now in
    let mid = g.K.Sink.told c.write_both.new.sink in
    let name = c.args.name.now ++ 32 ∷ [] in
    let words = c.args.first.now ++ 32 ∷ [] ++ c.args.next.now in
    rw p.1 (AppendsPart-front old mid (name ++ words) (10 ∷ []) true
    (AppendsPart-front old mid name words true c.in_err-write_both.ensures))

pub returns-in_err-write_words : goal.returns-in_err-write_words
returns-in_err-write_words g c =
    let p = err_from_is_err_and c.from_residual-in_err-write_words.result
    c.from_residual-in_err-write_words.ensures.1 in
    let old = g.K.Sink.told c.args.sink.now in
    let mid = g.K.Sink.told c.write_both.new.sink in
    let now = g.K.Sink.told c.write_words.new.sink in
    let name = c.args.name.now ++ 32 ∷ [] in
    let words = c.args.first.now ++ 32 ∷ [] ++ c.args.next.now in
    rw p.1 (AppendsPart-front old now (name ++ words) (10 ∷ []) true
    (AppendsPart-append old mid now name words true c.in_ok-write_both.ensures
    c.in_err-write_words.ensures))

pub returns : goal.returns
returns g c =
    let old = g.K.Sink.told c.args.sink.now in
    let mid = g.K.Sink.told c.write_both.new.sink in
    let now = g.K.Sink.told c.write_words.new.sink in
    let name = c.args.name.now ++ 32 ∷ [] in
    let words = c.args.first.now ++ 32 ∷ [] ++ c.args.next.now in
    WritesAll-then old now (g.K.Sink.told c.write_all.new.sink) (name ++ words) (10 ∷ [])
    c.write_all.result
    (Appends-append old mid now name words false c.in_ok-write_both.ensures
    c.in_ok-write_words.ensures) c.write_all.ensures
