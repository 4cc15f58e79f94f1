use Rattle.std.proofs.Common.{true, sym, subst, ◌++◌, List, ℕ}
use Rattle.std.specs.Prelude.{codes}
use Rattle.std.proofs.lemmas.Result.{err_from_is_err_and}
use Rattle.outside.specs.Sink.{WritesAll, AppendsAll, AppendsPart}
use Rattle.outside.proofs.Writing.{AppendsPart-front, WritesAll-then}
use Rattle.commands.specs.declared.io.input.Refusal.TheVariants.{Long, BadLine, BadKey}
use Rattle.commands.proofs.OfIo.Printing.{refusal_rest, refusal_parts}
use Rattle.commands.proofs.io.output.write_refusal.Goals as goal

pub returns-in_err-write_both : goal.returns-in_err-write_both
returns-in_err-write_both g c =
    let p = err_from_is_err_and c.from_residual.result c.from_residual.ensures.1 in
    let old = g.K.Sink.told c.args.sink.now in
    let now = g.K.Sink.told c.write_both.new.sink in
    subst (λ os. WritesAll old now os c.from_residual.result)
    (sym (refusal_parts c.args.input.now c.args.refusal))
    (rw p.1 (AppendsPart-front old now (codes "input " ++ c.args.input.now)
    (refusal_rest c.args.refusal) true
    (subst (λ (i : List ℕ). AppendsPart old now (codes "input " ++ i) true)
    c.as_bytes.ensures.value c.in_err-write_both.ensures)))

pub returns-in-Long : goal.returns-in-Long
returns-in-Long g c =
    let old = g.K.Sink.told c.args.sink.now in
    let mid = g.K.Sink.told c.write_both.new.sink in
    let now = g.K.Sink.told c.write_all.new.sink in
    rw c.in-Long.is (subst (λ os. WritesAll old now os c.write_all.result)
    (sym (refusal_parts c.args.input.now Long))
    (WritesAll-then old mid now (codes "input " ++ c.args.input.now) (refusal_rest Long)
    c.write_all.result
    (subst (λ (i : List ℕ). AppendsAll old mid (codes "input " ++ i))
    c.as_bytes.ensures.value c.in_ok-write_both.ensures)
    c.write_all.ensures))

pub returns-in-BadLine : goal.returns-in-BadLine
returns-in-BadLine g c =
    let old = g.K.Sink.told c.args.sink.now in
    let mid = g.K.Sink.told c.write_both.new.sink in
    let now = g.K.Sink.told c.write_number.new.sink in
    rw c.in-BadLine.is (subst (λ os. WritesAll old now os c.write_number.result)
    (sym (refusal_parts c.args.input.now (BadLine c.in-BadLine.line)))
    (WritesAll-then old mid now (codes "input " ++ c.args.input.now)
    (refusal_rest (BadLine c.in-BadLine.line)) c.write_number.result
    (subst (λ (i : List ℕ). AppendsAll old mid (codes "input " ++ i))
    c.as_bytes.ensures.value c.in_ok-write_both.ensures)
    c.write_number.ensures))

pub returns-in-BadKey : goal.returns-in-BadKey
returns-in-BadKey g c =
    let old = g.K.Sink.told c.args.sink.now in
    let mid = g.K.Sink.told c.write_both.new.sink in
    let now = g.K.Sink.told c.write_all-in-BadKey.new.sink in
    rw c.in-BadKey.is (subst (λ os. WritesAll old now os c.write_all-in-BadKey.result)
    (sym (refusal_parts c.args.input.now BadKey))
    (WritesAll-then old mid now (codes "input " ++ c.args.input.now) (refusal_rest BadKey)
    c.write_all-in-BadKey.result
    (subst (λ (i : List ℕ). AppendsAll old mid (codes "input " ++ i))
    c.as_bytes.ensures.value c.in_ok-write_both.ensures)
    c.write_all-in-BadKey.ensures))
