use Rattle.std.proofs.Common.{ℕ, List, take, subst, Result, Ok, Err}
use Rattle.std.specs.Prelude.{OnErr}
use Rattle.plain_text.specs.Extends.{Extends}
use Rattle.plain_text.proofs.Extended.{Extends-append}
use Rattle.texts.specs.Journal.Journals.{journal_text}
use Rattle.tase_resume.proofs.writing.put_entries.Goals as goal

on_err : {T E : Type 0} (P : Type 0) (result : Result T E) → P → OnErr result P
on_err P (Ok value) p = tt
on_err P (Err error) p = p

pub returns-in_err-put_line-clause-err : goal.returns-in_err-put_line-clause-err
returns-in_err-put_line-clause-err c =
    on_err (Extends c.args.out.now.items c.put_line.new.out.items) c.from_residual.result
    (Extends-append c.args.out.now.items
    (journal_text (take c.loop-entry.entry-index c.args.entries.now)) c.put_line.new.out.items
    (subst (λ (l : List ℕ). Extends l c.put_line.new.out.items) c.loop-entry.invariant
    c.in_err-put_line.ensures.err))
