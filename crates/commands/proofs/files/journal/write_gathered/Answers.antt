use Rattle.std.proofs.Common.{sym, subst, false}
use Rattle.outside.specs.Sink.{AppendsPart}
use Rattle.outside.specs.Buffered.{buffered_told, Finishes}
use Rattle.outside.proofs.Writing.{AppendsPart-none}
use Rattle.commands.specs.declared.io.status.Status.TheVariants.{Done, Outside}
use Rattle.commands.specs.Io.Saying.{prints}
use Rattle.commands.specs.Io.Runs.{TellsSaid}
use Rattle.texts.specs.Journal.Journals.{journal_text}
use Rattle.commands.proofs.OfFiles.Handed.{Tells-handed, Tells-unhanded, Tells-failed}
use Rattle.commands.proofs.files.journal.write_gathered.Goals as goal

pub returns-in-Err-clause-tells : goal.returns-in-Err-clause-tells
returns-in-Err-clause-tells g c =
    subst (λ s. AppendsPart (g.K.Sink.told c.args.sink) (g.K.Sink.told s)
    (journal_text c.args.node.now.history) false) (sym c.in-Err.ensures.err)
    (AppendsPart-none (g.K.Sink.told c.args.sink) (journal_text c.args.node.now.history))

pub returns-in-Outside-clause-tells : goal.returns-in-Outside-clause-tells
returns-in-Outside-clause-tells g c =
    let said = prints Done (journal_text c.args.node.now.history) in
    let k = g.K.Sink.told c.args.sink in
    let m = g.K.Sink.told c.write_entries.new.sink.0 in
    subst (λ s. TellsSaid said k (g.K.Sink.told s) Outside) (sym c.into_sink.ensures)
    (Tells-failed k m m c.write_entries.new.sink.1 c.requires said
    (subst (λ s. TellsSaid said (buffered_told (g.K.Sink.told s.0) s.1)
    (buffered_told m c.write_entries.new.sink.1) Outside)
    c.in-Ok.ensures.ok c.in-Outside.ensures.tells))

pub returns-in_default-Ok-clause-tells : goal.returns-in_default-Ok-clause-tells
returns-in_default-Ok-clause-tells g c =
    let said = prints Done (journal_text c.args.node.now.history) in
    let m = g.K.Sink.told c.write_entries.new.sink.0 in
    Tells-handed (g.K.Sink.told c.args.sink) m (g.K.Sink.told c.finish.result.0)
    c.write_entries.new.sink.1 c.requires said c.write_entries.result c.in_default.not-Outside
    (subst (λ s. TellsSaid said (buffered_told (g.K.Sink.told s.0) s.1)
    (buffered_told m c.write_entries.new.sink.1) c.write_entries.result)
    c.in-Ok.ensures.ok c.write_entries.ensures.tells)
    (subst (λ r. Finishes m (g.K.Sink.told c.finish.result.0) c.write_entries.new.sink.1 r)
    c.in_default-Ok.is-1 c.finish.ensures)

pub returns-in_default-Err-clause-tells : goal.returns-in_default-Err-clause-tells
returns-in_default-Err-clause-tells g c =
    let said = prints Done (journal_text c.args.node.now.history) in
    let m = g.K.Sink.told c.write_entries.new.sink.0 in
    Tells-unhanded (g.K.Sink.told c.args.sink) m (g.K.Sink.told c.finish.result.0)
    c.write_entries.new.sink.1 c.requires said c.write_entries.result
    c.in_default-Err.field-0-1 c.in_default.not-Outside
    (subst (λ s. TellsSaid said (buffered_told (g.K.Sink.told s.0) s.1)
    (buffered_told m c.write_entries.new.sink.1) c.write_entries.result)
    c.in-Ok.ensures.ok c.write_entries.ensures.tells)
    (subst (λ r. Finishes m (g.K.Sink.told c.finish.result.0) c.write_entries.new.sink.1 r)
    c.in_default-Err.is-1 c.finish.ensures)
