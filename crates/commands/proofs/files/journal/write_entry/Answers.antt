use Rattle.std.proofs.Common.{[], ◌∷◌, ◌++◌}
use Rattle.std.specs.Prelude.{slice_get}
use Rattle.commands.specs.declared.io.status.Status.TheVariants.{Done}
use Rattle.commands.specs.Io.Saying.{prints}
use Rattle.commands.specs.Io.Runs.{TellsSaid}
use Rattle.commands.proofs.OfFiles.Journals.{of_entry, of_no_entry, tells_written}
use Rattle.commands.proofs.files.journal.write_entry.Goals as goal

pub returns-in-Some-clause-tells : goal.returns-in-Some-clause-tells
returns-in-Some-clause-tells g c =
    let b = g.K.Sink.told c.args.sink.now in
    let a = g.K.Sink.told c.write_line.new.sink in
    of_entry (λ octets. TellsSaid (prints Done octets) b a c.written.result) c.in-Some.line.now
    (slice_get c.args.node.now.history c.args.place) c.in-Some.ensures
    (rw c.written.ensures (tells_written b a (c.in-Some.line.now ++ 10 ∷ []) c.write_line.result
    c.write_line.ensures))

pub returns-in-None-clause-tells : goal.returns-in-None-clause-tells
returns-in-None-clause-tells g c =
    of_no_entry _ (slice_get c.args.node.now.history c.args.place) c.in-None.ensures
