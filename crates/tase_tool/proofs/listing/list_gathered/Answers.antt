use Rattle.std.proofs.Common.{false, sym, subst}
use Rattle.outside.specs.Sink.{AppendsPart}
use Rattle.outside.specs.Buffered.{buffered_told, Finishes}
use Rattle.outside.proofs.Writing.{AppendsPart-none}
use Rattle.commands.specs.Io.Runs.{TellsSaid}
use Rattle.commands.specs.declared.io.status.Status.TheVariants.{Outside}
use Rattle.stack_assoc.specs.Listing.Listings.{listing_of}
use Rattle.tase_tool.specs.Listing.{listing_said}
use Rattle.commands.proofs.OfFiles.Handed.{Tells-handed, Tells-unhanded, Tells-failed}
use Rattle.tase_tool.proofs.listing.list_gathered.Goals as goal

pub returns-in-Err : goal.returns-in-Err
returns-in-Err g c =
    let said = listing_said (listing_of c.args.pieces) in
    subst (λ s. AppendsPart (g.K.Sink.told c.args.sink) (g.K.Sink.told s) said.text false)
    (sym c.in-Err.ensures.err)
    (AppendsPart-none (g.K.Sink.told c.args.sink) said.text)

pub returns-in-Outside : goal.returns-in-Outside
returns-in-Outside g c =
    let said = listing_said (listing_of c.args.pieces) in
    subst (λ s. TellsSaid said (g.K.Sink.told c.args.sink) (g.K.Sink.told s) Outside)
    (sym c.into_sink.ensures)
    (Tells-failed (g.K.Sink.told c.args.sink) (g.K.Sink.told c.print_listing.new.sink.0)
    (g.K.Sink.told c.print_listing.new.sink.0) c.print_listing.new.sink.1 c.requires said
    (subst (λ s. TellsSaid said (buffered_told (g.K.Sink.told s.0) s.1)
    (buffered_told (g.K.Sink.told c.print_listing.new.sink.0) c.print_listing.new.sink.1) Outside)
    c.in-Ok.ensures.ok c.in-Outside.ensures))

pub returns-in_default-Ok : goal.returns-in_default-Ok
returns-in_default-Ok g c =
    let said = listing_said (listing_of c.args.pieces) in
    Tells-handed (g.K.Sink.told c.args.sink) (g.K.Sink.told c.print_listing.new.sink.0)
    (g.K.Sink.told c.finish.result.0) c.print_listing.new.sink.1 c.requires
    said c.print_listing.result c.in_default.not-Outside
    (subst (λ s. TellsSaid said (buffered_told (g.K.Sink.told s.0) s.1)
    (buffered_told (g.K.Sink.told c.print_listing.new.sink.0) c.print_listing.new.sink.1)
    c.print_listing.result)
    c.in-Ok.ensures.ok c.print_listing.ensures)
    (subst (λ r. Finishes (g.K.Sink.told c.print_listing.new.sink.0)
    (g.K.Sink.told c.finish.result.0)
    c.print_listing.new.sink.1 r) c.in_default-Ok.is-1 c.finish.ensures)

pub returns-in_default-Err : goal.returns-in_default-Err
returns-in_default-Err g c =
    let said = listing_said (listing_of c.args.pieces) in
    Tells-unhanded (g.K.Sink.told c.args.sink) (g.K.Sink.told c.print_listing.new.sink.0)
    (g.K.Sink.told c.finish.result.0) c.print_listing.new.sink.1 c.requires
    said c.print_listing.result c.in_default-Err.field-0-1 c.in_default.not-Outside
    (subst (λ s. TellsSaid said (buffered_told (g.K.Sink.told s.0) s.1)
    (buffered_told (g.K.Sink.told c.print_listing.new.sink.0) c.print_listing.new.sink.1)
    c.print_listing.result)
    c.in-Ok.ensures.ok c.print_listing.ensures)
    (subst (λ r. Finishes (g.K.Sink.told c.print_listing.new.sink.0)
    (g.K.Sink.told c.finish.result.0)
    c.print_listing.new.sink.1 r) c.in_default-Err.is-1 c.finish.ensures)
