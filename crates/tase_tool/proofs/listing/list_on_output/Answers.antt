use Rattle.std.proofs.Common.{true, refl}
use Rattle.commands.proofs.OfIo.Printing.{IsRun-printed, IsRun-unprinted}
use Rattle.stack_assoc.specs.Listing.Listings.{listing_of}
use Rattle.tase_tool.specs.Listing.{listing_said}
use Rattle.tase_tool.proofs.Listed.{lists_command}
use Rattle.tase_tool.proofs.listing.list_on_output.Goals as goal

pub returns-in_default : goal.returns-in_default
returns-in_default g c =
    IsRun-unprinted (g.O.Outside.told c.args.outside.now) (g.O.Outside.told c.open_out.new.self)
    (g.O.Outside.told c.open_out.new.self) true
    (listing_said (listing_of c.args.pieces)) refl c.in_default.ensures

pub returns : goal.returns
returns g c =
    IsRun-printed (g.O.Outside.told c.args.outside.now) (g.O.Outside.told c.open_out.new.self)
    (g.O.Outside.told c.close_out.new.self) true
    (listing_said (listing_of c.args.pieces)) refl
    (g.O.Out.Sink.told c.in-Some.sink) (g.O.Out.Sink.told c.list_gathered-sink.result.0)
    c.list_gathered-sink.result.1
    c.in-Some.ensures c.list_gathered-sink.ensures c.close_out.ensures
    (lists_command (listing_of c.args.pieces) _ _ c.list_gathered-sink.result.1
    c.list_gathered-sink.ensures)
