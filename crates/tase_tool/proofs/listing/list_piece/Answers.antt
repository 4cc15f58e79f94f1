use Rattle.std.proofs.Common.{true, subst}
use Rattle.outside.specs.Sink.{AppendsPart}
use Rattle.tase_tool.proofs.Listed.{stopped_piece}
use Rattle.tase_tool.proofs.listing.list_piece.Goals as goal

pub returns-in-Err : goal.returns-in-Err
returns-in-Err g c =
    let before = g.K.Sink.told c.args.sink.now in
    let after = g.K.Sink.told c.write_all.new.sink in
    stopped_piece c.args.lister c.in-Ok.next c.args.piece.now c.clear.new.self.items
    c.feed.new.out.items before after c.in-Ok.ensures.lists c.clear.ensures.items
    (subst (λ os. AppendsPart before after os true) c.as_slice.ensures.value c.in-Err.ensures)
