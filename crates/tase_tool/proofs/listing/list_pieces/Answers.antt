use Rattle.std.proofs.Common.{◌≡◌, ◌++◌, ◌∙◌, ℕ, List, [], length, take, ap, subst, rules, arith}
use Rattle.tpkt_cotp.specs.declared.limits.TheConstants.{PIECE_LIMIT}
use Rattle.tase_tool.proofs.Listed.{Stands, Stands-end, Stands-next, Stands-stop}
use Rattle.tase_tool.proofs.listing.list_pieces.Goals as goal

pub returns-then-count-eq0 : goal.returns-then-count-eq0
returns-then-count-eq0 g c =
    let old = g.K.Sink.told c.args.sink.now in
    let now = g.K.Sink.told c.loop-pieces.sink in
    let piece = c.next-count.new.piece in
    let zero : c.next-count.result ≡ 0 = omega arith in
    let room : length piece ≡ PIECE_LIMIT = search rules in
    let left : c.loop-pieces.pieces ≡ [] =
    c.next-count.ensures.octets
    ∙ ap (λ (n : ℕ). take n piece ++ c.next-count.new.self) zero
    ∙ c.next-count.ensures.full (omega (arith, zero, room)) in
    Stands-end c.args.pieces c.loop-pieces.lister [] old now
    (g.K.Sink.told c.finish_list.new.sink) c.finish_list.result
    (subst (λ (os : List ℕ). Stands c.args.pieces c.loop-pieces.lister os old now) left
    c.loop-pieces.invariant.stands)
    c.finish_list.ensures

pub loop-pieces-preserved : goal.loop-pieces-preserved
loop-pieces-preserved g c = record {
  stands = Stands-next c.args.pieces c.loop-pieces.lister c.in-Ok.next
      (take c.next-count.result c.next-count.new.piece) c.next-count.new.self c.loop-pieces.pieces
      (g.K.Sink.told c.args.sink.now) (g.K.Sink.told c.loop-pieces.sink)
      (g.K.Sink.told c.list_piece.new.sink)
      c.loop-pieces.invariant.stands c.next-count.ensures.octets c.in-Ok.ensures;
  room = search rules;
}

pub returns-in-Err : goal.returns-in-Err
returns-in-Err g c =
    Stands-stop c.args.pieces c.loop-pieces.lister
    (take c.next-count.result c.next-count.new.piece) c.next-count.new.self c.loop-pieces.pieces
    (g.K.Sink.told c.args.sink.now) (g.K.Sink.told c.loop-pieces.sink)
    (g.K.Sink.told c.list_piece.new.sink) c.in-Err.status
    c.loop-pieces.invariant.stands c.next-count.ensures.octets c.in-Err.ensures
